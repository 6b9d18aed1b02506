-- How a list settles, item by item.
use Rattle.std.proofs.Common.{◌≡◌, ℕ, zero, suc, ◌+◌, ◌^◌, ◌≤◌, ◌<◌, Bool, true, false, cond, eqb, List, [], ◌∷◌, Option, None, Some, length, get_or, refl, sym, ap, subst, ◌∙◌, arith, eq-eqb, inl, inr}
use Rattle.std.proofs.lemmas.Bool.{cases_Bool, ne_eqb}
use Rattle.sched_base.specs.KeyedList.{inserted, KeyedRoots, AreKeyed, ChangesRoot}
use Rattle.queue_model.specs.Ticks.{is_set}
use Rattle.queue_model.specs.WaitList.{WaitItem, WaitList, placed}
use Rattle.queue_model.specs.Settle.{first_moved, moved_on, settled_by, settled, IsSettled}
use Rattle.wait_queue.specs.Looks.{Moved, IsLeft}
use Rattle.wait_queue.specs.Timers.{Timers, wait_list, Fits, Inserts, insertions_of}
use Rattle.wait_queue.proofs.Meaning.{changes_none, changes_both, items_bound}

abbrev list_of : List WaitItem → List ℕ → WaitList
list_of items es = record { items = items; expiries = es }

-- ---- how many items do not stand at their expiries

abbrev stray : List ℕ → WaitItem → ℕ
stray es y = cond (eqb (get_or es y.task 0) y.key) 0 1

abbrev pub strays : List ℕ → List WaitItem → ℕ
strays es [] = 0
strays es (y ∷ ys) = stray es y + strays es ys

strays-inserted : (es : List ℕ) (s : WaitItem → Bool) (x : WaitItem) (ys : List WaitItem) → strays es (inserted s x ys) ≡ stray es x + strays es ys
strays-inserted es s x [] = refl
strays-inserted es s x (y ∷ ys) =
    elim (cases_Bool (s y)) [
      | inl k ↦ rw k (let e = strays-inserted es s x ys in omega arith)
      | inr k ↦ rw k refl
    ]

strays-moved : (now : ℕ) (es : List ℕ) (items : List WaitItem) (y : WaitItem) (ys : List WaitItem) → strays es (first_moved now (list_of items es) y ys) ≡ strays es ys
strays-moved now es items y ys =
    elim (cases_Bool (is_set (get_or es y.task 0))) [
      | inl k ↦ rw k (strays-inserted es _ _ ys ∙ rw (eq-eqb (get_or es y.task 0) (get_or es y.task 0) refl) (omega arith))
      | inr k ↦ rw k refl
    ]

pub strays-le : (es : List ℕ) (ys : List WaitItem) → strays es ys ≤ length ys
strays-le es [] = omega arith
strays-le es (y ∷ ys) =
    let rest = strays-le es ys in
    elim (cases_Bool (eqb (get_or es y.task 0) y.key)) [ inl k ↦ rw k (omega arith) | inr k ↦ rw k (omega arith) ]

-- ---- any number of moves that is not below that settles the list

enough : (now m n : ℕ) (items : List WaitItem) (es : List ℕ) → strays es items ≤ m → strays es items ≤ n → settled_by now m (list_of items es) ≡ settled_by now n (list_of items es)
enough now zero zero items es h g = refl
enough now zero (suc n) [] es h g = refl
enough now (suc m) zero [] es h g = refl
enough now (suc m) (suc n) [] es h g = refl
enough now zero (suc n) (y ∷ ys) es h g =
    elim (cases_Bool (eqb (get_or es y.task 0) y.key)) [
      | inl k ↦ rw k refl
      | inr k ↦ let one : 1 + strays es ys ≤ 0 = rw k at h in absurd (omega arith)
    ]
enough now (suc m) zero (y ∷ ys) es h g =
    elim (cases_Bool (eqb (get_or es y.task 0) y.key)) [
      | inl k ↦ rw k refl
      | inr k ↦ let one : 1 + strays es ys ≤ 0 = rw k at g in absurd (omega arith)
    ]
enough now (suc m) (suc n) (y ∷ ys) es h g =
    elim (cases_Bool (eqb (get_or es y.task 0) y.key)) [
      | inl k ↦ rw k refl
      | inr k ↦
          let a : 1 + strays es ys ≤ suc m = rw k at h in
          let b : 1 + strays es ys ≤ suc n = rw k at g in
          let e = strays-moved now es (y ∷ ys) y ys in
          rw k (enough now m n (first_moved now (list_of (y ∷ ys) es) y ys) es (omega arith) (omega arith))
    ]

-- ---- one move

-- a list from which an item moved settles as before, with one item less out of its place
pub record Steps (now : ℕ) (old new : WaitList) : Type 0 where
  pub same : settled now new ≡ settled now old
  pub fewer : strays old.expiries old.items ≡ strays new.expiries new.items + 1

moves_on : (now : ℕ) (items moved : List WaitItem) (es : List ℕ) → moved_on now (list_of items es) items ≡ Some moved → Steps now (list_of items es) (list_of moved es)
moves_on now [] moved es h = cc
moves_on now (y ∷ ys) moved es h =
    elim (cases_Bool (eqb (get_or es y.task 0) y.key)) [
      | inl k ↦ (let g = rw k at h in cc)
      | inr k ↦
          (let g : Some (first_moved now (list_of (y ∷ ys) es) y ys) ≡ Some moved = rw k at h in
          let is : first_moved now (list_of (y ∷ ys) es) y ys ≡ moved = cc in
          let e = strays-moved now es (y ∷ ys) y ys in
          let count : strays es moved ≡ strays es ys = ap (strays es) (sym is) ∙ e in
          let all : strays es ys ≤ length ys = strays-le es ys in
          let own : strays es moved ≤ length moved = strays-le es moved in
          record {
            same = rw k (rw is (enough now (length moved) (length ys) moved es own (omega arith)));
            fewer = rw k (omega arith);
          })
    ]

pub moved-steps : (now : ℕ) (old new : WaitList) → Moved now old new → Steps now old new
moved-steps now old new h =
    let s = moves_on now old.items new.items old.expiries h.items in
    let es : List ℕ = old.expiries in
    let same : new.expiries ≡ old.expiries = h.expiries in
    record {
      same = ap (λ (xs : List ℕ). settled now (list_of new.items xs)) same ∙ s.same;
      fewer = s.fewer ∙ ap (λ (xs : List ℕ). strays xs new.items + 1) (sym same);
    }

none_moves : (now n : ℕ) (items : List WaitItem) (es : List ℕ) → moved_on now (list_of items es) items ≡ None → settled_by now n (list_of items es) ≡ list_of items es
none_moves now zero items es h = refl
none_moves now (suc n) items es h = rw h refl

pub left-settled : (now : ℕ) (l : WaitList) → IsLeft now l → settled now l ≡ l
left-settled now l h = none_moves now (length l.items) l.items l.expiries h

-- ---- what the first item does

pub stands_there : (now : ℕ) (y : WaitItem) (ys : List WaitItem) (es : List ℕ) → get_or es y.task 0 ≡ y.key → moved_on now (list_of (y ∷ ys) es) (y ∷ ys) ≡ None
stands_there now y ys es e = rw (eq-eqb (get_or es y.task 0) y.key e) refl

pub goes_out : (now : ℕ) (y : WaitItem) (ys : List WaitItem) (es : List ℕ) → (get_or es y.task 0 ≡ y.key → ⊥) → is_set (get_or es y.task 0) ≡ false → moved_on now (list_of (y ∷ ys) es) (y ∷ ys) ≡ Some ys
goes_out now y ys es ne unset = rw (ne_eqb (get_or es y.task 0) y.key ne, unset) refl

pub goes_on : (now : ℕ) (y : WaitItem) (ys : List WaitItem) (es : List ℕ) → (get_or es y.task 0 ≡ y.key → ⊥) → is_set (get_or es y.task 0) ≡ true → moved_on now (list_of (y ∷ ys) es) (y ∷ ys) ≡ Some (placed now y.task (get_or es y.task 0) ys)
goes_on now y ys es ne set = rw (ne_eqb (get_or es y.task 0) y.key ne, set) refl

-- where the first item moves, it does not stand at its expiry
pub moves_some : (now : ℕ) (old new : WaitList) → Moved now old new → IsLeft now old → ⊥
moves_some now old new m none = let some = m.items in cc

left_stands : (now : ℕ) (es : List ℕ) (items : List WaitItem) → IsSettled (list_of items es) → IsLeft now (list_of items es)
left_stands now es [] h = refl
left_stands now es (y ∷ ys) h = stands_there now y ys es h

pub is_left : (now : ℕ) (l : WaitList) → IsSettled l → IsLeft now l
is_left now l h = left_stands now l.expiries l.items h

-- ---- how far it has come

-- from a queue and lists at the start to the lists now
pub record SoSettled (now : ℕ) (q : Timers) (s0 s : KeyedRoots) : Type 0 where
  pub fits : Fits q s
  pub list : settled now (wait_list now q s) ≡ settled now (wait_list now q s0)
  pub stays : IsLeft now (wait_list now q s0) → s ≡ s0
  pub others : ChangesRoot q.root s0 s
  pub grows : insertions_of q s0 ≤ insertions_of q s
  pub bound : insertions_of q s + strays q.expiries (wait_list now q s).items ≤ insertions_of q s0 + length q.expiries

pub start : (now : ℕ) (q : Timers) (s : KeyedRoots) → Fits q s → AreKeyed s → SoSettled now q s s
start now q s f keyed =
    let some : strays q.expiries (wait_list now q s).items ≤ length (wait_list now q s).items = strays-le q.expiries (wait_list now q s).items in
    let few : length (wait_list now q s).items ≤ length q.expiries = items_bound now q s f keyed in
    record { fits = f; list = refl; stays = λ none. refl; others = changes_none q.root s; grows = omega arith; bound = omega arith }

pub onward : (now : ℕ) (q : Timers) (s0 s t : KeyedRoots) → SoSettled now q s0 s → Moved now (wait_list now q s) (wait_list now q t) → Fits q t → ChangesRoot q.root s t → Inserts 1 q s t → SoSettled now q s0 t
onward now q s0 s t far m f c i =
    let one = (moved-steps now (wait_list now q s) (wait_list now q t) m).fewer in
    record {
      fits = f;
      list = (moved-steps now (wait_list now q s) (wait_list now q t) m).same ∙ far.list;
      stays = λ none. absurd (moves_some now (wait_list now q s) (wait_list now q t) m (subst (λ (x : KeyedRoots). IsLeft now (wait_list now q x)) (sym (far.stays none)) none));
      others = changes_both q.root s0 s t far.others c;
      grows = omega (arith, far.grows, i.grows);
      bound = omega (arith, one, far.bound, i.bound);
    }

-- where the first item moves, there is one that does not stand at its expiry
some_stray : (now : ℕ) (es : List ℕ) (items : List WaitItem) → (moved_on now (list_of items es) items ≡ None → ⊥) → 0 < strays es items
some_stray now es [] h = absurd (h refl)
some_stray now es (y ∷ ys) h =
    elim (cases_Bool (eqb (get_or es y.task 0) y.key)) [
      | inl k ↦ absurd (h (rw k refl))
      | inr k ↦ rw k (omega arith)
    ]

pub room : (now : ℕ) (q : Timers) (s0 s : KeyedRoots) → SoSettled now q s0 s → insertions_of q s0 + length q.expiries < 2 ^ 63 → (IsLeft now (wait_list now q s) → ⊥) → insertions_of q s + 1 < 2 ^ 63
room now q s0 s far few h =
    let some = some_stray now q.expiries (wait_list now q s).items h in
    let bound : insertions_of q s + strays q.expiries (wait_list now q s).items ≤ insertions_of q s0 + length q.expiries = far.bound in
    omega arith

pub onward_same : (now : ℕ) (q r : Timers) (s0 s t : KeyedRoots) → r ≡ q → SoSettled now q s0 s → Moved now (wait_list now q s) (wait_list now r t) → Fits r t → ChangesRoot q.root s t → Inserts 1 q s t → SoSettled now r s0 t
onward_same now q r s0 s t e far m f c i =
    subst (λ (x : Timers). SoSettled now x s0 t) (sym e) (onward now q s0 s t far (subst (λ (x : Timers). Moved now (wait_list now q s) (wait_list now x t)) e m) (subst (λ (x : Timers). Fits x t) e f) c i)

pub smaller : (now : ℕ) (q r : Timers) (s t : KeyedRoots) → Moved now (wait_list now q s) (wait_list now r t) → strays r.expiries (wait_list now r t).items < strays q.expiries (wait_list now q s).items
smaller now q r s t m = let one = (moved-steps now (wait_list now q s) (wait_list now r t) m).fewer in omega arith
