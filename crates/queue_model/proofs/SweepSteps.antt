-- What one look at the first item of a wait list means for a step of a sweep.
use Rattle.std.proofs.Common.{◌≡◌, ℕ, Bool, true, false, not, eqb, List, [], ◌∷◌, ◌++◌, Some, None, map, drop, set, get_or, ◌≤ℤ◌, ◌<ℤ◌, refl, sym, ap, ◌∙◌, arith, inl, inr}
use Rattle.std.specs.Prelude.{ℤ, pos, int_le, fold, filter}
use Rattle.std.specs.List.{AllByRecursion}
use Rattle.std.proofs.lemmas.Int.{ints}
use Rattle.std.proofs.lemmas.Bool.{cases_Bool, false≢true, not-true, not-false, not_from_true, not_from_false}
use Rattle.queue_model.proofs.Walk.{int_le-true, int_le-holds}
use Rattle.std.proofs.lemmas.List.Elements.{filter-append}
use Rattle.sched_base.specs.KeyedList.{inserted}
use Rattle.sched_base.proofs.Inserted.{Answers, inserted-append_right, filter-inserted_out, filter-all, filter-none, filter-passes, all-weaker, all-inserted}
use Rattle.queue_model.specs.Ticks.{distance, is_set, is_expired}
use Rattle.queue_model.specs.WaitList.{WaitItem, WaitList, placed}
use Rattle.queue_model.specs.Sweep.{due}
use Rattle.queue_model.specs.SweepStep.{is_due, not_due, DueFirst, before, onward, fires, first_fired, unset_first, swept_once}

pub int_le-fails : (x y : ℤ) → int_le x y ≡ false → y <ℤ x
int_le-fails x y h = grind (arith, ints)

-- two lists from which a step comes to the same
pub record SameStep (now : ℕ) (l m : WaitList) : Type 0 where
  pub fired : first_fired now l ≡ first_fired now m
  pub list : swept_once now l ≡ swept_once now m

-- without a first item that is due nothing is
pub none_due : (now : ℕ) (y : WaitItem) (ys : List WaitItem) → is_due now y ≡ false → DueFirst now (y ∷ ys) → filter (is_due now) (y ∷ ys) ≡ []
none_due now y ys h first =
    rw h (empty (filter (is_due now) ys) (filter-passes (is_due now) ys) (rw h at first))
  where
    empty : (zs : List WaitItem) → Answers true (is_due now) zs → zs ++ y ∷ not_due now ys ≡ y ∷ ys → zs ≡ []
    empty [] all e = refl
    empty (z ∷ zs) all e =
        let same : z ≡ y = cc in
        let both : true ≡ false = sym all.0 ∙ ap (is_due now) same ∙ h in
        cc

pub due_first_rest : (now : ℕ) (y : WaitItem) (ys : List WaitItem) → is_due now y ≡ true → DueFirst now (y ∷ ys) → DueFirst now ys
due_first_rest now y ys h first = let e : y ∷ (filter (is_due now) ys ++ not_due now ys) ≡ y ∷ ys = rw h at first in cc

-- where nothing is due, a step changes nothing
pub step_settled : (now : ℕ) (l : WaitList) → due now l ≡ [] → (first_fired now l ≡ None) × (swept_once now l ≡ l)
step_settled now l none =
    (rw none refl, rw none (ap (λ (ys : List WaitItem). let m : WaitList = record { items = ys; expiries = l.expiries } in m) (filter-all (λ (y : WaitItem). not (is_due now y)) l.items (all_ahead l.items none))))
  where
    all_ahead : (ys : List WaitItem) → filter (is_due now) ys ≡ [] → Answers true (λ (y : WaitItem). not (is_due now y)) ys
    all_ahead [] h = tt
    all_ahead (y ∷ ys) h =
        elim (cases_Bool (is_due now y)) [
          | inl k ↦ let s = rw k at h in cc
          | inr k ↦ (not_from_false (is_due now y) k, all_ahead ys (rw k at h))
        ]

-- what is due lies before what is set and still ahead
pub due_before : (now t : ℕ) (zs : List WaitItem) → is_set t ≡ true → is_expired t now ≡ false → Answers true (is_due now) zs → Answers true (λ (z : WaitItem). int_le (distance z.key now) (distance t now)) zs
due_before now t zs armed later all =
    all-weaker (λ (z : WaitItem). is_due now z ≡ true) (λ (z : WaitItem). int_le (distance z.key now) (distance t now) ≡ true) zs (λ z h.
    let lt : pos 0 <ℤ distance t now = ahead_of t armed later in
    let le : distance z.key now ≤ℤ pos 0 = behind z.key h in
    let both : distance z.key now ≤ℤ distance t now = omega (arith, ints) in int_le-true _ _ both) all
  where
    ahead_of : (t : ℕ) → is_set t ≡ true → is_expired t now ≡ false → pos 0 <ℤ distance t now
    ahead_of t armed later = int_le-fails (distance t now) (pos 0) (rw (not-true (eqb t 0) armed) at later)

    behind : (k : ℕ) → is_expired k now ≡ true → distance k now ≤ℤ pos 0
    behind k h =
        elim (cases_Bool (eqb k 0)) [
          | inl e ↦ absurd (false≢true (rw e at h))
          | inr e ↦ int_le-holds (distance k now) (pos 0) (rw e at h)
        ]

pub all-onward : {X : Type 0} (P : X → Type 0) (f : X → Bool) (xs : List X) → AllByRecursion P xs → AllByRecursion P (onward f xs)
all-onward P f [] all = tt
all-onward P f (x ∷ xs) all = elim (cases_Bool (f x)) [ inl k ↦ rw k all | inr k ↦ rw k (all-onward P f xs all.1) ]

pub all-behind : {X : Type 0} (P : X → Type 0) (xs : List X) → AllByRecursion P xs → AllByRecursion P (drop 1 xs)
all-behind P [] all = tt
all-behind P (x ∷ xs) all = all.1

-- where an item still ahead goes in, behind the due ones
pub ahead-placed : (now i t : ℕ) (ys : List WaitItem) → is_set t ≡ true → is_expired t now ≡ false → DueFirst now ys → not_due now (placed now i t ys) ≡ placed now i t (not_due now ys)
ahead-placed now i t ys set later first =
    let s : WaitItem → Bool = λ z. int_le (distance z.key now) (distance t now) in
    let x : WaitItem = record { key = t; task = i } in
    let d : List WaitItem = filter (is_due now) ys in
    let a : List WaitItem = not_due now ys in
    let nd : WaitItem → Bool = λ z. not (is_due now z) in
    let due_d : Answers true (is_due now) d = filter-passes (is_due now) ys in
    let gone : filter nd d ≡ [] = filter-none nd d (all-weaker (λ (z : WaitItem). is_due now z ≡ true) (λ (z : WaitItem). nd z ≡ false) d (λ z h. not_from_true (is_due now z) h) due_d) in
    let stay : filter nd (inserted s x a) ≡ inserted s x a = filter-all nd (inserted s x a) (all-inserted (λ (z : WaitItem). nd z ≡ true) s x a (not_from_false (is_due now x) later) (filter-passes nd ys)) in
    ap (λ (zs : List WaitItem). filter nd (inserted s x zs)) (sym first)
    ∙ ap (filter nd) (inserted-append_right s x d a (due_before now t d set later due_d))
    ∙ filter-append nd d (inserted s x a)
    ∙ rw (gone, stay) refl

-- a first item that is passed and goes back in at its expiry
pub step_puts_back : (now : ℕ) (y : WaitItem) (ys : List WaitItem) (es : List ℕ) (t : ℕ) → t ≡ get_or es y.task 0 → is_due now y ≡ true → is_expired t now ≡ false → is_set t ≡ true → DueFirst now (y ∷ ys) → SameStep now (record { items = placed now y.task t ys; expiries = es }) (record { items = y ∷ ys; expiries = es })
step_puts_back now y ys es t is d later set first =
    let rest = due_first_rest now y ys d first in
    let s : WaitItem → Bool = λ z. int_le (distance z.key now) (distance t now) in
    let x : WaitItem = record { key = t; task = y.task } in
    let f : WaitItem → Bool = λ z. is_expired (get_or es z.task 0) now in
    let due_d : List WaitItem = filter (is_due now) ys in
    let e : get_or es y.task 0 ≡ t = sym is in
    let same_due : filter (is_due now) (placed now y.task t ys) ≡ due_d = filter-inserted_out (is_due now) s x ys later in
    let back : List WaitItem = drop 1 (onward f due_d) in
    let behind : placed now y.task t (back ++ not_due now ys) ≡ back ++ placed now y.task t (not_due now ys) = inserted-append_right s x back (not_due now ys) (due_before now t back set later (all-behind _ (onward f due_d) (all-onward _ f due_d (filter-passes (is_due now) ys)))) in
    let quiet : f y ≡ false = rw e later in
    let again : List ℕ = map (λ (z : WaitItem). z.task) (filter (λ (z : WaitItem). is_set (get_or es z.task 0)) (before f due_d)) in
    let g : List WaitItem → ℕ → List WaitItem = λ zs i. placed now i (get_or es i 0) zs in
    let start : back ++ not_due now (placed now y.task t ys) ≡ g (back ++ not_due now ys) y.task = ap (λ (zs : List WaitItem). back ++ zs) (ahead-placed now y.task t ys set later rest) ∙ sym behind ∙ ap (λ k. placed now y.task k (back ++ not_due now ys)) is in
    let set' : is_set (get_or es y.task 0) ≡ true = rw e set in
    record {
      fired = rw (same_due, d) (rw quiet refl);
      list = rw (same_due, d) (rw quiet (rw set' (ap (λ (zs : List WaitItem). let m : WaitList = record { items = fold g zs again; expiries = unset_first (onward f due_d) es } in m) start)));
    }

-- a first item that is passed and forgotten
pub step_forgets : (now : ℕ) (y : WaitItem) (ys : List WaitItem) (es : List ℕ) → is_due now y ≡ true → is_set (get_or es y.task 0) ≡ false → SameStep now (record { items = ys; expiries = es }) (record { items = y ∷ ys; expiries = es })
step_forgets now y ys es d unset =
    let zero' : eqb (get_or es y.task 0) 0 ≡ true = not-false _ unset in
    let quiet : is_expired (get_or es y.task 0) now ≡ false = rw zero' refl in
    record {
      fired = rw d (rw quiet refl);
      list = rw d (rw quiet (rw unset refl));
    }

-- a first item that fires
pub step_fires : (now : ℕ) (y : WaitItem) (ys : List WaitItem) (es : List ℕ) → is_due now y ≡ true → fires now (record { items = y ∷ ys; expiries = es }) y ≡ true → DueFirst now (y ∷ ys) → (first_fired now (record { items = y ∷ ys; expiries = es }) ≡ Some y.task) × (swept_once now (record { items = y ∷ ys; expiries = es }) ≡ record { items = ys; expiries = set es y.task 0 })
step_fires now y ys es d f first =
    let rest = due_first_rest now y ys d first in
    (rw d (rw f refl), rw (d, f) (ap (λ (zs : List WaitItem). let m : WaitList = record { items = zs; expiries = set es y.task 0 } in m) rest))
