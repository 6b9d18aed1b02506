-- A settled list is one whose first item stands at its expiry, and settling keeps the window.
use Rattle.std.proofs.Common.{◌≡◌, ◌≢◌, ℕ, zero, suc, ◌+◌, ◌-◌, ◌%◌, ◌^◌, ◌≤◌, ◌<◌, Bool, true, false, cond, eqb, List, [], ◌∷◌, length, get_or, refl, sym, ap, subst, ◌∙◌, arith, inl, inr, eqb-true, eq-eqb, ◌≤ℤ◌, ◌<ℤ◌, pos, ◌+ℤ◌}
use Rattle.std.specs.Prelude.{ℤ, int_le}
use Rattle.std.specs.List.{AllByRecursion}
use Rattle.std.proofs.lemmas.Int.{ints}
use Rattle.std.proofs.lemmas.Bool.{cases_Bool, false≢true, eqb-false, not-true}
use Rattle.sched_base.specs.KeyedList.{inserted}
use Rattle.sched_base.proofs.Inserted.{all-inserted, all-weaker}
use Rattle.queue_model.specs.Ticks.{distance, is_set}
use Rattle.queue_model.specs.WaitList.{WaitItem, WaitList, placed}
use Rattle.queue_model.specs.Settle.{first_moved, settled_by, settled, IsSettled}
use Rattle.queue_model.specs.Clock.{off, IsWithin, Covered, Sorted, Window}
use Rattle.queue_model.specs.Laws.{SettledLists}
use Rattle.queue_model.proofs.Walk.{half_circle, int_le-holds}
use Rattle.queue_model.proofs.SweepSteps.{int_le-fails}

abbrev list_of : List WaitItem → List ℕ → WaitList
list_of items es = record { items = items; expiries = es }

-- ---- it ends settled: each move leaves one item less that does not stand at its expiry

abbrev stray : List ℕ → WaitItem → ℕ
stray es y = cond (eqb (get_or es y.task 0) y.key) 0 1

abbrev strays : List ℕ → List WaitItem → ℕ
strays es [] = 0
strays es (y ∷ ys) = stray es y + strays es ys

strays-inserted : (es : List ℕ) (s : WaitItem → Bool) (x : WaitItem) (ys : List WaitItem) → strays es (inserted s x ys) ≡ stray es x + strays es ys
strays-inserted es s x [] = refl
strays-inserted es s x (y ∷ ys) =
    elim (cases_Bool (s y)) [
      | inl k ↦ rw k (let e = strays-inserted es s x ys in omega arith)
      | inr k ↦ rw k refl
    ]

strays-moved : (now : ℕ) (es : List ℕ) (items : List WaitItem) (y : WaitItem) (ys : List WaitItem) → strays es (first_moved now (list_of items es) y ys) ≡ strays es ys
strays-moved now es items y ys =
    elim (cases_Bool (is_set (get_or es y.task 0))) [
      | inl k ↦ rw k (strays-inserted es _ _ ys ∙ rw (eq-eqb (get_or es y.task 0) (get_or es y.task 0) refl) (omega arith))
      | inr k ↦ rw k refl
    ]

strays-le : (es : List ℕ) (ys : List WaitItem) → strays es ys ≤ length ys
strays-le es [] = omega arith
strays-le es (y ∷ ys) =
    let rest = strays-le es ys in
    elim (cases_Bool (eqb (get_or es y.task 0) y.key)) [ inl k ↦ rw k (omega arith) | inr k ↦ rw k (omega arith) ]

settles_by : (now n : ℕ) (items : List WaitItem) (es : List ℕ) → strays es items ≤ n → IsSettled (settled_by now n (list_of items es))
settles_by now zero [] es h = tt
settles_by now (suc n) [] es h = tt
settles_by now zero (y ∷ ys) es h =
    elim (cases_Bool (eqb (get_or es y.task 0) y.key)) [
      | inl k ↦ eqb-true _ _ k
      | inr k ↦ let one : 1 + strays es ys ≤ 0 = rw k at h in absurd (omega arith)
    ]
settles_by now (suc n) (y ∷ ys) es h =
    elim (cases_Bool (eqb (get_or es y.task 0) y.key)) [
      | inl k ↦ rw k (eqb-true _ _ k)
      | inr k ↦
          let one : 1 + strays es ys ≤ suc n = rw k at h in
          let e = strays-moved now es (y ∷ ys) y ys in
          rw k (settles_by now n (first_moved now (list_of (y ∷ ys) es) y ys) es (omega arith))
    ]

pub settled-is : (now : ℕ) (l : WaitList) → IsSettled (settled now l)
settled-is now l = settles_by now (length l.items) l.items l.expiries (strays-le l.expiries l.items)

-- ---- the order by distance is the one by offset

pub off_is : (t now : ℕ) → distance t now +ℤ pos (2 ^ 31) ≡ pos (off t now)
off_is t now = half_circle ((t + (2 ^ 32 - now)) % 2 ^ 32) (omega arith)

pub le_off : (a b now : ℕ) → int_le (distance a now) (distance b now) ≡ true → off a now ≤ off b now
le_off a b now h =
    let le = int_le-holds _ _ h in
    let ea = off_is a now in
    let eb = off_is b now in
    offsets (distance a now) (distance b now) (off a now) (off b now) le ea eb
  where
    offsets : (x y : ℤ) (m n : ℕ) → x ≤ℤ y → x +ℤ pos (2 ^ 31) ≡ pos m → y +ℤ pos (2 ^ 31) ≡ pos n → m ≤ n
    offsets x y m n le ex ey = omega (arith, ints)

pub lt_off : (a b now : ℕ) → int_le (distance a now) (distance b now) ≡ false → off b now < off a now
lt_off a b now h =
    let lt = int_le-fails _ _ h in
    let ea = off_is a now in
    let eb = off_is b now in
    offsets (distance a now) (distance b now) (off a now) (off b now) lt ea eb
  where
    offsets : (x y : ℤ) (m n : ℕ) → y <ℤ x → x +ℤ pos (2 ^ 31) ≡ pos m → y +ℤ pos (2 ^ 31) ≡ pos n → n < m
    offsets x y m n lt ex ey = omega (arith, ints)

-- ---- the window

pub sorted-placed : (now i t : ℕ) (ys : List WaitItem) → Sorted now ys → Sorted now (placed now i t ys)
sorted-placed now i t [] h = (tt, tt)
sorted-placed now i t (y ∷ ys) h =
    elim (cases_Bool (int_le (distance y.key now) (distance t now))) [
      | inl k ↦ rw k (all-inserted (λ (z : WaitItem). off y.key now ≤ off z.key now) _ _ ys (le_off y.key t now k) h.0, sorted-placed now i t ys h.1)
      | inr k ↦
          let lt = lt_off y.key t now k in
          rw k ((omega arith, all-weaker (λ (z : WaitItem). off y.key now ≤ off z.key now) (λ (z : WaitItem). off t now ≤ off z.key now) ys (λ z le. omega arith) h.0), h)
    ]

pub covered-here : (now i t : ℕ) (s : WaitItem → Bool) (x : WaitItem) (ys : List WaitItem) → x.task ≡ i → off x.key now ≤ off t now → Covered now i t (inserted s x ys)
covered-here now i t s x [] e le = inl (e, le)
covered-here now i t s x (y ∷ ys) e le =
    elim (cases_Bool (s y)) [ inl k ↦ rw k (inr (covered-here now i t s x ys e le)) | inr k ↦ rw k (inl (e, le)) ]

pub covered-there : (now i t : ℕ) (s : WaitItem → Bool) (x : WaitItem) (ys : List WaitItem) → Covered now i t ys → Covered now i t (inserted s x ys)
covered-there now i t s x [] h = absurd h
covered-there now i t s x (y ∷ ys) h =
    elim (cases_Bool (s y)) [
      | inl k ↦ rw k (elim h [ inl c ↦ inl c | inr c ↦ inr (covered-there now i t s x ys c) ])
      | inr k ↦ rw k (inr h)
    ]

-- what comes no earlier than all items does not lie behind what one of them covers
pub covered-from : (now i t low : ℕ) (ys : List WaitItem) → AllByRecursion (λ (z : WaitItem). low ≤ off z.key now) ys → Covered now i t ys → low ≤ off t now
covered-from now i t low [] all h = absurd h
covered-from now i t low (y ∷ ys) all h =
    elim h [
      | inl c ↦ let le = c.1 in let first = all.0 in omega arith
      | inr c ↦ covered-from now i t low ys all.1 c
    ]

-- an item whose task has no expiry goes
window_out : (low now : ℕ) (y : WaitItem) (ys : List WaitItem) (es : List ℕ) → is_set (get_or es y.task 0) ≡ false → Window low now (list_of (y ∷ ys) es) → Window low now (list_of ys es)
window_out low now y ys es unset h = record {
  keys = h.keys.1;
  sorted = h.sorted.1;
  ends = λ i set.
      let e = h.ends i set in (
        e.0,
        e.1,
        elim e.2 [
          | inl c ↦ let is : is_set (get_or es y.task 0) ≡ true = subst (λ (j : ℕ). is_set (get_or es j 0) ≡ true) (sym c.0) set in absurd (false≢true (sym unset ∙ is))
          | inr c ↦ c
        ],
      );
}

-- an item whose task has one moves there
window_placed : (low now : ℕ) (y : WaitItem) (ys : List WaitItem) (es : List ℕ) → is_set (get_or es y.task 0) ≡ true → Window low now (list_of (y ∷ ys) es) → Window low now (list_of (placed now y.task (get_or es y.task 0) ys) es)
window_placed low now y ys es set h =
    let t : ℕ = get_or es y.task 0 in
    let e = h.ends y.task set in
    let some : t ≢ 0 = eqb-false t 0 (not-true (eqb t 0) set) in
    let from : AllByRecursion (λ (z : WaitItem). low ≤ off z.key now) (y ∷ ys) = all-weaker (λ (z : WaitItem). IsWithin low now z.key) (λ (z : WaitItem). low ≤ off z.key now) (y ∷ ys) (λ z w. w.2) h.keys in
    let late : low ≤ off t now = covered-from now y.task t low (y ∷ ys) from e.2 in
    record {
      keys = all-inserted (λ (z : WaitItem). IsWithin low now z.key) _ _ ys (some, e.0, late, e.1) h.keys.1;
      sorted = sorted-placed now y.task t ys h.sorted.1;
      ends = λ i is.
          let f = h.ends i is in (
            f.0,
            f.1,
            elim f.2 [
              | inl c ↦ let same : off t now ≡ off (get_or es i 0) now = ap (λ (j : ℕ). off (get_or es j 0) now) c.0 in covered-here now i (get_or es i 0) _ _ ys c.0 (omega arith)
              | inr c ↦ covered-there now i (get_or es i 0) _ _ ys c
            ],
          );
    }

window_moved : (low now : ℕ) (y : WaitItem) (ys : List WaitItem) (es : List ℕ) → Window low now (list_of (y ∷ ys) es) → Window low now (list_of (first_moved now (list_of (y ∷ ys) es) y ys) es)
window_moved low now y ys es h =
    elim (cases_Bool (is_set (get_or es y.task 0))) [
      | inl k ↦ rw k (window_placed low now y ys es k h)
      | inr k ↦ rw k (window_out low now y ys es k h)
    ]

window_settled_by : (low now n : ℕ) (items : List WaitItem) (es : List ℕ) → Window low now (list_of items es) → Window low now (settled_by now n (list_of items es))
window_settled_by low now zero items es h = h
window_settled_by low now (suc n) [] es h = h
window_settled_by low now (suc n) (y ∷ ys) es h =
    elim (cases_Bool (eqb (get_or es y.task 0) y.key)) [
      | inl k ↦ rw k h
      | inr k ↦ rw k (window_settled_by low now n (first_moved now (list_of (y ∷ ys) es) y ys) es (window_moved low now y ys es h))
    ]

pub window-settled : (low now : ℕ) (l : WaitList) → Window low now l → Window low now (settled now l)
window-settled low now l h = window_settled_by low now (length l.items) l.items l.expiries h

-- ---- the first key of a settled list

first_is : (low now : ℕ) (es : List ℕ) (items : List WaitItem) (y : WaitItem) (ys : List WaitItem) → Window low now (list_of items es) → IsSettled (list_of items es) → items ≡ y ∷ ys → (get_or es y.task 0 ≡ y.key) × ((i : ℕ) → is_set (get_or es i 0) ≡ true → off y.key now ≤ off (get_or es i 0) now)
first_is low now es [] y ys h is e = cc
first_is low now es (x ∷ xs) y ys h is e =
    let same : x ≡ y = cc in (
      subst (λ (z : WaitItem). get_or es z.task 0 ≡ z.key) same is,
      λ i set. subst (λ (z : WaitItem). off z.key now ≤ off (get_or es i 0) now) same (covered-from now i (get_or es i 0) (off x.key now) (x ∷ xs) (omega arith, h.sorted.0) (h.ends i set).2),
    )

pub first-earliest : (low now : ℕ) (l : WaitList) (y : WaitItem) (ys : List WaitItem) → Window low now l → IsSettled l → l.items ≡ y ∷ ys → (get_or l.expiries y.task 0 ≡ y.key) × ((i : ℕ) → is_set (get_or l.expiries i 0) ≡ true → off y.key now ≤ off (get_or l.expiries i 0) now)
first-earliest low now l y ys h is e = first_is low now l.expiries l.items y ys h is e

pub none-set : (low now : ℕ) (l : WaitList) → Window low now l → l.items ≡ [] → (i : ℕ) → is_set (get_or l.expiries i 0) ≡ true → ⊥
none-set low now l h e i set = subst (λ (items : List WaitItem). Covered now i (get_or l.expiries i 0) items) e (h.ends i set).2

pub settled_lists : SettledLists
settled_lists = record { settles = settled-is; keeps = window-settled; first = first-earliest; none = none-set }
