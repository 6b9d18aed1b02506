-- What keeps the window of a worker's timers: a timer set or unset, a task unlinked, a sweep, and the next tick.
use Rattle.std.proofs.Common.{◌≡◌, ◌≢◌, ℕ, ◌+◌, ◌^◌, ◌<◌, ◌≤◌, Bool, true, false, not, ◌==◌, if◌then◌else◌, inl, inr, List, [], ◌∷◌, Option, None, Some, length, get_or, set, refl, sym, ap, ◌∙◌, arith, subst, eqb-true, ne_eqb, pos}
use Rattle.std.specs.Prelude.{int_lt}
use Rattle.std.specs.List.{AllByRecursion, filter, find}
use Rattle.std.proofs.lemmas.Bool.{cases_Bool, cases_eq, cases_lt, false≢true, eqb-false, not-true}
use Rattle.std.proofs.lemmas.List.{get_or-set_same, get_or-set_other, set_past, get_or_past}
use Rattle.sched_base.proofs.Inserted.{all-inserted, all-filter}
use Rattle.queue_model.specs.Ticks.{distance, is_set}
use Rattle.queue_model.specs.WaitList.{WaitItem, WaitList, with_expiry, is_of, without, placed, armed_at, armed, unlinked}
use Rattle.queue_model.specs.Clock.{off, IsWithin, Covered, Sorted, Window, ahead}
use Rattle.queue_model.proofs.Offsets.{covers}
use Rattle.queue_model.proofs.Settles.{sorted-placed, covered-here, covered-there}

abbrev list_of : List WaitItem → List ℕ → WaitList
list_of items es = record { items = items; expiries = es }

pub not_zero : (t : ℕ) → is_set t ≡ true → t ≢ 0
not_zero t h = eqb-false t 0 (not-true (t == 0) h)

-- ---- an expiry that is unset

-- an expiry that is set once another one is unset was set before
pub unset-other : (es : List ℕ) (i j : ℕ) → is_set (get_or (set es i 0) j 0) ≡ true → (get_or (set es i 0) j 0 ≡ get_or es j 0) × (j ≢ i)
unset-other es i j h =
    elim (cases_eq j i) [
      | inl same ↦ absurd (not_zero (get_or (set es i 0) j 0) h (gone es i j same))
      | inr ne ↦ (get_or-set_other es i j 0 0 ne, ne)
    ]
  where
    gone : (es : List ℕ) (i j : ℕ) → j ≡ i → get_or (set es i 0) j 0 ≡ 0
    gone es i j same =
        elim (cases_lt i (length es)) [
          | inl lt ↦ rw same (get_or-set_same es i 0 0 lt)
          | inr le ↦ rw (set_past es i 0 le) (get_or_past es j 0 (omega arith))
        ]

-- a fact of an expiry and of whether it is covered, at another list of expiries where it is the same
pub ends_same : (now t u i : ℕ) (ys : List WaitItem) → t ≡ u → (u < 2 ^ 32) × (off u now ≤ 2 ^ 31 + 2 ^ 30 + 1) × Covered now i u ys → (t < 2 ^ 32) × (off t now ≤ 2 ^ 31 + 2 ^ 30 + 1) × Covered now i t ys
ends_same now t u i ys e h = rw e h

pub window-never : (low now i : ℕ) (l : WaitList) → Window low now l → Window low now (with_expiry i 0 l)
window-never low now i l h = record {
  keys = h.keys;
  sorted = h.sorted;
  ends = λ j is.
      let u = unset-other l.expiries i j is in
      ends_same now (get_or (set l.expiries i 0) j 0) (get_or l.expiries j 0) j l.items u.0 (h.ends j (subst (λ (t : ℕ). is_set t ≡ true) u.0 is));
}

-- ---- items that leave

covered-filter : (now i t : ℕ) (q : WaitItem → Bool) (ys : List WaitItem) → ((y : WaitItem) → y.task ≡ i → q y ≡ true) → Covered now i t ys → Covered now i t (filter q ys)
covered-filter now i t q [] stays h = h
covered-filter now i t q (y ∷ ys) stays h =
    elim (cases_Bool (q y)) [
      | inl k ↦ rw k (elim h [ inl c ↦ inl c | inr c ↦ inr (covered-filter now i t q ys stays c) ])
      | inr k ↦ rw k (elim h [ inl c ↦ absurd (false≢true (sym k ∙ stays y c.0)) | inr c ↦ covered-filter now i t q ys stays c ])
    ]

pub sorted-filter : (now : ℕ) (q : WaitItem → Bool) (ys : List WaitItem) → Sorted now ys → Sorted now (filter q ys)
sorted-filter now q [] h = h
sorted-filter now q (y ∷ ys) h =
    elim (cases_Bool (q y)) [
      | inl k ↦ rw k (all-filter (λ (z : WaitItem). off y.key now ≤ off z.key now) q ys h.0, sorted-filter now q ys h.1)
      | inr k ↦ rw k (sorted-filter now q ys h.1)
    ]

other_stays : (i j : ℕ) (y : WaitItem) → j ≢ i → y.task ≡ j → not (is_of i y) ≡ true
other_stays i j y ne e = let no : y.task ≢ i = λ same. ne (sym e ∙ same) in rw (ne_eqb y.task i no) refl

pub window-unlinked : (low now i : ℕ) (l : WaitList) → Window low now l → Window low now (unlinked i l)
window-unlinked low now i l h = record {
  keys = all-filter (λ (y : WaitItem). IsWithin low now y.key) _ l.items h.keys;
  sorted = sorted-filter now _ l.items h.sorted;
  ends = λ j is.
      let u = unset-other l.expiries i j is in
      let e = h.ends j (subst (λ (t : ℕ). is_set t ≡ true) u.0 is) in
      ends_same now (get_or (set l.expiries i 0) j 0) (get_or l.expiries j 0) j (without i l.items) u.0 (e.0, e.1, covered-filter now j (get_or l.expiries j 0) (λ y. not (is_of i y)) l.items (λ y same. other_stays i j y u.1 same) e.2);
}

-- ---- a timer that is set

-- the items once a task is armed: they keep what holds of all of them, their order, and what covers other tasks, and some
-- item covers the task
record Arms (now i t : ℕ) (old new : List WaitItem) : Type 0 where
  keys : AllByRecursion (λ (y : WaitItem). IsWithin ahead now y.key) new
  sorted : Sorted now new
  others : (j u : ℕ) → j ≢ i → Covered now j u old → Covered now j u new
  here : Covered now i t new

arms-placed : (now i t : ℕ) (old items : List WaitItem) → IsWithin ahead now t → AllByRecursion (λ (y : WaitItem). IsWithin ahead now y.key) items → Sorted now items → ((j u : ℕ) → j ≢ i → Covered now j u old → Covered now j u items) → Arms now i t old (placed now i t items)
arms-placed now i t old items is keys sorted others = record {
  keys = all-inserted (λ (y : WaitItem). IsWithin ahead now y.key) _ _ items is keys;
  sorted = sorted-placed now i t items sorted;
  others = λ j u ne h. covered-there now j u _ _ items (others j u ne h);
  here = covered-here now i t _ _ items refl (omega arith);
}

found_covers : (now i t : ℕ) (y : WaitItem) (ys : List WaitItem) → find (is_of i) ys ≡ Some y → off y.key now ≤ off t now → Covered now i t ys
found_covers now i t y [] e le = cc
found_covers now i t y (x ∷ xs) e le =
    elim (cases_Bool (is_of i x)) [
      | inl k ↦ (let f : Some x ≡ Some y = rw k at e in let same : x ≡ y = cc in inl (eqb-true x.task i k, subst (λ (z : WaitItem). off z.key now ≤ off t now) (sym same) le))
      | inr k ↦ (let f : find (is_of i) xs ≡ Some y = rw k at e in inr (found_covers now i t y xs f le))
    ]

found_within : (P : WaitItem → Type 0) (i : ℕ) (y : WaitItem) (ys : List WaitItem) → find (is_of i) ys ≡ Some y → AllByRecursion P ys → P y
found_within P i y [] e h = cc
found_within P i y (x ∷ xs) e h =
    elim (cases_Bool (is_of i x)) [
      | inl k ↦ (let f : Some x ≡ Some y = rw k at e in let same : x ≡ y = cc in subst P same h.0)
      | inr k ↦ (let f : find (is_of i) xs ≡ Some y = rw k at e in found_within P i y xs f h.1)
    ]

arms-found : (now i t : ℕ) (y : WaitItem) (items : List WaitItem) (earlier : Bool) → now < 2 ^ 32 → IsWithin ahead now t → find (is_of i) items ≡ Some y → int_lt (distance t y.key) (pos 0) ≡ earlier → AllByRecursion (λ (y : WaitItem). IsWithin ahead now y.key) items → Sorted now items → Arms now i t items (if earlier then placed now i t (without i items) else items)
arms-found now i t y items true n is found e keys sorted =
    arms-placed now i t items (without i items) is (all-filter (λ (z : WaitItem). IsWithin ahead now z.key) _ items keys) (sorted-filter now _ items sorted) (λ j u ne h. covered-filter now j u (λ z. not (is_of i z)) items (λ z same. other_stays i j z ne same) h)
arms-found now i t y items false n is found e keys sorted = record {
  keys = keys;
  sorted = sorted;
  others = λ j u ne h. h;
  here = found_covers now i t y items found (covers now t y.key n is (found_within (λ z. IsWithin ahead now z.key) i y items found keys) e);
}

arms-at : (now i t : ℕ) (o : Option WaitItem) (items : List WaitItem) → now < 2 ^ 32 → IsWithin ahead now t → find (is_of i) items ≡ o → AllByRecursion (λ (y : WaitItem). IsWithin ahead now y.key) items → Sorted now items → Arms now i t items (armed_at now i t o items)
arms-at now i t None items n is found keys sorted = arms-placed now i t items items is keys sorted (λ j u ne h. h)
arms-at now i t (Some y) items n is found keys sorted =
    arms-found now i t y items (int_lt (distance t y.key) (pos 0)) n is found refl keys sorted

-- a task armed for a tick ahead
window-set : (now i t : ℕ) (l : WaitList) → now < 2 ^ 32 → IsWithin ahead now t → i < length l.expiries → Window ahead now l → Window ahead now (list_of (armed_at now i t (find (is_of i) l.items) l.items) (set l.expiries i t))
window-set now i t l n is lt h =
    let arms = arms-at now i t (find (is_of i) l.items) l.items n is refl h.keys h.sorted in
    let items = armed_at now i t (find (is_of i) l.items) l.items in
    record {
      keys = arms.keys;
      sorted = arms.sorted;
      ends = λ j set_so.
          elim (cases_eq j i) [
            | inl same ↦
                (let e : get_or (set l.expiries i t) j 0 ≡ t = ap (λ k. get_or (set l.expiries i t) k 0) same ∙ get_or-set_same l.expiries i t 0 lt in
                let here : Covered now j t items = subst (λ (k : ℕ). Covered now k t items) (sym same) arms.here in
                ends_same now (get_or (set l.expiries i t) j 0) t j items e (is.1, is.3, here))
            | inr ne ↦
                (let e = get_or-set_other l.expiries i j t 0 ne in
                let f = h.ends j (subst (λ (u : ℕ). is_set u ≡ true) e set_so) in
                ends_same now (get_or (set l.expiries i t) j 0) (get_or l.expiries j 0) j items e (f.0, f.1, arms.others j (get_or l.expiries j 0) ne f.2))
          ];
    }

pub window-armed : (now i t : ℕ) (l : WaitList) → now < 2 ^ 32 → IsWithin ahead now t → Window ahead now l → Window ahead now (armed now i (with_expiry i t l))
window-armed now i t l n is h =
    elim (cases_lt i (length l.expiries)) [
      | inl lt ↦
          (let e : get_or (set l.expiries i t) i 0 ≡ t = get_or-set_same l.expiries i t 0 lt in
          let some : is_set t ≡ true = rw (ne_eqb t 0 is.0) refl in
          rw (e, some) (window-set now i t l n is lt h))
      | inr le ↦
          (let none : get_or l.expiries i 0 ≡ 0 = get_or_past l.expiries i 0 le in
          rw (set_past l.expiries i t le, none) h)
    ]
