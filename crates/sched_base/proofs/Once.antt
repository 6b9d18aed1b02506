-- Items of a list in which no entry stands twice.
use Rattle.std.proofs.Common.{◌≡◌, ℕ, Bool, true, false, not, eqb, List, [], ◌∷◌, ◌++◌, Some, None, refl, sym, ap, ◌∙◌, inl, inr}
use Rattle.std.specs.Prelude.{◌⊎◌}
use Rattle.std.specs.List.{filter, find, list_any, AllByRecursion}
use Rattle.std.proofs.lemmas.Bool.{cases_Bool, or_parts, false≢true, eqb-true, eqb-false, eq-eqb, ne_eqb}
use Rattle.sched_base.specs.KeyedList.{KeyedItem, inserted, is_entry, IsOnce}
use Rattle.sched_base.proofs.Inserted.{Answers}

-- an item stands in a list
abbrev pub In : KeyedItem → List KeyedItem → Type 0
In y [] = ⊥
In y (x ∷ xs) = (x ≡ y) ⊎ In y xs

pub in_all : (P : KeyedItem → Type 0) (y : KeyedItem) (xs : List KeyedItem) → AllByRecursion P xs → In y xs → P y
in_all P y [] all h = absurd h
in_all P y (x ∷ xs) all h = elim h [ inl e ↦ rw e at all.0 | inr k ↦ in_all P y xs all.1 k ]

pub all_in : (P : KeyedItem → Type 0) (xs : List KeyedItem) → ((y : KeyedItem) → In y xs → P y) → AllByRecursion P xs
all_in P [] h = tt
all_in P (x ∷ xs) h = (h x (inl refl), all_in P xs (λ y k. h y (inr k)))

pub in-append_left : (y : KeyedItem) (xs ys : List KeyedItem) → In y xs → In y (xs ++ ys)
in-append_left y [] ys h = absurd h
in-append_left y (x ∷ xs) ys h = elim h [ inl e ↦ inl e | inr k ↦ inr (in-append_left y xs ys k) ]

pub in-append_right : (y : KeyedItem) (xs ys : List KeyedItem) → In y ys → In y (xs ++ ys)
in-append_right y [] ys h = h
in-append_right y (x ∷ xs) ys h = inr (in-append_right y xs ys h)

pub in-append : (y : KeyedItem) (xs ys : List KeyedItem) → In y (xs ++ ys) → In y xs ⊎ In y ys
in-append y [] ys h = inr h
in-append y (x ∷ xs) ys h =
    elim h [ inl e ↦ inl (inl e) | inr k ↦ elim (in-append y xs ys k) [ inl a ↦ inl (inr a) | inr b ↦ inr b ] ]

pub in-filter : (q : KeyedItem → Bool) (y : KeyedItem) (xs : List KeyedItem) → In y xs → q y ≡ true → In y (filter q xs)
in-filter q y [] h t = absurd h
in-filter q y (x ∷ xs) h t =
    elim h [
      | inl e ↦ let k : q x ≡ true = ap q e ∙ t in rw k (inl e)
      | inr r ↦ elim (cases_Bool (q x)) [ inl k ↦ rw k (inr (in-filter q y xs r t)) | inr k ↦ rw k (in-filter q y xs r t) ]
    ]

pub in_filtered : (q : KeyedItem → Bool) (y : KeyedItem) (xs : List KeyedItem) → In y (filter q xs) → In y xs
in_filtered q y [] h = h
in_filtered q y (x ∷ xs) h =
    elim (cases_Bool (q x)) [
      | inl k ↦ elim (rw k at h) [ inl e ↦ inl e | inr r ↦ inr (in_filtered q y xs r) ]
      | inr k ↦ inr (in_filtered q y xs (rw k at h))
    ]

-- an item's entry is held
pub in_held : (y : KeyedItem) (xs : List KeyedItem) → In y xs → list_any (is_entry y.entry) xs ≡ true
in_held y [] h = absurd h
in_held y (x ∷ xs) h =
    elim h [
      | inl e ↦ rw (eq-eqb x.entry y.entry (ap (λ (z : KeyedItem). z.entry) e)) refl
      | inr k ↦ elim (cases_Bool (eqb x.entry y.entry)) [ inl t ↦ rw t refl | inr f ↦ rw f (in_held y xs k) ]
    ]

-- what is found stands in the list and passes the test
pub found_in : (p : KeyedItem → Bool) (y : KeyedItem) (xs : List KeyedItem) → find p xs ≡ Some y → In y xs × (p y ≡ true)
found_in p y [] h = cc
found_in p y (x ∷ xs) h =
    elim (cases_Bool (p x)) [
      | inl k ↦ let e : x ≡ y = let s = rw k at h in cc in (inl e, ap p (sym e) ∙ k)
      | inr k ↦ let w = found_in p y xs (rw k at h) in (inr w.0, w.1)
    ]

pub not_found : (p : KeyedItem → Bool) (xs : List KeyedItem) → find p xs ≡ None → Answers false p xs
not_found p [] h = tt
not_found p (x ∷ xs) h =
    elim (cases_Bool (p x)) [ inl k ↦ let s = rw k at h in cc | inr k ↦ (k, not_found p xs (rw k at h)) ]

pub none_found : (p : KeyedItem → Bool) (xs : List KeyedItem) → Answers false p xs → find p xs ≡ None
none_found p [] h = refl
none_found p (x ∷ xs) h = rw h.0 (none_found p xs h.1)

pub none_held : (p : KeyedItem → Bool) (xs : List KeyedItem) → list_any p xs ≡ false → Answers false p xs
none_held p [] h = tt
none_held p (x ∷ xs) h = let r = or_parts (p x) (list_any p xs) h in (r.0, none_held p xs r.1)

pub held_none : (p : KeyedItem → Bool) (xs : List KeyedItem) → Answers false p xs → list_any p xs ≡ false
held_none p [] h = refl
held_none p (x ∷ xs) h = rw h.0 (held_none p xs h.1)

-- an item that stands in the list is the one of its entry
pub in_find : (y : KeyedItem) (xs : List KeyedItem) → IsOnce xs → In y xs → find (is_entry y.entry) xs ≡ Some y
in_find y [] once h = absurd h
in_find y (x ∷ xs) once h =
    elim h [
      | inl e ↦ rw (eq-eqb x.entry y.entry (ap (λ (z : KeyedItem). z.entry) e)) (ap (λ (z : KeyedItem). Some z) e)
      | inr k ↦ elim (cases_Bool (eqb x.entry y.entry)) [
        | inl t ↦ let same : x.entry ≡ y.entry = eqb-true x.entry y.entry t in absurd (false≢true (sym (rw same at once.0) ∙ in_held y xs k))
        | inr f ↦ rw f (in_find y xs once.1 k)
      ]
    ]

-- a held entry has its item
pub item_of_held : (entry : ℕ) (xs : List KeyedItem) → list_any (is_entry entry) xs ≡ true → (y : KeyedItem) × In y xs × (y.entry ≡ entry)
item_of_held entry [] h = absurd (false≢true h)
item_of_held entry (x ∷ xs) h =
    elim (cases_Bool (eqb x.entry entry)) [
      | inl t ↦ (x, inl refl, eqb-true x.entry entry t)
      | inr f ↦ let w = item_of_held entry xs (rw f at h) in (w.0, inr w.1, w.2)
    ]

pub held-filter : (p q : KeyedItem → Bool) (xs : List KeyedItem) → list_any p xs ≡ false → list_any p (filter q xs) ≡ false
held-filter p q [] h = refl
held-filter p q (x ∷ xs) h =
    let r = or_parts (p x) (list_any p xs) h in
    elim (cases_Bool (q x)) [ inl k ↦ rw k (rw r.0 (held-filter p q xs r.1)) | inr k ↦ rw k (held-filter p q xs r.1) ]

pub held-inserted : (p s : KeyedItem → Bool) (y : KeyedItem) (xs : List KeyedItem) → p y ≡ false → list_any p xs ≡ false → list_any p (inserted s y xs) ≡ false
held-inserted p s y [] py h = rw py refl
held-inserted p s y (x ∷ xs) py h =
    let r = or_parts (p x) (list_any p xs) h in
    elim (cases_Bool (s x)) [ inl k ↦ rw k (rw r.0 (held-inserted p s y xs py r.1)) | inr k ↦ rw k (rw (py, r.0) r.1) ]

pub once-filter : (q : KeyedItem → Bool) (xs : List KeyedItem) → IsOnce xs → IsOnce (filter q xs)
once-filter q [] once = tt
once-filter q (x ∷ xs) once =
    elim (cases_Bool (q x)) [ inl k ↦ rw k (held-filter (is_entry x.entry) q xs once.0, once-filter q xs once.1) | inr k ↦ rw k (once-filter q xs once.1) ]

pub once-inserted : (s : KeyedItem → Bool) (y : KeyedItem) (xs : List KeyedItem) → list_any (is_entry y.entry) xs ≡ false → IsOnce xs → IsOnce (inserted s y xs)
once-inserted s y [] h once = (refl, tt)
once-inserted s y (x ∷ xs) h once =
    let r = or_parts (eqb x.entry y.entry) (list_any (is_entry y.entry) xs) h in
    let ne : eqb y.entry x.entry ≡ false = ne_eqb y.entry x.entry (λ e. eqb-false x.entry y.entry r.0 (sym e)) in
    elim (cases_Bool (s x)) [
      | inl k ↦ rw k (held-inserted (is_entry x.entry) s y xs ne once.0, once-inserted s y xs r.1 once.1)
      | inr k ↦ rw k (h, once)
    ]

-- the entry that was deleted is not held
pub held-deleted : (entry : ℕ) (xs : List KeyedItem) → list_any (is_entry entry) (filter (λ (y : KeyedItem). not (is_entry entry y)) xs) ≡ false
held-deleted entry [] = refl
held-deleted entry (x ∷ xs) =
    elim (cases_Bool (eqb x.entry entry)) [ inl k ↦ rw k (held-deleted entry xs) | inr k ↦ rw k (rw k (held-deleted entry xs)) ]

pub once-append : (xs ys : List KeyedItem) → IsOnce xs → IsOnce ys → AllByRecursion (λ (x : KeyedItem). list_any (is_entry x.entry) ys ≡ false) xs → IsOnce (xs ++ ys)
once-append [] ys p q r = q
once-append (x ∷ xs) ys p q r = (held-append (is_entry x.entry) xs ys p.0 r.0, once-append xs ys p.1 q r.1)
  where
    held-append : (t : KeyedItem → Bool) (xs ys : List KeyedItem) → list_any t xs ≡ false → list_any t ys ≡ false → list_any t (xs ++ ys) ≡ false
    held-append t [] ys h k = k
    held-append t (x ∷ xs) ys h k = let r = or_parts (t x) (list_any t xs) h in rw r.0 (held-append t xs ys r.1 k)

-- two parts of a list that share no item share no entry
pub parts_apart : (p q : KeyedItem → Bool) → ((x : KeyedItem) → p x ≡ true → q x ≡ false) → (xs : List KeyedItem) → IsOnce xs → AllByRecursion (λ (x : KeyedItem). list_any (is_entry x.entry) (filter q xs) ≡ false) (filter p xs)
parts_apart p q other xs once =
    all_in (λ (x : KeyedItem). list_any (is_entry x.entry) (filter q xs) ≡ false) (filter p xs) (λ x h.
    elim (cases_Bool (list_any (is_entry x.entry) (filter q xs))) [
      | inl k ↦
          let w = item_of_held x.entry (filter q xs) k in
          let one : Some x ≡ Some w.0 = sym (in_find x xs once (in_filtered p x xs h)) ∙ ap (λ e. find (is_entry e) xs) (sym w.2) ∙ in_find w.0 xs once (in_filtered q w.0 xs w.1) in
          let same : x ≡ w.0 = cc in
          let px : p x ≡ true = in_all (λ (y : KeyedItem). p y ≡ true) x (filter p xs) (passes p xs) h in
          let qw : q w.0 ≡ true = in_all (λ (y : KeyedItem). q y ≡ true) w.0 (filter q xs) (passes q xs) w.1 in
          absurd (false≢true (sym (other x px) ∙ ap q same ∙ qw))
      | inr k ↦ k
    ])
  where
    passes : (p : KeyedItem → Bool) (xs : List KeyedItem) → AllByRecursion (λ (y : KeyedItem). p y ≡ true) (filter p xs)
    passes p [] = tt
    passes p (x ∷ xs) = elim (cases_Bool (p x)) [ inl k ↦ rw k (k, passes p xs) | inr k ↦ rw k (passes p xs) ]
