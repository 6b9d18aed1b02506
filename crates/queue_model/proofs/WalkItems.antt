-- Which items a walk comes to.
use Rattle.std.proofs.Common.{◌≡◌, ℕ, Bool, false, leb, ltb, List, [], ◌∷◌, Option, Some, None, refl, sym, ap, ◌∙◌, inl, inr}
use Rattle.std.specs.List.{filter, find}
use Rattle.std.proofs.lemmas.Bool.{cases_lt, lt-ltb, le-ltb, le-leb, leb-true, eqb-true}
use Rattle.sched_base.specs.KeyedList.{KeyedItem, is_entry, first_entry, IsOnce}
use Rattle.sched_base.proofs.Once.{In, in_all, all_in, in-append_left, in-append_right, in-append, in-filter, in_filtered, found_in, not_found, none_found, in_find, once-filter, once-append, parts_apart}
use Rattle.queue_model.specs.Walk.{half_back, walked}

-- the walk comes to each item
pub in_walked : (now : ℕ) (y : KeyedItem) (items : List KeyedItem) → In y items → In y (walked now items)
in_walked now y items h =
    elim (cases_lt y.key (half_back now)) [
      | inl lt ↦ in-append_right y _ _ (in-filter (λ (z : KeyedItem). ltb z.key (half_back now)) y items h (lt-ltb _ _ lt))
      | inr le ↦ in-append_left y _ _ (in-filter (λ (z : KeyedItem). leb (half_back now) z.key) y items h (le-leb _ _ le))
    ]

-- and to no other
pub walked_in : (now : ℕ) (y : KeyedItem) (items : List KeyedItem) → In y (walked now items) → In y items
walked_in now y items h =
    elim (in-append y _ _ h) [
      | inl k ↦ in_filtered (λ (z : KeyedItem). leb (half_back now) z.key) y items k
      | inr k ↦ in_filtered (λ (z : KeyedItem). ltb z.key (half_back now)) y items k
    ]

-- and to each once
pub once_walked : (now : ℕ) (items : List KeyedItem) → IsOnce items → IsOnce (walked now items)
once_walked now items once =
    let hi : KeyedItem → Bool = λ z. leb (half_back now) z.key in
    let lo : KeyedItem → Bool = λ z. ltb z.key (half_back now) in
    once-append (filter hi items) (filter lo items) (once-filter hi items once) (once-filter lo items once) (parts_apart hi lo (λ x h. le-ltb _ _ (leb-true _ _ h)) items once)

-- a look for an entry along the walk finds what a look in the list finds
pub find_walked : (now entry : ℕ) (items : List KeyedItem) → IsOnce items → find (is_entry entry) (walked now items) ≡ find (is_entry entry) items
find_walked now entry items once =
    let P : Option KeyedItem → Type 0 = λ o. find (is_entry entry) items ≡ o → find (is_entry entry) (walked now items) ≡ o in
    let both : (o : Option KeyedItem) → P o = λ o. elim o as P [
      | Some y ↦ λ h.
          let w = found_in (is_entry entry) y items h in
          let same : y.entry ≡ entry = eqb-true y.entry entry w.1 in
          ap (λ e. find (is_entry e) (walked now items)) (sym same) ∙ in_find y (walked now items) (once_walked now items once) (in_walked now y items w.0)
      | None ↦ λ h.
          let none = not_found (is_entry entry) items h in
          none_found (is_entry entry) (walked now items) (all_in (λ (y : KeyedItem). is_entry entry y ≡ false) (walked now items) (λ y k. in_all (λ (z : KeyedItem). is_entry entry z ≡ false) y items none (walked_in now y items k)))
    ] in
    both (find (is_entry entry) items) refl

-- the item of the walk's first entry
pub first_is : (items : List KeyedItem) (entry : ℕ) → first_entry items ≡ Some entry → (y : KeyedItem) × (ys : List KeyedItem) × (items ≡ y ∷ ys) × (y.entry ≡ entry)
first_is [] entry h = cc
first_is (y ∷ ys) entry h = (y, ys, refl, let e : y.entry ≡ entry = cc in e)

pub none_is : (items : List KeyedItem) → first_entry items ≡ None → items ≡ []
none_is [] h = refl
none_is (y ∷ ys) h = cc
