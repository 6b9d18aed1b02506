-- What an insertion and a deletion make of a forest of one root.
use Rattle.std.proofs.Common.{◌≡◌, ℕ, ◌+◌, ◌<◌, inl, inr, Bool, true, false, not, List, [], ◌∷◌, length, refl, sym, ap, ◌∙◌, subst, arith, eq-eqb, eqb-true}
use Rattle.std.specs.Prelude.{slice_index}
use Rattle.std.specs.List.{filter, list_any}
use Rattle.std.proofs.lemmas.Bool.{cases_Bool, cases_eq, false≢true, ne_eqb, not_from_false}
use Rattle.std.proofs.lemmas.List.{length-set, get_or-set_same}
use Rattle.sched_base.specs.KeyedList.{KeyedItem, KeyedList, KeyedRoots, inserted, is_entry, holds, blank, root_at, with_entry, without_entry, inserted_into, deleted_from, StandsIn, IsPlaced, IsFree}
use Rattle.sched_base.proofs.Once.{held-inserted, held-filter, held-deleted}
use Rattle.eb32_core.specs.Forest.{Grove, seen_of}
use Rattle.eb32_core.proofs.Groves.{lists-length, lists-get}
use Rattle.eb32_core.proofs.Standing.{entries_are}
use Rattle.trees_bench.specs.Filled.{HasOneRoot, AllPlaced, Grows}

-- ---- lists

held_new : (p s : KeyedItem → Bool) (y : KeyedItem) (xs : List KeyedItem) → p y ≡ true → list_any p (inserted s y xs) ≡ true
held_new p s y [] h = rw h refl
held_new p s y (x ∷ xs) h =
    elim (cases_Bool (s x)) [
      | inl k ↦ rw k (elim (cases_Bool (p x)) [ inl a ↦ rw a refl | inr a ↦ rw a (held_new p s y xs h) ])
      | inr k ↦ rw k (rw h refl)
    ]

held_still : (p s : KeyedItem → Bool) (y : KeyedItem) (xs : List KeyedItem) → list_any p xs ≡ true → list_any p (inserted s y xs) ≡ true
held_still p s y [] h = absurd (false≢true h)
held_still p s y (x ∷ xs) h =
    elim (cases_Bool (s x)) [
      | inl k ↦ rw k (elim (cases_Bool (p x)) [ inl a ↦ rw a refl | inr a ↦ rw a (held_still p s y xs (rw a at h)) ])
      | inr k ↦ rw k (elim (cases_Bool (p y)) [ inl a ↦ rw a refl | inr a ↦ rw a h ])
    ]

held_kept : (p q : KeyedItem → Bool) (xs : List KeyedItem) → ((x : KeyedItem) → p x ≡ true → q x ≡ true) → list_any p xs ≡ true → list_any p (filter q xs) ≡ true
held_kept p q [] keeps h = absurd (false≢true h)
held_kept p q (x ∷ xs) keeps h =
    elim (cases_Bool (p x)) [
      | inl a ↦ rw (keeps x a) (rw a refl)
      | inr a ↦
          let rest : list_any p (filter q xs) ≡ true = held_kept p q xs keeps (rw a at h) in
          elim (cases_Bool (q x)) [ inl k ↦ rw k (rw a rest) | inr k ↦ rw k rest ]
    ]

other_kept : (gone e : ℕ) → (e ≡ gone → ⊥) → (x : KeyedItem) → is_entry e x ≡ true → not (is_entry gone x) ≡ true
other_kept gone e ne x h = not_from_false _ (ne_eqb x.entry gone (λ k. ne (sym (eqb-true x.entry e h) ∙ k)))

-- ---- a forest of one root

one_list : (f : Grove) → HasOneRoot f → length (seen_of f).roots ≡ 1
unfolding seen_of
one_list f one = lists-length f.parts 0 f.made ∙ one

counted : (f g : Grove) → length (seen_of g).roots ≡ length (seen_of f).roots → length g.made ≡ length f.made
unfolding seen_of
counted f g h = sym (lists-length g.parts 0 g.made) ∙ (h ∙ lists-length f.parts 0 f.made)

insertions_are : (f : Grove) → HasOneRoot f → (root_at 0 (seen_of f)).insertions ≡ slice_index f.made 0
unfolding seen_of
insertions_are f one = let some : 0 < length f.made = omega arith in ap (λ (l : KeyedList). l.insertions) (lists-get f.parts 0 f.made 0 some)

free_where : (f : Grove) (e : ℕ) → HasOneRoot f → holds e (root_at 0 (seen_of f)) ≡ false → IsFree e (seen_of f)
free_where f e one h root within =
    let zero_root : 0 ≡ root = let two : length (seen_of f).roots ≡ 1 = one_list f one in omega arith in
    subst (λ r. holds e (root_at r (seen_of f)) ≡ false) zero_root h

free_not_held : (f : Grove) (e : ℕ) → HasOneRoot f → IsFree e (seen_of f) → holds e (root_at 0 (seen_of f)) ≡ false
free_not_held f e one free = let two : length (seen_of f).roots ≡ 1 = one_list f one in free 0 (omega arith)

stands_where : (f : Grove) (e : ℕ) → HasOneRoot f → holds e (root_at 0 (seen_of f)) ≡ true → StandsIn 0 e (seen_of f)
stands_where f e one h = let two : length (seen_of f).roots ≡ 1 = one_list f one in record { exists = omega arith; held = h }

placed_where : (f : Grove) (e : ℕ) → HasOneRoot f → holds e (root_at 0 (seen_of f)) ≡ true → IsPlaced e (seen_of f)
placed_where f e one h = (0, stands_where f e one h)

placed_held : (f : Grove) (e : ℕ) → HasOneRoot f → IsPlaced e (seen_of f) → holds e (root_at 0 (seen_of f)) ≡ true
placed_held f e one h =
    let zero_root : h.0 ≡ 0 = let two : length (seen_of f).roots ≡ 1 = one_list f one in omega (arith, h.1.exists) in
    subst (λ r. holds e (root_at r (seen_of f)) ≡ true) zero_root h.1.held

pub grows_then : (m n : ℕ) (f g h : Grove) → Grows m f g → Grows n g h → Grows (m + n) f h
grows_then m n f g h a b = record {
  roots = b.roots ∙ a.roots;
  entries = b.entries ∙ a.entries;
  insertions = omega (arith, a.insertions, b.insertions);
}

-- ---- an insertion

module _ (f g : Grove) (entry key : ℕ) (one : HasOneRoot f) (is : seen_of g ≡ inserted_into 0 entry key (seen_of f)) where
  list_in : root_at 0 (seen_of g) ≡ with_entry key entry (root_at 0 (seen_of f))
  list_in =
      let some : 0 < length (seen_of f).roots = let two : length (seen_of f).roots ≡ 1 = one_list f one in omega arith in
      ap (root_at 0) is ∙ get_or-set_same (seen_of f).roots 0 _ blank some

  pub grows_in : Grows 1 f g
  grows_in =
      let roots : length g.made ≡ length f.made = counted f g (ap (λ (s : KeyedRoots). length s.roots) is ∙ length-set (seen_of f).roots 0 _) in
      let more : slice_index g.made 0 ≡ slice_index f.made 0 + 1 = sym (insertions_are g (roots ∙ one)) ∙ (ap (λ (l : KeyedList). l.insertions) list_in ∙ ap (λ n. n + 1) (insertions_are f one)) in
      record {
        roots = roots;
        entries = sym (entries_are g) ∙ (ap (λ (s : KeyedRoots). s.entries) is ∙ entries_are f);
        insertions = omega arith;
      }

  abbrev one_in : HasOneRoot g
  one_in = grows_in.roots ∙ one

  pub placed_in : IsPlaced entry (seen_of g)
  placed_in = placed_where g entry one_in (ap (holds entry) list_in ∙ held_new (is_entry entry) _ (record { key = key; entry = entry }) (root_at 0 (seen_of f)).items (eq-eqb entry entry refl))

  pub placed_still : (e : ℕ) → IsPlaced e (seen_of f) → IsPlaced e (seen_of g)
  placed_still e h = placed_where g e one_in (ap (holds e) list_in ∙ held_still (is_entry e) _ (record { key = key; entry = entry }) (root_at 0 (seen_of f)).items (placed_held f e one h))

  pub free_still : (e : ℕ) → (e ≡ entry → ⊥) → IsFree e (seen_of f) → IsFree e (seen_of g)
  free_still e ne h = free_where g e one_in (ap (holds e) list_in ∙ held-inserted (is_entry e) _ (record { key = key; entry = entry }) (root_at 0 (seen_of f)).items (ne_eqb entry e (λ k. ne (sym k))) (free_not_held f e one h))

-- ---- a deletion

module _ (f g : Grove) (entry : ℕ) (one : HasOneRoot f) (placed : IsPlaced entry (seen_of f)) (deletes : (root : ℕ) → StandsIn root entry (seen_of f) → seen_of g ≡ deleted_from root entry (seen_of f)) where
  seen_out : seen_of g ≡ deleted_from 0 entry (seen_of f)
  seen_out = deletes 0 (stands_where f entry one (placed_held f entry one placed))

  list_out : root_at 0 (seen_of g) ≡ without_entry entry (root_at 0 (seen_of f))
  list_out =
      let some : 0 < length (seen_of f).roots = let two : length (seen_of f).roots ≡ 1 = one_list f one in omega arith in
      ap (root_at 0) seen_out ∙ get_or-set_same (seen_of f).roots 0 _ blank some

  pub grows_out : Grows 0 f g
  grows_out =
      let roots : length g.made ≡ length f.made = counted f g (ap (λ (s : KeyedRoots). length s.roots) seen_out ∙ length-set (seen_of f).roots 0 _) in
      let same : slice_index g.made 0 ≡ slice_index f.made 0 = sym (insertions_are g (roots ∙ one)) ∙ (ap (λ (l : KeyedList). l.insertions) list_out ∙ insertions_are f one) in
      record {
        roots = roots;
        entries = sym (entries_are g) ∙ (ap (λ (s : KeyedRoots). s.entries) seen_out ∙ entries_are f);
        insertions = omega arith;
      }

  abbrev one_out : HasOneRoot g
  one_out = grows_out.roots ∙ one

  pub free_out : IsFree entry (seen_of g)
  free_out = free_where g entry one_out (ap (holds entry) list_out ∙ held-deleted entry (root_at 0 (seen_of f)).items)

  pub free_kept : (e : ℕ) → IsFree e (seen_of f) → IsFree e (seen_of g)
  free_kept e h = free_where g e one_out (ap (holds e) list_out ∙ held-filter (is_entry e) _ (root_at 0 (seen_of f)).items (free_not_held f e one h))

  pub placed_kept : (e : ℕ) → (e ≡ entry → ⊥) → IsPlaced e (seen_of f) → IsPlaced e (seen_of g)
  placed_kept e ne h = placed_where g e one_out (ap (holds e) list_out ∙ held_kept (is_entry e) _ (root_at 0 (seen_of f)).items (other_kept entry e ne) (placed_held f e one h))

-- ---- a deletion, and the same entry inserted again

module _ (f between g : Grove) (entry key : ℕ) (one : HasOneRoot f) (placed : IsPlaced entry (seen_of f)) (deletes : (root : ℕ) → StandsIn root entry (seen_of f) → seen_of between ≡ deleted_from root entry (seen_of f)) (is : seen_of g ≡ inserted_into 0 entry key (seen_of between)) where
  pub grows_moved : Grows 1 f g
  grows_moved = grows_then 0 1 f between g (grows_out f between entry one placed deletes) (grows_in between g entry key (one_out f between entry one placed deletes) is)

  pub all_moved : AllPlaced f → AllPlaced g
  all_moved all e below =
      let still : HasOneRoot between = one_out f between entry one placed deletes in
      elim (cases_eq e entry) [
        | inl k ↦ subst (λ x. IsPlaced x (seen_of g)) (sym k) (placed_in between g entry key still is)
        | inr ne ↦ placed_still between g entry key still is e (placed_kept f between entry one placed deletes e ne (all e (omega (arith, grows_moved.entries))))
      ]
