-- A list in which no task stands twice is no longer than there are tasks.
use Rattle.std.proofs.Common.{◌≡◌, ℕ, ◌+◌, ◌<◌, ◌≤◌, Bool, true, false, ◌==◌, if◌then◌else◌, refl, sym, arith, eq-eqb, eqb-true, List, [], ◌∷◌, length, inl, inr, ◌∙◌}
use Rattle.std.specs.List.{IsDistinct, AllByRecursion, list_any}
use Rattle.std.proofs.lemmas.Bool.{cases_Bool}
use Rattle.std.proofs.lemmas.Map.Steps.{length-le_from_distinct_below}
use Rattle.tasklet_lists.specs.Links.{times}

miss : (x y n : ℕ) → (if x == y then 1 else 0) + n ≡ 0 → (x == y) ≡ false
miss x y n h =
    elim (cases_Bool (x == y)) [
      | inl hit ↦ absurd (let e = rw hit at h in omega arith)
      | inr none ↦ none
    ]

apart : (x : ℕ) (ys : List ℕ) → times x ys ≡ 0 → AllByRecursion (λ y. (x == y) ≡ false) ys
apart x [] h = tt
apart x (y ∷ ys) h = (miss x y (times x ys) h, apart x ys (omega arith))

distinct : (xs : List ℕ) → ((i : ℕ) → times i xs ≤ 1) → IsDistinct (λ x y. x == y) xs
unfolding IsDistinct
distinct [] h = tt
distinct (x ∷ xs) h =
    let here = h x in
    let hit = eq-eqb x x refl in
    let first : 1 + times x xs ≤ 1 = rw hit at here in
    (apart x xs (omega arith), distinct xs (λ i. omega (arith, h i)))

found : (q : ℕ) (xs : List ℕ) → list_any (λ x. q == x) xs ≡ true → 0 < times q xs
found q [] h = cc
found q (x ∷ xs) h =
    elim (cases_Bool (q == x)) [
      | inl hit ↦ rw hit (omega arith)
      | inr none ↦ let rest : list_any (λ y. q == y) xs ≡ true = rw none at h in omega (arith, found q xs rest)
    ]

pub few : (xs : List ℕ) (n : ℕ) → ((i : ℕ) → times i xs ≤ 1) → ((i : ℕ) → 0 < times i xs → i < n) → length xs ≤ n
few xs n once below = length-le_from_distinct_below xs n (distinct xs once) (λ q h. below q (found q xs h))
