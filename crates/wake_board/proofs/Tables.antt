-- Lists read by `get_elem?`.
use Rattle.std.proofs.Common.{◌≡◌, ◌⊎◌, ℕ, zero, suc, ◌+◌, ◌-◌, ◌<◌, ◌≤◌, List, [], ◌∷◌, ◌++◌, length, refl, sym, inl, inr, ⊎_elim, arith}
use mathlib.Core.Option.{some, some-injective, some-ne-none}
use lib.ListN.{get_elem?}

module _ {A : Type 0} where
  pub at_below : (l : List A) (i : ℕ) (a : A) → get_elem? l i ≡ some a → i < length l
  at_below [] i a e = absurd (some-ne-none a (sym e))
  at_below (x ∷ xs) zero a e = omega arith
  at_below (x ∷ xs) (suc i) a e = let h = at_below xs i a e in omega arith

  -- what stands at a place of two lists together stands in the first, or behind it in the second
  pub at_append : (xs ys : List A) (i : ℕ) (a : A) → get_elem? (xs ++ ys) i ≡ some a → (get_elem? xs i ≡ some a) ⊎ ((length xs ≤ i) × (get_elem? ys (i - length xs) ≡ some a))
  at_append [] ys i a e = let same : i - 0 ≡ i = omega arith in inr (omega arith, rw same e)
  at_append (x ∷ xs) ys zero a e = inl e
  at_append (x ∷ xs) ys (suc i) a e =
      ⊎_elim inl (λ t. let l = t.0 in let same : suc i - suc (length xs) ≡ i - length xs = omega arith in inr (omega arith, rw same t.1)) (at_append xs ys i a e)

  -- and the other way
  pub at_front : (xs ys : List A) (i : ℕ) (a : A) → get_elem? xs i ≡ some a → get_elem? (xs ++ ys) i ≡ some a
  at_front [] ys i a e = absurd (some-ne-none a (sym e))
  at_front (x ∷ xs) ys zero a e = e
  at_front (x ∷ xs) ys (suc i) a e = at_front xs ys i a e

  pub at_behind : (xs ys : List A) (i : ℕ) (a : A) → get_elem? ys i ≡ some a → get_elem? (xs ++ ys) (length xs + i) ≡ some a
  at_behind [] ys i a e = let same : 0 + i ≡ i = omega arith in rw same e
  at_behind (x ∷ xs) ys i a e = let same : suc (length xs) + i ≡ suc (length xs + i) = omega arith in rw same (at_behind xs ys i a e)

  -- what stands in a list of one
  pub at_single : (a b : A) (i : ℕ) → get_elem? (a ∷ []) i ≡ some b → (i ≡ 0) × (a ≡ b)
  at_single a b zero e = (refl, some-injective a b e)
  at_single a b (suc i) e = absurd (some-ne-none b (sym e))

  -- one more at the end
  pub at_end : (l : List A) (a b : A) (j : ℕ) → get_elem? (l ++ a ∷ []) j ≡ some b → (get_elem? l j ≡ some b) ⊎ ((j ≡ length l) × (a ≡ b))
  at_end l a b j e =
      ⊎_elim inl (λ t. let one = at_single a b (j - length l) t.1 in let z = one.0 in let l' = t.0 in inr (omega arith, one.1)) (at_append l (a ∷ []) j b e)
