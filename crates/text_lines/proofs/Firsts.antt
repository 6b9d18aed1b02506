-- The first byte that passes a test, as a search tells it.
use Rattle.std.proofs.Common.{refl, ◌≡◌, ℕ, ◌<◌, List, length, get_or, Option, Some, None, ap, ◌∙◌, sym, arith, Bool, true, false, nat_lt}
use Rattle.std.specs.List.{position, position_or_len}
use Rattle.std.proofs.lemmas.List.Sums.{position_or_len_is}
use Rattle.std.proofs.lemmas.Bool.{cond-true, cond-false, lt-ltb, le-ltb}
use Rattle.memchr.specs.Find.{IsFirstByte}

not_true : (b : Bool) → (b ≡ true → ⊥) → b ≡ false
not_true true refused = absurd (refused refl)
not_true false refused = refl

-- what a search for the first byte finds is its position
pub found_position : (p : ℕ → Bool) (xs : List ℕ) (r : Option ℕ) → IsFirstByte p xs r → r ≡ position p xs
found_position p xs None nowhere =
    let fails : (k : ℕ) → k < length xs → p (get_or xs k 0) ≡ false = λ k below. not_true (p (get_or xs k 0)) (nowhere k (omega arith) below) in
    let end : position_or_len p xs ≡ length xs = position_or_len_is p xs (length xs) 0 (omega arith) fails (λ below. absurd (omega arith)) in
    sym (cond-false (nat_lt (position_or_len p xs) (length xs)) (Some (position_or_len p xs)) None (le-ltb _ _ (omega arith)))
found_position p xs (Some k) found =
    let fails : (i : ℕ) → i < k → p (get_or xs i 0) ≡ false = λ i below. not_true (p (get_or xs i 0)) (found.0.before i (omega arith) below) in
    let bound : k < length xs = found.0.high in
    let there : position_or_len p xs ≡ k = position_or_len_is p xs k 0 (omega arith) fails (λ below. found.1) in
    ap (λ n. Some n) (sym there) ∙ sym (cond-true (nat_lt (position_or_len p xs) (length xs)) (Some (position_or_len p xs)) None (lt-ltb _ _ (omega arith)))
