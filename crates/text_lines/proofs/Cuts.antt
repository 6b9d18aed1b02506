-- A text cut at the first byte that parts it.
use Rattle.std.proofs.Common.{refl, ◌≡◌, ℕ, ◌+◌, ◌-◌, ◌<◌, ◌≤◌, ◌==◌, List, [], ◌∷◌, length, take, drop, Some, None, ap, ◌∙◌, sym, arith, Bool, false, ltb, ⊎_elim}
use Rattle.std.specs.List.{position, position_or_len}
use Rattle.std.proofs.lemmas.List.{take_rest}
use Rattle.std.proofs.lemmas.List.Quantifiers.{position-Some}
use Rattle.std.proofs.lemmas.List.Sums.{position_or_len_is, fails_before_first}
use Rattle.std.proofs.lemmas.Bool.{cases_lt, cond-true, lt-ltb}
use Rattle.std.proofs.lemmas.List.Splits.{slice_split_first, slice_split_none, length-slice_split}
use Rattle.text_lines.specs.Pieces.{pieces}
use Rattle.text_lines.specs.Steps.{is_empty}

some≢none : {n : ℕ} → Some n ≡ None → ⊥
some≢none e = cc

pub cut_there : (at : ℕ) (bytes : List ℕ) (place : ℕ) → position (λ b. b == at) bytes ≡ Some place → pieces at bytes ≡ take place bytes ∷ pieces at (take (length bytes - (place + 1)) (drop (place + 1) bytes))
cut_there at bytes place e =
    let found = position-Some (λ b. b == at) bytes place 0 e in
    let same : position_or_len (λ b. b == at) bytes ≡ place = position_or_len_is (λ b. b == at) bytes place 0 (omega arith) found.2 (λ _. found.1) in
    slice_split_first (λ b. b == at) bytes 0 (omega arith) ∙ ap (λ k. take k bytes ∷ pieces at (drop (k + 1) bytes)) same ∙ ap (λ rest. take place bytes ∷ pieces at rest) (sym (take_rest bytes (place + 1)))

nowhere : (p : ℕ → Bool) (xs : List ℕ) → position p xs ≡ None → length xs ≤ position_or_len p xs
nowhere p xs e =
    let found : position_or_len p xs < length xs → length xs ≤ position_or_len p xs = λ lt. absurd (some≢none (sym (cond-true (ltb (position_or_len p xs) (length xs)) (Some (position_or_len p xs)) None (lt-ltb _ _ lt)) ∙ e)) in
    ⊎_elim found (λ le. le) (cases_lt (position_or_len p xs) (length xs))

pub cut_nowhere : (at : ℕ) (bytes : List ℕ) → position (λ b. b == at) bytes ≡ None → pieces at bytes ≡ bytes ∷ []
cut_nowhere at bytes e =
    slice_split_none (λ b. b == at) bytes (λ k d below. fails_before_first (λ b. b == at) bytes k d (omega (arith, nowhere (λ b. b == at) bytes e)))

-- there is always a piece
pub pieces_some : (at : ℕ) (bytes : List ℕ) → (x : List ℕ) × (xs : List (List ℕ)) × (pieces at bytes ≡ x ∷ xs)
pieces_some at bytes = some (pieces at bytes) (omega (arith, length-slice_split (λ b. b == at) bytes)) where
  some : (ws : List (List ℕ)) → 0 < length ws → (x : List ℕ) × (xs : List (List ℕ)) × (ws ≡ x ∷ xs)
  some [] more = absurd (omega arith)
  some (x ∷ xs) more = (x, xs, refl)

pub pieces_not_empty : (at : ℕ) (bytes : List ℕ) → is_empty (pieces at bytes) ≡ false
pieces_not_empty at bytes = let q = pieces_some at bytes in ap is_empty q.2
