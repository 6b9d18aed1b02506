-- What is known of a list of bytes that a call writes at its end: docs/TEXTS.md, "Writing".
use Rattle.std.specs.Prelude.{◌≡◌, ℕ, List, [], ◌∷◌, ◌++◌, take, length}
use Rattle.std.specs.List.{join_with_byte}

-- the old bytes still stand in front
pub record Kept (old new : List ℕ) : Type 0 where
  pub front : take (length old) new ≡ old

-- words, each behind a space
abbrev pub spaced : List (List ℕ) → List ℕ
spaced [] = []
spaced (word ∷ words) = 32 ∷ (word ++ spaced words)

-- words as a line: joined by spaces, and a line feed behind them
unfoldable pub spelled : List (List ℕ) → List ℕ
spelled words = join_with_byte 32 words ++ 10 ∷ []
