-- Names, and words of a few: docs/TEXTS.md, "Words".
use Rattle.std.specs.Prelude.{ℕ, Bool, false, ◌&&◌, ◌||◌, ◌==◌, nat_lt, nat_le, List, [], ◌∷◌, length, Option}
use Rattle.std.specs.List.{list_all, position_from}
use Rattle.std.specs.Str.{bytes_eq}
use Rattle.std.specs.Char.{is_ascii_lowercase, is_ascii_digit}

-- a byte that a name may have behind its first
abbrev pub is_name_byte : ℕ → Bool
is_name_byte c = is_ascii_lowercase c || (is_ascii_digit c || c == 95)

-- a lower-case letter, then at most 15 lower-case letters, digits or underscores
unfoldable pub is_name : List ℕ → Bool
is_name [] = false
is_name (c ∷ cs) = is_ascii_lowercase c && (nat_le (length cs) 15 && list_all is_name_byte cs)

-- the place of a word among some
unfoldable pub place_in : List (List ℕ) → List ℕ → Option ℕ
place_in words w = position_from (λ word. bytes_eq word w) 0 words

-- no space, and nothing below it
abbrev pub plain : List ℕ → Bool
plain w = list_all (nat_lt 32) w
