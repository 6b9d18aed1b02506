-- Masks as hexadecimal digits: docs/TEXTS.md, "Words".
use Rattle.std.specs.Prelude.{ℕ, zero, suc, ◌/◌, ◌%◌, Bool, true, false, ◌&&◌, ◌==◌, if◌then◌else◌, nat_le, List, [], ◌∷◌, ◌++◌, length, Option, Some, None}
use Rattle.std.specs.List.{list_all}
use Rattle.std.specs.Str.Parse.{digits_value}
use Rattle.std.specs.Fmt.{digit_glyph}

-- the last `digits` hexadecimal digits of a number, in lower case
unfoldable pub hex_word : ℕ → ℕ → List ℕ
hex_word zero n = []
hex_word (suc digits) n = hex_word digits (n / 16) ++ digit_glyph false (n % 16) ∷ []

-- a hexadecimal digit in lower case
abbrev pub is_hex_digit : ℕ → Bool
is_hex_digit b = if nat_le 48 b && nat_le b 57 then true else nat_le 97 b && nat_le b 102

-- 16 hexadecimal digits
unfoldable pub hex : List ℕ → Option ℕ
hex w = if length w == 16 && list_all is_hex_digit w then Some (digits_value 16 w) else None
