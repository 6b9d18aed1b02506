-- Numbers: docs/TEXTS.md, "Words".
use Rattle.std.specs.Prelude.{ℕ, zero, suc, ℤ, pos, negsuc, Bool, not, ◌&&◌, ◌==◌, if◌then◌else◌, nat_lt, nat_le, List, [], ◌∷◌, length, Option, Some, None, option_map, slice_index}
use Rattle.std.specs.Str.{all_ascii_digits}
use Rattle.std.specs.Str.Parse.{digits_value}
use Rattle.text_lines.specs.Steps.{◌>>=◌}

-- a digit 0 with more behind it
abbrev pub has_leading_zero : List ℕ → Bool
has_leading_zero w = nat_lt 1 (length w) && slice_index w 0 == 48

-- the number that digits write, if it is at most `most`
unfoldable pub plain_number : ℕ → List ℕ → Option ℕ
plain_number most w = if all_ascii_digits w && nat_le (digits_value 10 w) most then Some (digits_value 10 w) else None

-- 1 to 20 bytes, and no leading zero
abbrev pub is_plain : List ℕ → Bool
is_plain w = nat_lt 0 (length w) && (nat_le (length w) 20 && not (has_leading_zero w))

-- a number: 1 to 20 digits without a leading zero, at most `most`
unfoldable pub number : ℕ → List ℕ → Option ℕ
number most w = if is_plain w then plain_number most w else None

-- minus a number, which is not 0
abbrev pub below_zero : ℕ → Option ℤ
below_zero zero = None
below_zero (suc n) = Some (negsuc n)

-- a number of at most `most`, or one that is not 0 behind a minus sign
unfoldable pub signed : ℕ → List ℕ → Option ℤ
signed most [] = None
signed most (c ∷ ds) = if c == 45 then number most ds >>= below_zero else option_map pos (number most (c ∷ ds))
