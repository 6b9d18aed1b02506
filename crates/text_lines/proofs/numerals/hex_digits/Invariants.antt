-- The bytes so far are digits, `value` is the number that they write, and there is room for more.
use Rattle.std.proofs.Common.{◌≡◌, ◌<◌, ◌^◌, true, take}
use Rattle.std.specs.List.{list_all}
use Rattle.std.specs.Str.Parse.{digits_value}
use Rattle.text_lines.specs.Masks.{is_hex_digit}
use Rattle.text_lines.proofs.numerals.hex_digits.Given as goal

abbrev pub invariant-loop-byte : goal.invariant-loop-byte
invariant-loop-byte l =
    (list_all is_hex_digit (take l.byte-index l.word) ≡ true) × (l.value ≡ digits_value 16 (take l.byte-index l.word)) × (l.value < 16 ^ l.byte-index)
