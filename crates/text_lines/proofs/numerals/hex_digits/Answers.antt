-- One more digit, and the room for it.
use Rattle.std.proofs.Common.{◌≡◌, ◌<◌, ◌*◌, ◌+◌, ◌∙◌, sym, true, get_or, arith}
use Rattle.std.specs.Char.{digit_value}
use Rattle.std.proofs.lemmas.Int.Digits.{digits_value_more}
use Rattle.std.proofs.lemmas.List.Folds.{list_all_more}
use Rattle.std.proofs.lemmas.Bool.{and_from}
use Rattle.text_lines.specs.Masks.{is_hex_digit}
use Rattle.text_lines.proofs.HexDigits.{hex_below, hex_fits}
use Rattle.text_lines.proofs.numerals.hex_digits.Goals as goal

pub overflow_mul-value : goal.overflow_mul-value
overflow_mul-value c =
    let p = c.loop-byte in
    omega (arith, hex_fits (p.value * 16 + 0) (p.byte-index + 1) (hex_below p.value 0 p.byte-index p.invariant.2 (omega arith)) (omega (arith, c.requires, c.loop-byte-test.true)))

pub overflow_add-value : goal.overflow_add-value
overflow_add-value c =
    let p = c.loop-byte in
    let below : c.from.result < 16 = omega (arith, c.from.ensures, c.hex_value.ensures.below) in
    omega (arith, hex_fits (p.value * 16 + c.from.result) (p.byte-index + 1) (hex_below p.value c.from.result p.byte-index p.invariant.2 below) (omega (arith, c.requires, c.loop-byte-test.true)))

pub loop-byte-preserved : goal.loop-byte-preserved
loop-byte-preserved c =
    let p = c.loop-byte in
    let word = c.args.word.now in
    let below : c.from.result < 16 = omega (arith, c.from.ensures, c.hex_value.ensures.below) in
    let same : c.from.result ≡ digit_value (get_or word p.byte-index 0) = c.from.ensures ∙ c.hex_value.ensures.value in
    let here : is_hex_digit (get_or word p.byte-index 0) ≡ true = sym c.is_hex_digit.ensures ∙ c.if-not-is_hex_digit.false in
    (list_all_more is_hex_digit word p.byte-index 0 c.loop-byte-test.true ∙ and_from _ _ p.invariant.0 here, omega (arith, same, p.invariant.1, digits_value_more 16 word p.byte-index c.loop-byte-test.true), hex_below p.value c.from.result p.byte-index p.invariant.2 below)
