-- What the digits so far show.
use Rattle.std.proofs.Common.{◌≡◌, ◌∙◌, ◌+◌, sym, arith}
use Rattle.text_lines.proofs.Numbers.{digits_more, value_more, plain_no_digit, plain_too_large, plain_all}
use Rattle.command_line.proofs.numerals.digits.Goals as goal

pub returns-then-not-is_ascii_digit-clause-value : goal.returns-then-not-is_ascii_digit-clause-value
returns-then-not-is_ascii_digit-clause-value c =
    plain_no_digit c.args.most c.args.word.now c.loop-byte.byte-index c.loop-byte-test.true (sym c.is_ascii_digit.ensures.value ∙ c.if-not-is_ascii_digit.true)

pub returns-then-more-from-clause-value : goal.returns-then-more-from-clause-value
returns-then-more-from-clause-value c =
    let here = sym c.is_ascii_digit.ensures.value ∙ c.if-not-is_ascii_digit.false in
    plain_too_large c.args.most c.args.word.now (c.loop-byte.byte-index + 1) (omega (arith, c.loop-byte.invariant.1, c.from.ensures, c.from-in-loop-byte.ensures, c.from-in-loop-byte-2.ensures, c.if-more-from.true, value_more c.args.word.now c.loop-byte.byte-index c.loop-byte-test.true here))

pub loop-byte-preserved : goal.loop-byte-preserved
loop-byte-preserved c =
    let here = sym c.is_ascii_digit.ensures.value ∙ c.if-not-is_ascii_digit.false in
    (digits_more c.args.word.now c.loop-byte.byte-index c.loop-byte-test.true c.loop-byte.invariant.0 here, omega (arith, c.loop-byte.invariant.1, c.from.ensures, c.from-in-loop-byte.ensures, value_more c.args.word.now c.loop-byte.byte-index c.loop-byte-test.true here), omega (arith, c.from-in-loop-byte-2.ensures, c.if-more-from.false))

pub returns-clause-value : goal.returns-clause-value
returns-clause-value c =
    plain_all c.args.most c.loop-byte.value c.args.word.now c.loop-byte.byte-index c.loop-byte-test.false c.loop-byte.invariant.0 c.loop-byte.invariant.1 c.loop-byte.invariant.2
