-- The last digit of what is left goes in front of those that stand.
use Rattle.std.proofs.Common.{◌++◌, ◌-◌, ◌/◌, drop, set, ap, ◌∙◌, arith}
use Rattle.std.proofs.lemmas.List.{length-set}
use Rattle.text_lines.specs.Masks.{hex_word}
use Rattle.text_lines.proofs.HexDigits.{hex_back}
use Rattle.text_lines.proofs.putting.mask_digits.Goals as goal

pub loop-place-preserved : goal.loop-place-preserved
loop-place-preserved c =
    let p = c.loop-place in
    let here = p.place - 1 in
    (length-set p.digits here _ ∙ p.invariant.0, ap (λ g. hex_word here (p.rest / 16) ++ drop here (set p.digits here g)) c.hex_digit.ensures ∙ hex_back p.digits here p.place p.rest (omega arith) (omega (arith, p.invariant.0)) ∙ p.invariant.1)
