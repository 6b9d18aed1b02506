-- Each name that is taken moves its bit from the words to the bits.
use Rattle.std.proofs.Common.{◌≡◌, ◌+◌, ◌^◌, ◌∙◌, ap, sym, arith}
use Rattle.std.proofs.lemmas.Nat.{one_shl}
use Rattle.text_lines.specs.Pieces.{pieces_left}
use Rattle.text_lines.proofs.BitsLeft.{bits_left, bits_start, bits_step_yes, bits_step_no, bits_none, bits_some, below_all, some_if}
use Rattle.text_lines.proofs.reason_words.reasons.Goals as goal
use Rattle.text_lines.proofs.reason_words.reasons.Goals.{then-is_named, else-is_named}

pub loop-bit-init : goal.loop-bit-init
loop-bit-init c = (omega arith, bits_start c.args.word.now)

pub loop-bit-preserved : goal.loop-bit-preserved
loop-bit-preserved c =
    let p = c.loop-bit in
    elim c.if-is_named.branch [
      | then-is_named w ↦
          let one : c.if-is_named.bits ≡ p.bits + 2 ^ p.bit = w.bits-is ∙ ap (λ n. p.bits + n) (one_shl p.bit 8 (omega (arith, c.loop-bit-test.true))) in
          let next = bits_step_yes p.bits p.bit _ _ c.take_name-is_named.result.0 c.loop-bit-test.true p.invariant.0 c.take_name-is_named.ensures w.if-is_named.true in
          (omega (arith, one, next.0), ap (λ n. bits_left n (p.bit + 1) (pieces_left 44 c.take_name-is_named.result.1)) one ∙ next.1 ∙ p.invariant.1)
      | else-is_named w ↦
          let next = bits_step_no p.bits p.bit _ _ c.take_name-is_named.result.0 c.loop-bit-test.true p.invariant.0 c.take_name-is_named.ensures w.if-is_named.false in
          (omega (arith, w.bits-is, next.0), ap (λ n. bits_left n (p.bit + 1) (pieces_left 44 c.take_name-is_named.result.1)) w.bits-is ∙ next.1 ∙ p.invariant.1)
    ]

pub returns-in-Some : goal.returns-in-Some
returns-in-Some c =
    let p = c.loop-bit in
    sym (ap (λ o. bits_left p.bits p.bit (pieces_left 44 o)) c.in-Some.is ∙ bits_some p.bits p.bit c.in-Some.field-0.now c.loop-bit-test.false) ∙ p.invariant.1

pub returns-in-None : goal.returns-in-None
returns-in-None c =
    let p = c.loop-bit in
    some_if _ _ _ c.from_bits.ensures (below_all p.bits p.bit p.invariant.0 p.auto.bit-end) ∙ sym (ap (λ o. bits_left p.bits p.bit (pieces_left 44 o)) c.in-None.is ∙ bits_none p.bits p.bit c.loop-bit-test.false) ∙ p.invariant.1
