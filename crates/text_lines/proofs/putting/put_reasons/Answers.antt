-- Each name that is written moves from what is left to what stands.
use Rattle.std.proofs.Common.{◌++◌, ap, ◌∙◌, sym, arith, append-nil}
use Rattle.text_lines.specs.Reasons.{reasons_word}
use Rattle.text_lines.proofs.KeptFront.{kept_same, kept_then}
use Rattle.text_lines.proofs.Listed.{named, left_start, left_yes, left_no, left_end}
use Rattle.text_lines.proofs.putting.put_reasons.Goals as goal
use Rattle.text_lines.proofs.putting.put_reasons.Goals.{then-rest-eq1+in_ok-put_name, else-rest-eq1}

pub loop-bit-init : goal.loop-bit-init
loop-bit-init c =
    (kept_same _, ap (λ t. c.args.out.now.items ++ t) (left_start c.bits-rest.result ∙ ap reasons_word c.bits-rest.ensures.same))

pub loop-bit-preserved : goal.loop-bit-preserved
loop-bit-preserved c =
    let p = c.loop-bit in
    elim c.if-rest-eq1.branch [
      | then-rest-eq1+in_ok-put_name w ↦ rw (w.out-is, w.is_first-is) (kept_then _ _ _ p.invariant.0 w.put_name.ensures.kept, left_yes p.out.items _ p.is_first p.rest p.bit c.loop-bit-test.true w.if-rest-eq1.true (w.in_ok-put_name.ensures.written ∙ ap (λ n. p.out.items ++ named p.is_first n) w.reason_name.ensures) ∙ p.invariant.1)
      | else-rest-eq1 w ↦ rw (w.out-is, w.is_first-is) (p.invariant.0, ap (λ t. p.out.items ++ t) (left_no p.is_first p.rest p.bit c.loop-bit-test.true w.if-rest-eq1.false) ∙ p.invariant.1)
    ]

pub returns-clause-written : goal.returns-clause-written
returns-clause-written c =
    let p = c.loop-bit in
    sym (append-nil p.out.items) ∙ ap (λ t. p.out.items ++ t) (sym (left_end p.is_first p.rest p.bit (omega arith))) ∙ p.invariant.1
