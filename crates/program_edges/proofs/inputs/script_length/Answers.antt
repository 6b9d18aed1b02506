use Rattle.std.proofs.Common.{◌≡◌, length, ◌+◌, true, false, ◌∷◌, ap, sym, ◌∙◌, arith, if◌then◌else◌}
use Rattle.std.specs.Prelude.{bytes_eq}
use Rattle.text_lines.specs.Pieces.{pieces, pieces_left}
use Rattle.program_edges.specs.Inputs.{through_end}
use Rattle.program_edges.proofs.InputParts.{is_end, last_piece, line_length, line_end}
use Rattle.program_edges.proofs.inputs.script_length.Goals as goal

pub returns-in_default-clause-length : goal.returns-in_default-clause-length
returns-in_default-clause-length c =
    let text = c.next_line.result.0.now in
    let last = last_piece c.loop-next.rest.now text (c.next_line.ensures.parted ∙ ap (λ o. text ∷ pieces_left 10 o) c.in_default.is) in
    omega (arith, c.loop-next.invariant.1)

pub returns-then-eq-clause-length : goal.returns-then-eq-clause-length
returns-then-eq-clause-length c =
    let text = c.next_line.result.0.now in
    let parted = c.next_line.ensures.parted ∙ ap (λ o. text ∷ pieces_left 10 o) c.in-Some.is in
    let long = line_length c.loop-next.rest.now text c.in-Some.next.now parted in
    let ends : is_end text ≡ true = ap (bytes_eq text) (sym c.as_slice.ensures) ∙ sym c.eq.ensures ∙ c.if-eq.true in
    let here = line_end c.loop-next.rest.now text c.in-Some.next.now parted ∙ ap (λ b. length text + 1 + (if b then 0 else through_end (pieces 10 c.in-Some.next.now))) ends in
    omega (arith, c.loop-next.invariant.0, c.loop-next.invariant.1)

pub loop-next-preserved : goal.loop-next-preserved
loop-next-preserved c =
    let text = c.next_line.result.0.now in
    let parted = c.next_line.ensures.parted ∙ ap (λ o. text ∷ pieces_left 10 o) c.in-Some.is in
    let long = line_length c.loop-next.rest.now text c.in-Some.next.now parted in
    let on : is_end text ≡ false = ap (bytes_eq text) (sym c.as_slice.ensures) ∙ sym c.eq.ensures ∙ c.if-eq.false in
    let here = line_end c.loop-next.rest.now text c.in-Some.next.now parted ∙ ap (λ b. length text + 1 + (if b then 0 else through_end (pieces 10 c.in-Some.next.now))) on in
    (omega (arith, c.loop-next.invariant.0), omega (arith, c.loop-next.invariant.1))
