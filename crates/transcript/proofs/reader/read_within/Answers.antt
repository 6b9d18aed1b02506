-- Each line that is taken moves from what is left to what was read.
use Rattle.std.proofs.Common.{◌∙◌, ◌+◌, refl, ap, sym, subst, arith, ◌∷◌}
use Rattle.std.proofs.lemmas.Result.{err_from_is_err_and}
use Rattle.text_lines.specs.Pieces.{pieces, pieces_left}
use Rattle.text_lines.specs.Lines.{line_taken}
use Rattle.text_lines.proofs.LinesRead.{read_closed, read_taken, read_refused, room_first, room_taken, room_fits}
use Rattle.transcript.specs.Judging.{Gives, transcripts, lines_read}
use Rattle.transcript.proofs.Reading.{rounds_taken, refused_whole}
use Rattle.transcript.proofs.reader.read_within.Goals as goal

pub loop-next-init : goal.loop-next-init
loop-next-init c =
    rw (c.line_over-over.ensures, c.opening-progress.ensures) (refl, room_first c.args.most c.args.bytes.now c.requires, omega arith)

pub overflow_add-number : goal.overflow_add-number
overflow_add-number c =
    let p = c.loop-next in
    let over = c.line_over-over.result in
    let shorter = rw c.in-Some.is at c.next_line.ensures.shorter in
    let room = room_taken transcripts over p.number _ _ p.progress c.take_line.new.self c.next_line.result.0.now c.in_ok-take_line.ensures shorter p.invariant.1 in
    let small = room_fits over (p.number + 1) _ room in
    omega arith

pub returns-in_default : goal.returns-in_default
returns-in_default c =
    let p = c.loop-next in
    let text = c.next_line.result.0.now in
    let last = c.next_line.ensures.parted ∙ ap (λ o. text ∷ pieces_left 10 o) c.in_default.is in
    let whole = ap lines_read (sym (read_closed transcripts c.line_over-over.result p.number p.progress (pieces 10 p.rest.now) text last) ∙ p.invariant.0) in
    subst (Gives c.close.result) whole c.close.ensures

pub returns-in_err-take_line : goal.returns-in_err-take_line
returns-in_err-take_line c =
    let p = c.loop-next in
    let text = c.next_line.result.0.now in
    let parted = c.next_line.ensures.parted ∙ ap (λ o. text ∷ pieces_left 10 o) c.in-Some.is in
    let over = c.line_over-over.result in
    let refused = refused_whole c.in_err-take_line.field-0.0 _ (line_taken transcripts over p.number p.progress text) _ (λ first e. sym p.invariant.0 ∙ read_refused transcripts over p.number p.progress first (pieces 10 p.rest.now) text c.in-Some.next.now parted e) c.in_err-take_line.ensures in
    let q = err_from_is_err_and c.from_residual.result c.from_residual.ensures.1 in
    rw (q.1, q.2) refused

pub loop-next-preserved : goal.loop-next-preserved
loop-next-preserved c =
    let p = c.loop-next in
    let text = c.next_line.result.0.now in
    let parted = c.next_line.ensures.parted ∙ ap (λ o. text ∷ pieces_left 10 o) c.in-Some.is in
    let over = c.line_over-over.result in
    let q = c.take_line.new.self in
    let taken = c.in_ok-take_line.ensures in
    let shorter = rw c.in-Some.is at c.next_line.ensures.shorter in
    (sym (read_taken transcripts over p.number p.progress q (pieces 10 p.rest.now) text c.in-Some.next.now parted taken) ∙ p.invariant.0, room_taken transcripts over p.number _ _ p.progress q text taken shorter p.invariant.1, omega (arith, p.invariant.2, rounds_taken over p.number p.progress q text taken))
