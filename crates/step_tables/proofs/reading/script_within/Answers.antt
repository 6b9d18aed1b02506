use Rattle.std.proofs.Common.{◌≡◌, ◌∷◌, [], ◌<◌, length, ◌∙◌, ap, subst}
use Rattle.std.specs.Prelude.{IfSome}
use Rattle.std.proofs.lemmas.Result.{err_from_is_err_and}
use Rattle.step_tables.specs.Words.{pieces}
use Rattle.text_lines.specs.Pieces.{pieces_left}
use Rattle.step_tables.specs.Judging.{script_read}
use Rattle.step_tables.specs.Views.{Gives}
use Rattle.step_tables.proofs.ReadBack.{read_sound}
use Rattle.step_tables.proofs.LineLoop.{before_next, gives_fault, before_end}
use Rattle.step_tables.proofs.reading.script_within.Goals as goal

pub returns-in_default : goal.returns-in_default
returns-in_default c =
    let cut : pieces 10 c.lines.rest.now ≡ c.next_line.result.0.now ∷ [] = c.next_line.ensures.parted ∙ ap (λ r. c.next_line.result.0.now ∷ pieces_left 10 r) c.in_default.is in
    subst (λ r. Gives c.close.result (script_read r)) (before_end _ c.args.bytes.now _ _ _ _ _ cut c.lines.invariant) c.close.ensures

pub returns-in_err-take_line : goal.returns-in_err-take_line
returns-in_err-take_line c =
    let cut : pieces 10 c.lines.rest.now ≡ c.next_line.result.0.now ∷ pieces 10 c.in-Some.more.now = c.next_line.ensures.parted ∙ ap (λ r. c.next_line.result.0.now ∷ pieces_left 10 r) c.in-Some.is in
    let p = err_from_is_err_and c.from_residual.result c.from_residual.ensures.1 in
    rw (p.1, p.2) (gives_fault _ c.args.bytes.now c.lines.rest.now _ c.in-Some.more.now c.lines.number c.lines.progress c.take_line.new.self _ _ cut c.in_err-take_line.ensures c.lines.invariant)

pub lines-preserved : goal.lines-preserved
lines-preserved c =
    let cut : pieces 10 c.lines.rest.now ≡ c.next_line.result.0.now ∷ pieces 10 c.in-Some.more.now = c.next_line.ensures.parted ∙ ap (λ r. c.next_line.result.0.now ∷ pieces_left 10 r) c.in-Some.is in
    let less : length c.in-Some.more.now < length c.lines.rest.now = subst (λ r. IfSome r (λ more. length more.now < length c.lines.rest.now)) c.in-Some.is c.next_line.ensures.shorter in
    before_next _ c.args.bytes.now c.lines.rest.now _ c.in-Some.more.now c.lines.number c.lines.progress c.take_line.new.self _ cut less c.in_ok-take_line.ensures c.lines.invariant

pub close-requires : goal.close-requires
close-requires c =
    let cut : pieces 10 c.lines.rest.now ≡ c.next_line.result.0.now ∷ [] = c.next_line.ensures.parted ∙ ap (λ r. c.next_line.result.0.now ∷ pieces_left 10 r) c.in_default.is in
    read_sound _ c.args.limit c.args.bytes.now (ap script_read (before_end _ c.args.bytes.now _ _ _ _ _ cut c.lines.invariant))
