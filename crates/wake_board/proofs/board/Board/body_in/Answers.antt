use Rattle.std.proofs.Common.{List, refl, sym, ap, subst}
use Rattle.wake_board.specs.declared.views.Out.{Out}
use Rattle.wake_board.specs.declared.views.View.{View}
use Rattle.wake_board.specs.Outs.{NoBody}
use Rattle.wake_board.proofs.Fronts.{no_body_without}
use Rattle.wake_board.proofs.Grown.{IsPass-in}
use Rattle.wake_board.proofs.board.Board.body_in.Goals as goal

pub slot_in-requires-clause-named : goal.slot_in-requires-clause-named
slot_in-requires-clause-named c = refl

pub invariant_of-pass : goal.invariant_of-pass
invariant_of-pass c =
    let seat = c.pass.inside.seat in
    IsPass-in c.pass.inside.who.0 seat.me c.slot_in.new.seat.me c.args.id.0 c.pass.invariant c.slot_in.ensures.view c.slot_in.ensures.slots

pub returns-clause-home : goal.returns-clause-home
returns-clause-home c =
    let seat = c.pass.inside.seat in
    subst (λ (l : List Out). NoBody l c.args.id.0) (sym (ap (λ (v : View). v.outs) c.slot_in.ensures.view)) (no_body_without c.args.id.0 seat.me.0.outs)
