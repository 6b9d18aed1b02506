use Rattle.std.proofs.Common.{refl}
use Rattle.wake_board.proofs.Grown.{IsPass-out}
use Rattle.wake_board.proofs.board.Board.body_out.Goals as goal

pub slot_out-requires-clause-named : goal.slot_out-requires-clause-named
slot_out-requires-clause-named c = refl

pub slot_out-requires-clause-home : goal.slot_out-requires-clause-home
slot_out-requires-clause-home c = rw (← c.pass.view_is) at c.requires.home

pub invariant_of-pass : goal.invariant_of-pass
invariant_of-pass c =
    IsPass-out c.pass.inside.who.0 c.pass.inside.seat.me c.slot_out.new.seat.me c.args.id.0 c.slot_out.result c.pass.invariant c.slot_out.ensures.told
