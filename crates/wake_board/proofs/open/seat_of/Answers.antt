use Rattle.std.proofs.Common.{sym, ◌∙◌}
use Rattle.wake_board.proofs.Deals.{IsSeatOf-held, some_same}
use Rattle.wake_board.proofs.open.seat_of.Goals as goal

pub returns : goal.returns
returns c =
    λ p is. IsSeatOf-held c.pass.inside.seat c.pass.inside.who.0 p (c.pass.view_is ∙ some_same c.in-Some.pass p (sym c.in-Some.is ∙ is)) c.pass.invariant
