use Rattle.std.proofs.Common.{IfSome}
use Rattle.eb32_walk.specs.Ends.{IsIn}
use Rattle.eb32_core.proofs.tests.order.Given as goal

abbrev pub invariant-loop : goal.invariant-loop
invariant-loop l = IfSome l.at (IsIn l.arena)
