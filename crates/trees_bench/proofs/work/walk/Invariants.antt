use Rattle.std.specs.Prelude.{IfSome}
use Rattle.eb32_walk.specs.Ends.{IsIn}
use Rattle.trees_bench.proofs.work.walk.Given as goal

abbrev pub invariant-loop : goal.invariant-loop
invariant-loop l = record {
  found : IfSome l.at (IsIn l.arena);
}
