use Rattle.board_bench.specs.Callers.{IsUsed}
use Rattle.board_bench.proofs.drawn.tries.Given as goal

-- the pass is the board's
abbrev pub invariant-loop : goal.invariant-loop
invariant-loop l = IsUsed l.board l.pass
