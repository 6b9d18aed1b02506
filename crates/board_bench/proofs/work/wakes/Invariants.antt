use Rattle.board_bench.specs.Callers.{IsUsed}
use Rattle.board_bench.proofs.work.wakes.Given as goal

-- the pass is of the board
abbrev pub invariant-loop : goal.invariant-loop
invariant-loop l = IsUsed l.board l.pass
