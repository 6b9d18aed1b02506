use Rattle.merge_bench.specs.Histories.{AreCut}
use Rattle.merge_bench.proofs.merges.cut.Given as goal

-- the logs so far
abbrev pub invariant-loop-k : goal.invariant-loop-k
invariant-loop-k l = AreCut l.logs.items l.k l.entries
