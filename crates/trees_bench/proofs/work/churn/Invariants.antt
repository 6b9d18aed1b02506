use Rattle.std.proofs.Common.{◌≡◌, length}
use Rattle.trees_bench.specs.Filled.{AllPlaced, Grows}
use Rattle.trees_bench.proofs.work.churn.Given as goal

abbrev pub invariant-loop : goal.invariant-loop
invariant-loop g l = record {
  grows : Grows l.counter l.fn.forest l.forest;
  end : l.end ≡ length l.fn.forest.parts.elements;
  placed : AllPlaced l.forest;
}
