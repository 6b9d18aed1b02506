use Rattle.std.proofs.Common.{◌+◌, ◌*◌, ◌^◌, ◌≤◌, length, slice_index}
use Rattle.trees_bench.specs.Filled.{HasOneRoot, AllFree}
use Rattle.trees_bench.proofs.rounds.measure.Given as goal

abbrev pub invariant-loop : goal.invariant-loop
invariant-loop g l = record {
  root : HasOneRoot l.forest;
  free : AllFree l.forest;
  entries : length l.forest.parts.elements ≤ 2 ^ 30;
  insertions : slice_index l.forest.made 0 ≤ 2 ^ 31 * (l.counter + 1);
}
