use Rattle.std.proofs.Common.{◌≡◌, ◌<◌, ◌≤◌, ℕ, length}
use Rattle.sched_base.specs.KeyedList.{IsFree, IsPlaced}
use Rattle.eb32_core.specs.Forest.{seen_of}
use Rattle.trees_bench.specs.Filled.{Grows}
use Rattle.trees_bench.proofs.work.clear.Given as goal

abbrev pub invariant-loop-entry : goal.invariant-loop-entry
invariant-loop-entry g l = record {
  grows : Grows 0 l.fn.forest l.forest;
  end : l.entry-end ≡ length l.fn.forest.parts.elements;
  free : (e : ℕ) → e < l.entry → IsFree e (seen_of l.forest);
  placed : (e : ℕ) → l.entry ≤ e → e < length l.fn.forest.parts.elements → IsPlaced e (seen_of l.forest);
}
