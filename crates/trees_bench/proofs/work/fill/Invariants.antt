use Rattle.std.proofs.Common.{◌≡◌, ◌<◌, ◌≤◌, ℕ, length}
use Rattle.sched_base.specs.KeyedList.{IsFree, IsPlaced}
use Rattle.eb32_core.specs.Forest.{seen_of}
use Rattle.trees_bench.specs.Filled.{Grows}
use Rattle.trees_bench.proofs.work.fill.Given as goal

abbrev pub invariant-loop-entry : goal.invariant-loop-entry
invariant-loop-entry g l = record {
  grows : Grows l.entry l.fn.forest l.forest;
  end : l.entry-end ≡ length l.fn.forest.parts.elements;
  placed : (e : ℕ) → e < l.entry → IsPlaced e (seen_of l.forest);
  free : (e : ℕ) → l.entry ≤ e → e < length l.fn.forest.parts.elements → IsFree e (seen_of l.forest);
}
