use Rattle.std.proofs.Common.{◌≡◌, ◌+◌, ◌≤◌, length}
use Rattle.merge_bench.proofs.histories.woken_by_three.Given as goal

abbrev pub invariant-loop-i : goal.invariant-loop-i
invariant-loop-i l = (length l.history.entries ≡ l.i + 1) × (l.count + 2 ≤ l.history.room)
