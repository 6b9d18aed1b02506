use Rattle.std.proofs.Common.{◌≡◌, ◌≤◌, ℕ, length}
use Rattle.sched_base.specs.KeyedList.{root_at}
use Rattle.sched_base.proofs.tests.filled.Given as goal

abbrev pub invariant-loop-root : goal.invariant-loop-root
invariant-loop-root l = record {
  roots : length l.lists.roots ≡ 2;
  entries : l.lists.entries ≡ 8;
  count : (r : ℕ) → (root_at r l.lists).insertions ≤ l.root-index;
}
