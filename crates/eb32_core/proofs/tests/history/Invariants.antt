use Rattle.std.proofs.Common.{◌≡◌, ◌≤◌, ℕ, length}
use Rattle.sched_base.specs.KeyedList.{root_at}
use Rattle.eb32_core.proofs.tests.history.Given as goal

abbrev pub invariant-loop : goal.invariant-loop
invariant-loop g l = record {
  roots : length (g.K.KeyedLists.seen l.lists).roots ≡ 2;
  entries : (g.K.KeyedLists.seen l.lists).entries ≡ 128;
  count : (r : ℕ) → (root_at r (g.K.KeyedLists.seen l.lists)).insertions ≤ l.counter;
}
