use Rattle.std.proofs.Common.{◌≡◌, ◌+◌, ◌≤◌}
use Rattle.sched_base.specs.KeyedList.{root_at}
use Rattle.run_queue.specs.Runners.{Fits}
use Rattle.run_queue.proofs.tests.agrees.Given as goal

abbrev pub invariant-loop-turn : goal.invariant-loop-turn
invariant-loop-turn l = record {
  fits : Fits l.queue l.lists;
  entries : l.lists.entries ≡ 6;
  root : l.queue.root ≡ 0;
  count : l.queue.count ≤ l.fn.count + l.turn;
  insertions : (root_at 0 l.lists).insertions ≤ l.turn;
}
