use Rattle.std.proofs.Common.{◌≡◌, ◌≤◌, length}
use Rattle.merge_bench.specs.Histories.{TakenAtMost}
use Rattle.merge_bench.proofs.histories.random_history.Given as goal

-- each call takes a task once at most, and has one entry at most
abbrev pub invariant-loop-i : goal.invariant-loop-i
invariant-loop-i l = record {
  taken : TakenAtMost l._i l.machine;
  tasks : length l.machine.tasks ≡ l.shape.tasks;
  entries : length l.history.entries ≤ l._i;
  room : l.count ≤ l.history.room;
}
