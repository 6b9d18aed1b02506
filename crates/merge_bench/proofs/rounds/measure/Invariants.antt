use Rattle.std.proofs.Common.{◌≡◌, ◌≤◌, length}
use Rattle.merge_bench.proofs.rounds.measure.Given as goal

-- the weaver is for these machines, and has room
abbrev pub invariant-loop : goal.invariant-loop
invariant-loop l = record {
  tasks : l.weaver.tasks ≡ l.shape.tasks;
  workers : l.weaver.workers ≡ l.shape.workers;
  room : length l.entries ≤ l.weaver.room;
}
