use Rattle.std.proofs.Common.{◌≡◌, length}
use Rattle.shared_queue.specs.Dealing.{AreNices}
use Rattle.shared_queue.proofs.boards.nices.Given as goal

-- all nices are in range
abbrev pub invariant-loop-task : goal.invariant-loop-task
invariant-loop-task l = record {
  sized : length l.nices.items ≡ l.tasks;
  nices : AreNices l.nices.items;
}
