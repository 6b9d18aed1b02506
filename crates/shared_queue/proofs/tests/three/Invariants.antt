use Rattle.std.proofs.Common.{◌≡◌}
use Rattle.shared_queue.proofs.tests.three.Given as goal

-- the numbers of tasks and workers stay
abbrev pub invariant-loop-i : goal.invariant-loop-i
invariant-loop-i l = record {
  tasks : l.words.tasks ≡ 3;
  workers : l.words.workers ≡ 2;
}
