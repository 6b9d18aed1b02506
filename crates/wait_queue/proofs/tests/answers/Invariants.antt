use Rattle.std.proofs.Common.{◌≡◌, ◌*◌, ◌≤◌, length}
use Rattle.wait_queue.specs.Timers.{Fits, insertions_of}
use Rattle.wait_queue.proofs.tests.answers.Given as goal

abbrev pub invariant-loop-call : goal.invariant-loop-call
invariant-loop-call l = record {
  fits : Fits l.queue l.lists;
  tasks : length l.queue.expiries ≡ 4;
  count : insertions_of l.queue l.lists ≤ 4 * l.call-index;
}
