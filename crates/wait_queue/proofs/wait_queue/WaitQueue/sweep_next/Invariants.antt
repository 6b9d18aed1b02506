use Rattle.std.proofs.Common.{length}
use Rattle.queue_model.specs.Sweep.{due}
use Rattle.wait_queue.specs.Timers.{wait_list}
use Rattle.wait_queue.proofs.SoFar.{SoFar}
use Rattle.wait_queue.proofs.wait_queue.WaitQueue.sweep_next.Given as goal

abbrev pub invariant-loop-id : goal.invariant-loop-id
invariant-loop-id g l = SoFar l.now l.fn.self (g.K.KeyedLists.seen l.fn.lists) l.self (g.K.KeyedLists.seen l.lists)

abbrev pub decreases-loop-id : goal.decreases-loop-id
decreases-loop-id g l = length (due l.now (wait_list l.now l.self (g.K.KeyedLists.seen l.lists)))
