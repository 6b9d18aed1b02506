use Rattle.std.proofs.Common.{◌≡◌}
use Rattle.wait_queue.specs.Timers.{wait_list}
use Rattle.wait_queue.proofs.Settling.{SoSettled, strays}
use Rattle.wait_queue.proofs.wait_queue.WaitQueue.settle.Given as goal

abbrev pub invariant-loop : goal.invariant-loop
invariant-loop g l = record { queue : l.self ≡ l.fn.self; far : SoSettled l.now l.self (g.K.KeyedLists.seen l.fn.lists) (g.K.KeyedLists.seen l.lists) }

abbrev pub decreases-loop : goal.decreases-loop
decreases-loop g l = strays l.self.expiries (wait_list l.now l.self (g.K.KeyedLists.seen l.lists)).items
