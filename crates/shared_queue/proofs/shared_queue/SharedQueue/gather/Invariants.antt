use Rattle.shared_queue.proofs.Gathers.{AreGathered}
use Rattle.shared_queue.proofs.shared_queue.SharedQueue.gather.Given as goal

-- the tasks below this one are gathered
abbrev pub invariant-loop-i : goal.invariant-loop-i
invariant-loop-i g l = AreGathered l.nice l.words l.i l.fn.self l.self
