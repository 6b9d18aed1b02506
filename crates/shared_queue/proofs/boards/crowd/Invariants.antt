use Rattle.shared_queue.proofs.Crowding.{IsCrowding}
use Rattle.shared_queue.proofs.boards.crowd.Given as goal

-- the tasks from `next` on rest
abbrev pub invariant-loop-id : goal.invariant-loop-id
invariant-loop-id l = IsCrowding l.words l.tasks l.next
