use Rattle.std.proofs.Common.{◌+◌, ◌*◌, ◌-◌, length}
use Rattle.thread_loop.proofs.round.+turns.Given as goal

-- a run of n workers, the two runs that it is cut into, and their closures
abbrev pub decreases-turns : goal.decreases-turns
decreases-turns g l = 4 * length l.workers.now

abbrev pub decreases-both : goal.decreases-both
decreases-both g l = 4 * (length l.front.now + length l.back.now) - 1

abbrev pub decreases-both-join_mut+arg2 : goal.decreases-both-join_mut+arg2
decreases-both-join_mut+arg2 g l = 4 * length l.front.now + 1

abbrev pub decreases-both-join_mut+arg3 : goal.decreases-both-join_mut+arg3
decreases-both-join_mut+arg3 g l = 4 * length l.back.now + 1
