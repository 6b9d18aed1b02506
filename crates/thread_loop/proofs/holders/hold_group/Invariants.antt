use Rattle.std.proofs.Common.{length}
use Rattle.thread_loop.proofs.Hands.{GroupedBut}
use Rattle.thread_loop.proofs.Members.{in_group}
use Rattle.thread_loop.proofs.holders.hold_group.Given as goal

abbrev pub invariant-loop-rest : goal.invariant-loop-rest
invariant-loop-rest l = record { grouped : GroupedBut l.who l.group l.mask l.rest l.homes l.initial.holders l.holders }

abbrev pub decreases-loop-rest : goal.decreases-loop-rest
decreases-loop-rest l = length (in_group l.group l.rest)
