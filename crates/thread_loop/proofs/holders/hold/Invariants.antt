use Rattle.thread_loop.proofs.Hands.{Follows}
use Rattle.thread_loop.proofs.holders.hold.Given as goal

-- what the entries so far leave
abbrev pub invariant-loop-entry : goal.invariant-loop-entry
invariant-loop-entry l = record { follows : Follows l.who l.entries l.entry-index l.homes l.initial.holders l.holders }
