use Rattle.thread_loop.proofs.Hands.{HeldAll}
use Rattle.thread_loop.proofs.plant.hold_all.Given as goal

-- the workers so far went on with their logs
abbrev pub invariant-loop-who : goal.invariant-loop-who
invariant-loop-who l = record { held : HeldAll l.who l.homes l.logs l.initial.holders l.holders }
