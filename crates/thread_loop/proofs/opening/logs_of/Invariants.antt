use Rattle.std.proofs.Common.{◌≡◌, length}
use Rattle.thread_loop.proofs.opening.logs_of.Given as goal

-- there is a log for each turn of the loop so far
abbrev pub invariant-loop : goal.invariant-loop
invariant-loop l = record { made : length l.logs.items ≡ l.counter }
