use Rattle.thread_loop.proofs.Opened.{OpensTo}
use Rattle.thread_loop.proofs.opening.machine_of.Given as goal

-- the tasks so far stand as they open
abbrev pub invariant-loop-number : goal.invariant-loop-number
invariant-loop-number l = record { opens : OpensTo l.script l.number l.machine }
