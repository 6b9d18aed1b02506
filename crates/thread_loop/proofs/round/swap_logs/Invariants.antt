use Rattle.thread_loop.proofs.Passing.{IsSwapping}
use Rattle.thread_loop.proofs.round.swap_logs.Given as goal

abbrev pub invariant-loop-number : goal.invariant-loop-number
invariant-loop-number l = IsSwapping l.fn.workers l.fn.logs l.workers l.logs l.number
