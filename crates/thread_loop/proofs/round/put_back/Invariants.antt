use Rattle.thread_loop.proofs.Passing.{IsBack}
use Rattle.thread_loop.proofs.round.put_back.Given as goal

abbrev pub invariant-loop-pass : goal.invariant-loop-pass
invariant-loop-pass l = IsBack l.fn.out.items l.passes l.out.items

abbrev pub decreases-loop-pass : goal.decreases-loop-pass
decreases-loop-pass l = goal.left-loop-pass l
