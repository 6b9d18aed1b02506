use Rattle.taskrun.specs.Summary.{Counted}
use Rattle.taskrun.proofs.summary.summary.Given as goal

-- the rounds so far are counted, and the next one is made
abbrev pub invariant-loop-round : goal.invariant-loop-round
invariant-loop-round g l = Counted l.script l.round l.course (g.C.Crew.told l.fn.crew) (g.C.Crew.told l.crew) l.counts
