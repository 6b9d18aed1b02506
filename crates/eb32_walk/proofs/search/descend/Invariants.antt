use Rattle.eb32_walk.proofs.Down.{target_rank}
use Rattle.eb32_walk.proofs.Seeking.{Descends}
use Rattle.eb32_walk.proofs.search.descend.Given as goal

abbrev pub invariant-loop-steps : goal.invariant-loop-steps
invariant-loop-steps g l = Descends l.arena l.root l.key l.fn.steps l.steps l.part

abbrev pub decreases-loop-steps : goal.decreases-loop-steps
decreases-loop-steps g l = target_rank l.arena l.part
