use Rattle.std.proofs.Common.{◌-◌}
use Rattle.eb32_walk.proofs.Up.{StillOn, place_rank}
use Rattle.eb32_walk.proofs.ends.neighbour.Given as goal

abbrev pub invariant-loop-side : goal.invariant-loop-side
invariant-loop-side l = StillOn l.arena l.fn.up l.place l.side

abbrev pub decreases-loop-side : goal.decreases-loop-side
decreases-loop-side l = 32801 - place_rank l.arena l.place
