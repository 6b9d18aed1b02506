use Rattle.std.proofs.Common.{◌-◌}
use Rattle.eb32_walk.proofs.Up.{place_rank}
use Rattle.eb32_core.proofs.Upward.{IsOver}
use Rattle.eb32_core.proofs.roots.root_above.Given as goal

abbrev pub invariant-loop-place : goal.invariant-loop-place
invariant-loop-place l = IsOver l.arena l.entry l.place

abbrev pub decreases-loop-place : goal.decreases-loop-place
decreases-loop-place l = 32801 - place_rank l.arena l.place
