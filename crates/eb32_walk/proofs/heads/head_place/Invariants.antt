use Rattle.std.proofs.Common.{◌-◌}
use Rattle.eb32_walk.specs.Ends.{IsPlace, AtEntry}
use Rattle.eb32_walk.proofs.Climbing.{Climbed}
use Rattle.eb32_walk.proofs.Up.{place_rank}
use Rattle.eb32_walk.proofs.heads.head_place.Given as goal

abbrev pub invariant-loop-node : goal.invariant-loop-node
invariant-loop-node l = record {
  place : IsPlace l.arena l.place;
  climbed : AtEntry l.arena l.entry (λ xs k ys. Climbed l.arena l.place xs k ys);
}

abbrev pub decreases-loop-node : goal.decreases-loop-node
decreases-loop-node l = 32801 - place_rank l.arena l.place
