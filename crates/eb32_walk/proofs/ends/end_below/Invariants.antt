use Rattle.std.proofs.Common.{◌≡◌}
use Rattle.eb_arena.specs.Shape.{list_below}
use Rattle.eb32_walk.specs.Ends.{IsTree, end_entry}
use Rattle.eb32_walk.proofs.Down.{target_rank}
use Rattle.eb32_walk.proofs.ends.end_below.Given as goal

abbrev pub invariant-loop-side : goal.invariant-loop-side
invariant-loop-side l = record {
  is_tree : IsTree l.arena l.part;
  same : end_entry l.side (list_below l.arena l.part) ≡ end_entry l.side (list_below l.arena l.fn.link);
}

abbrev pub decreases-loop-side : goal.decreases-loop-side
decreases-loop-side l = target_rank l.arena l.part
