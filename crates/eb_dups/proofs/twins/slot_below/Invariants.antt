use Rattle.std.proofs.Common.{◌≡◌}
use Rattle.eb_dups.specs.Spine.{depth_of}
use Rattle.eb_dups.proofs.Descent.{Walk, Counted}
use Rattle.eb_dups.proofs.twins.slot_below.Given as goal

abbrev pub invariant-loop-here : goal.invariant-loop-here
invariant-loop-here g l = record {
  walk : Walk l.arena l.fn.head l.slot.part l.here;
  deep : l.depth ≡ depth_of l.arena l.here;
  free : l.slot.depth ≡ depth_of l.arena l.slot.part;
  counted : Counted l.arena l.fn.head l.here l.fn.steps l.steps;
}

abbrev pub decreases-loop-here : goal.decreases-loop-here
decreases-loop-here g l = depth_of l.arena l.here
