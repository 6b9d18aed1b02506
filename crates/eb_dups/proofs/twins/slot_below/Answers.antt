use Rattle.std.proofs.Common.{◌≡◌, refl}
use Rattle.eb_arena.specs.declared.links.Target.TheVariants as targets
use Rattle.eb_arena.specs.Links.{index_of}
use Rattle.eb_arena.proofs.LeafOrNode.{node_is, leaf_is_no_node}
use Rattle.eb_dups.proofs.Descent.{SpineStep, walk_start, walk_end, here_some, here_twins, step_down, next_twins, count_start, count_down, count_end}
use Rattle.eb_dups.proofs.twins.slot_below.Goals as goal

pub loop-here-init : goal.loop-here-init
loop-here-init g c = record {
  walk = walk_start c.args.arena.now c.args.head c.requires;
  deep = c.visit-depth.ensures.depth;
  free = c.visit-depth.ensures.depth;
  counted = count_start c.args.arena.now c.args.head _ _ c.requires c.visit-depth.ensures.step;
}

pub loop-here-preserved-then-below-depth : goal.loop-here-preserved-then-below-depth
loop-here-preserved-then-below-depth g c =
    let n : targets.Node (index_of c.loop-here.here) ≡ c.loop-here.here = node_is _ _ _ (here_some _ _ _ _ c.loop-here.invariant.walk) c.is_leaf.ensures c.loop-here-test.true refl in
    let s : SpineStep c.args.arena.now c.args.head c.loop-here.slot.part c.child-down.result c.loop-here.depth c.visit-below.result = step_down _ _ _ _ _ _ _ _ c.loop-here.invariant.walk n c.child-down.ensures c.loop-here.invariant.deep c.visit-below.ensures.depth in
    record {
      walk = s.slot_down c.if-below-depth.true;
      deep = c.visit-below.ensures.depth;
      free = c.visit-below.ensures.depth;
      counted = count_down _ _ _ _ _ _ _ _ c.loop-here.invariant.counted (here_twins _ _ _ _ c.loop-here.invariant.walk) n c.child-down.ensures c.visit-below.ensures.step;
    }

pub loop-here-preserved : goal.loop-here-preserved
loop-here-preserved g c =
    let n : targets.Node (index_of c.loop-here.here) ≡ c.loop-here.here = node_is _ _ _ (here_some _ _ _ _ c.loop-here.invariant.walk) c.is_leaf.ensures c.loop-here-test.true refl in
    let s : SpineStep c.args.arena.now c.args.head c.loop-here.slot.part c.child-down.result c.loop-here.depth c.visit-below.result = step_down _ _ _ _ _ _ _ _ c.loop-here.invariant.walk n c.child-down.ensures c.loop-here.invariant.deep c.visit-below.ensures.depth in
    record {
      walk = s.slot_stays c.if-below-depth.false;
      deep = c.visit-below.ensures.depth;
      free = c.loop-here.invariant.free;
      counted = count_down _ _ _ _ _ _ _ _ c.loop-here.invariant.counted (here_twins _ _ _ _ c.loop-here.invariant.walk) n c.child-down.ensures c.visit-below.ensures.step;
    }

pub returns-clause-slot : goal.returns-clause-slot
returns-clause-slot g c = walk_end c.args.arena.now c.args.head c.loop-here.slot.part c.loop-here.here c.loop-here.invariant.walk (leaf_is_no_node _ _ c.is_leaf.ensures c.loop-here-test.false)

pub returns-clause-steps : goal.returns-clause-steps
returns-clause-steps g c = count_end _ _ _ _ _ c.loop-here.invariant.counted (leaf_is_no_node _ _ c.is_leaf.ensures c.loop-here-test.false)

pub visit-below-requires : goal.visit-below-requires
visit-below-requires g c =
    let n : targets.Node (index_of c.loop-here.here) ≡ c.loop-here.here = node_is _ _ _ (here_some _ _ _ _ c.loop-here.invariant.walk) c.is_leaf.ensures c.loop-here-test.true refl in
    next_twins _ _ _ _ _ _ c.loop-here.invariant.walk n c.child-down.ensures
