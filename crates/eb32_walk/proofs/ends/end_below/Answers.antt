use Rattle.std.proofs.Common.{◌≡◌, refl, ◌∙◌}
use Rattle.eb_arena.specs.declared.links.Target.TheVariants as targets
use Rattle.eb_arena.specs.Links.{index_of}
use Rattle.eb_arena.proofs.LeafOrNode.{node_is, leaf_is_no_node}
use Rattle.eb32_walk.proofs.Down.{EndTurn, EndFound, end_step, end_turn, end_found, node_tree, some_target}
use Rattle.eb32_walk.proofs.ends.end_below.Goals as goal

pub is_leaf-requires : goal.is_leaf-requires
is_leaf-requires c = some_target _ _ c.requires

pub returns-then-is_leaf-clause-answer : goal.returns-then-is_leaf-clause-answer
returns-then-is_leaf-clause-answer c =
    let f : EndFound c.args.arena.now c.args.side c.args.link c.index.result = end_found _ _ _ _ _ c.requires (leaf_is_no_node _ _ c.is_leaf.ensures c.if-is_leaf.true) c.index.ensures refl in
    f.answer

pub returns-then-is_leaf-clause-in_tree : goal.returns-then-is_leaf-clause-in_tree
returns-then-is_leaf-clause-in_tree c =
    let f : EndFound c.args.arena.now c.args.side c.args.link c.index.result = end_found _ _ _ _ _ c.requires (leaf_is_no_node _ _ c.is_leaf.ensures c.if-is_leaf.true) c.index.ensures refl in
    f.in_tree

pub child-part-requires-clause-some : goal.child-part-requires-clause-some
child-part-requires-clause-some c = some_target _ _ c.requires

pub child-part-requires-clause-exists : goal.child-part-requires-clause-exists
child-part-requires-clause-exists c =
    let n : targets.Node (index_of c.args.link) ≡ c.args.link = node_is _ _ _ (some_target _ _ c.requires) c.is_leaf.ensures c.if-is_leaf.false refl in
    (end_step c.args.arena.now c.args.side (index_of c.args.link) (node_tree _ _ _ n c.requires)).fits

pub loop-side-init : goal.loop-side-init
loop-side-init c =
    let n : targets.Node (index_of c.args.link) ≡ c.args.link = node_is _ _ _ (some_target _ _ c.requires) c.is_leaf.ensures c.if-is_leaf.false refl in
    let t : EndTurn c.args.arena.now c.args.side c.args.link c.child-part.result = end_turn _ _ _ _ c.requires n c.child-part.ensures in
    record { is_tree = t.is_tree; same = t.same }

pub is_leaf-requires-in-loop-side : goal.is_leaf-requires-in-loop-side
is_leaf-requires-in-loop-side c = some_target _ _ c.loop-side.invariant.is_tree

pub child-part-requires-in-loop-side-clause-some : goal.child-part-requires-in-loop-side-clause-some
child-part-requires-in-loop-side-clause-some c = some_target _ _ c.loop-side.invariant.is_tree

pub child-part-requires-in-loop-side-clause-exists : goal.child-part-requires-in-loop-side-clause-exists
child-part-requires-in-loop-side-clause-exists c =
    let n : targets.Node (index_of c.loop-side.part) ≡ c.loop-side.part = node_is _ _ _ (some_target _ _ c.loop-side.invariant.is_tree) c.is_leaf-in-loop-side.ensures c.loop-side-test.true refl in
    (end_step c.args.arena.now c.args.side (index_of c.loop-side.part) (node_tree _ _ _ n c.loop-side.invariant.is_tree)).fits

pub loop-side-smaller : goal.loop-side-smaller
loop-side-smaller c =
    let n : targets.Node (index_of c.loop-side.part) ≡ c.loop-side.part = node_is _ _ _ (some_target _ _ c.loop-side.invariant.is_tree) c.is_leaf-in-loop-side.ensures c.loop-side-test.true refl in
    (end_turn _ _ _ _ c.loop-side.invariant.is_tree n c.child-part-in-loop-side.ensures).falls

pub loop-side-preserved : goal.loop-side-preserved
loop-side-preserved c =
    let n : targets.Node (index_of c.loop-side.part) ≡ c.loop-side.part = node_is _ _ _ (some_target _ _ c.loop-side.invariant.is_tree) c.is_leaf-in-loop-side.ensures c.loop-side-test.true refl in
    let t : EndTurn c.args.arena.now c.args.side c.loop-side.part c.child-part-in-loop-side.result = end_turn _ _ _ _ c.loop-side.invariant.is_tree n c.child-part-in-loop-side.ensures in
    record { is_tree = t.is_tree; same = t.same ∙ c.loop-side.invariant.same }

pub returns-clause-answer : goal.returns-clause-answer
returns-clause-answer c =
    let f : EndFound c.args.arena.now c.args.side c.args.link c.index-2.result = end_found _ _ _ _ _ c.loop-side.invariant.is_tree (leaf_is_no_node _ _ c.is_leaf-in-loop-side.ensures c.loop-side-test.false) c.index-2.ensures c.loop-side.invariant.same in
    f.answer

pub returns-clause-in_tree : goal.returns-clause-in_tree
returns-clause-in_tree c =
    let f : EndFound c.args.arena.now c.args.side c.args.link c.index-2.result = end_found _ _ _ _ _ c.loop-side.invariant.is_tree (leaf_is_no_node _ _ c.is_leaf-in-loop-side.ensures c.loop-side-test.false) c.index-2.ensures c.loop-side.invariant.same in
    f.in_tree
