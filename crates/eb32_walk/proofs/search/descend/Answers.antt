use Rattle.std.proofs.Common.{refl, sym, ap, ◌∙◌, subst}
use Rattle.eb_arena.specs.Shape.{IsBit}
use Rattle.eb_arena.proofs.LeafOrNode.{node_is, leaf_is_no_node}
use Rattle.eb32_walk.proofs.Entries.{nothing_is, something_is}
use Rattle.eb32_walk.proofs.Seeking.{descends_start, descends_turn, narrow_some, narrow_turn, node_has, stops_node, stops_leaf, reaches}
use Rattle.eb32_walk.proofs.search.descend.Goals as goal

pub returns-then-is_none : goal.returns-then-is_none
returns-then-is_none g c = record { empty = sym c.root-part.ensures ∙ nothing_is _ _ c.is_none.ensures c.if-is_none.true; none = refl }

pub loop-steps-init : goal.loop-steps-init
loop-steps-init g c =
    descends_start c.args.arena.now c.args.root c.args.key _ c.root-part.result c.requires.shape c.requires.exists c.root-part.ensures (something_is _ _ c.is_none.ensures c.if-is_none.false)

pub node-node-requires-clause-some : goal.node-node-requires-clause-some
node-node-requires-clause-some g c = narrow_some _ _ _ _ c.loop-steps.invariant.narrow

pub node-node-requires-clause-exists : goal.node-node-requires-clause-exists
node-node-requires-clause-exists g c = (node_has _ _ _ _ _ c.loop-steps.invariant.narrow (node_is _ _ _ (narrow_some _ _ _ _ c.loop-steps.invariant.narrow) c.is_leaf.ensures c.loop-steps-test.true refl)).fits

pub turn-requires : goal.turn-requires
turn-requires g c =
    subst IsBit (sym (ap (λ e. e.bit) c.node-node.ensures)) (node_has _ _ _ _ _ c.loop-steps.invariant.narrow (node_is _ _ _ (narrow_some _ _ _ _ c.loop-steps.invariant.narrow) c.is_leaf.ensures c.loop-steps-test.true refl)).bit

pub returns-in_default : goal.returns-in_default
returns-in_default g c =
    reaches _ _ _ _ _ _ _ c.loop-steps.invariant (stops_node c.args.arena.now c.args.key _ _ _ (node_is _ _ _ (narrow_some _ _ _ _ c.loop-steps.invariant.narrow) c.is_leaf.ensures c.loop-steps-test.true refl) c.node-node.ensures (sym c.in_default.is ∙ c.turn.ensures)) c.tick.ensures

pub loop-steps-smaller : goal.loop-steps-smaller
loop-steps-smaller g c = (narrow_turn _ _ _ _ _ _ _ _ c.loop-steps.invariant.narrow (node_is _ _ _ (narrow_some _ _ _ _ c.loop-steps.invariant.narrow) c.is_leaf.ensures c.loop-steps-test.true refl) c.node-node.ensures (sym c.in-Some.is ∙ c.turn.ensures) c.child-part.ensures).falls

pub loop-steps-preserved : goal.loop-steps-preserved
loop-steps-preserved g c = descends_turn _ _ _ _ _ _ _ _ _ _ _ c.loop-steps.invariant (node_is _ _ _ (narrow_some _ _ _ _ c.loop-steps.invariant.narrow) c.is_leaf.ensures c.loop-steps-test.true refl) c.node-node.ensures (sym c.in-Some.is ∙ c.turn.ensures) c.child-part.ensures c.tick.ensures

pub returns : goal.returns
returns g c = reaches _ _ _ _ _ _ _ c.loop-steps.invariant (stops_leaf c.args.arena.now c.args.key _ (narrow_some _ _ _ _ c.loop-steps.invariant.narrow) (leaf_is_no_node _ _ c.is_leaf.ensures c.loop-steps-test.false)) c.tick-2.ensures

pub is_leaf-requires : goal.is_leaf-requires
is_leaf-requires g c = narrow_some _ _ _ _ c.loop-steps.invariant.narrow
