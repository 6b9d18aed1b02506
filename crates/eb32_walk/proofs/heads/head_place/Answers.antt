use Rattle.std.proofs.Common.{◌≡◌, ◌<◌, ◌≤◌, length, true, sym, ap, ◌∙◌, subst}
use Rattle.eb_arena.specs.Links.{place_index}
use Rattle.eb_arena.specs.Parts.{element_at, is_negative}
use Rattle.eb32_walk.specs.Ends.{IsPlace}
use Rattle.eb32_walk.proofs.Entries.{entry_place}
use Rattle.eb32_walk.proofs.Up.{at_node, on_root, somewhere, climbs}
use Rattle.eb32_walk.proofs.Climbing.{climb_start, climb_up, head_at_root, head_at_bit, place_up}
use Rattle.eb32_walk.proofs.heads.head_place.Goals as goal

pub loop-node-init : goal.loop-node-init
loop-node-init c =
    let e : c.element-place.result.leaf_p ≡ (element_at c.args.arena.now c.args.entry).leaf_p = ap (λ x. x.leaf_p) c.element-place.ensures in
    record {
      place = subst (IsPlace c.args.arena.now) (sym e) (entry_place c.args.arena.now c.args.entry c.requires.shape c.requires.in_tree);
      climbed = climb_start c.args.arena.now c.args.entry _ c.requires.shape e;
    }

pub is_at_node-requires : goal.is_at_node-requires
is_at_node-requires c = somewhere _ _ c.loop-node.invariant.place

pub index-requires : goal.index-requires
index-requires c = somewhere _ _ c.loop-node.invariant.place

pub returns-then-not-has_equal_keys-clause-head : goal.returns-then-not-has_equal_keys-clause-head
returns-then-not-has_equal_keys-clause-head c =
    let e : c.element-node.result ≡ element_at c.args.arena.now (place_index c.loop-node.place) = c.element-node.ensures ∙ ap (element_at c.args.arena.now) c.index.ensures in
    head_at_bit c.args.arena.now c.args.entry c.loop-node.place c.loop-node.invariant.climbed (ap (λ x. is_negative x.bit) (sym e) ∙ (sym c.has_equal_keys.ensures ∙ c.if-not-has_equal_keys.true))

pub loop-node-smaller : goal.loop-node-smaller
loop-node-smaller c =
    let f : place_index c.loop-node.place < length c.args.arena.now.elements = at_node _ _ _ c.is_at_node.ensures c.loop-node-test.true in
    climbs _ _ _ c.loop-node.invariant.place f (ap (λ e. e.node_p) (c.element-node.ensures ∙ ap (element_at c.args.arena.now) c.index.ensures))

pub loop-node-preserved : goal.loop-node-preserved
loop-node-preserved c =
    let f : place_index c.loop-node.place < length c.args.arena.now.elements = at_node _ _ _ c.is_at_node.ensures c.loop-node-test.true in
    let e : c.element-node.result ≡ element_at c.args.arena.now (place_index c.loop-node.place) = c.element-node.ensures ∙ ap (element_at c.args.arena.now) c.index.ensures in
    let n : is_negative (element_at c.args.arena.now (place_index c.loop-node.place)).bit ≡ true = ap (λ x. is_negative x.bit) (sym e) ∙ (sym c.has_equal_keys.ensures ∙ c.if-not-has_equal_keys.false) in
    record {
      place = place_up c.args.arena.now c.loop-node.place _ c.loop-node.invariant.place f (ap (λ x. x.node_p) e);
      climbed = climb_up c.args.arena.now c.args.entry c.loop-node.place _ c.loop-node.invariant.climbed f n (ap (λ x. x.node_p) e);
    }

pub returns-clause-head : goal.returns-clause-head
returns-clause-head c =
    let f : length c.args.arena.now.elements ≤ place_index c.loop-node.place = on_root _ _ _ c.is_at_node.ensures c.loop-node-test.false in
    head_at_root c.args.arena.now c.args.entry c.loop-node.place c.loop-node.invariant.climbed f
