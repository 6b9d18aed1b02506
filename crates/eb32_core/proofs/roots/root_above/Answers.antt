use Rattle.std.proofs.Common.{◌≡◌, ◌-◌, ◌<◌, ◌≤◌, length, sym, ap, ◌∙◌, subst}
use Rattle.std.specs.List.{list_any}
use Rattle.sched_base.specs.KeyedList.{is_entry}
use Rattle.eb_arena.specs.Links.{place_index}
use Rattle.eb_arena.specs.Shape.{list_of}
use Rattle.eb32_walk.proofs.Up.{at_node, on_root, somewhere, climbs}
use Rattle.eb32_core.proofs.Upward.{over_start, over_place, over_up, over_root}
use Rattle.eb32_core.proofs.roots.root_above.Goals as goal
use Rattle.eb32_core.proofs.roots.root_above.Goals.{After-entries}

pub loop-place-init : goal.loop-place-init
loop-place-init c = over_start _ _ _ c.requires.shape c.requires.in_tree (ap (λ x. x.leaf_p) c.element-place.ensures)

pub is_at_node-requires : goal.is_at_node-requires
is_at_node-requires c = somewhere _ _ (over_place _ _ _ c.loop-place.invariant)

pub above-place-requires-clause-some : goal.above-place-requires-clause-some
above-place-requires-clause-some c = somewhere _ _ (over_place _ _ _ c.loop-place.invariant)

pub loop-place-smaller : goal.loop-place-smaller
loop-place-smaller c =
    let f : place_index c.loop-place.place < length c.args.arena.now.elements = at_node _ _ _ c.is_at_node.ensures c.loop-place-test.true in
    climbs _ _ _ (over_place _ _ _ c.loop-place.invariant) f c.above-place.ensures

pub loop-place-preserved : goal.loop-place-preserved
loop-place-preserved c =
    let f : place_index c.loop-place.place < length c.args.arena.now.elements = at_node _ _ _ c.is_at_node.ensures c.loop-place-test.true in
    over_up _ _ _ _ c.loop-place.invariant f c.above-place.ensures

-- the place that was reached is that of the root
root_reached : (c : After-entries) → c.index.result - c.entries.result ≡ c.loop-place.invariant.root
root_reached c =
    let f : length c.args.arena.now.elements ≤ place_index c.loop-place.place = on_root _ _ _ c.is_at_node.ensures c.loop-place-test.false in
    ap (λ n. n - c.entries.result) c.index.ensures ∙ (ap (λ n. place_index c.loop-place.place - n) c.entries.ensures.count ∙ over_root _ _ _ c.loop-place.invariant f)

pub returns-clause-exists : goal.returns-clause-exists
returns-clause-exists c = subst (λ q. q < length c.args.arena.now.links) (sym (root_reached c)) c.loop-place.invariant.exists

pub returns-clause-held : goal.returns-clause-held
returns-clause-held c = ap (λ q. list_any (is_entry c.args.entry) (list_of c.args.arena.now q)) (root_reached c) ∙ c.loop-place.invariant.held
