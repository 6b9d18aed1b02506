use Rattle.std.proofs.Common.{◌≡◌, ◌<◌, ◌≤◌, length, sym, ap, ◌∙◌}
use Rattle.eb_arena.specs.Links.{place_index, place_side}
use Rattle.eb_arena.specs.Parts.{element_at, child}
use Rattle.eb_arena.specs.Shape.{list_below}
use Rattle.eb32_walk.specs.Ends.{end_entry}
use Rattle.eb32_walk.proofs.Sides.{ne_same, ne_differ, other_is}
use Rattle.eb32_walk.proofs.Up.{at_node, on_root, reached, somewhere, climbs, still_on-up, turned, turn_finds, root_finds}
use Rattle.eb32_walk.proofs.ends.neighbour.Goals as goal

pub is_at_node-requires : goal.is_at_node-requires
is_at_node-requires c = somewhere _ _ (reached _ _ _ c.args.side c.requires c.loop-side.invariant)

pub side-requires : goal.side-requires
side-requires c = somewhere _ _ (reached _ _ _ c.args.side c.requires c.loop-side.invariant)

pub beside-requires-clause-some : goal.beside-requires-clause-some
beside-requires-clause-some c = somewhere _ _ (reached _ _ _ c.args.side c.requires c.loop-side.invariant)

pub end_below-requires : goal.end_below-requires
end_below-requires c =
    let f : place_index c.loop-side.place < length c.args.arena.now.elements = at_node _ _ _ c.is_at_node.ensures c.loop-side-test.true in
    let n : place_side c.loop-side.place ≡ c.args.side → ⊥ = ne_differ _ _ _ _ c.if-ne.true c.ne.ensures c.side.ensures in
    turned _ _ _ c.args.side _ c.requires c.loop-side.invariant f n (c.beside.ensures ∙ ap (λ s. child s (element_at c.args.arena.now (place_index c.loop-side.place))) (other_is _ _ n))

pub returns-then-ne-clause-answer : goal.returns-then-ne-clause-answer
returns-then-ne-clause-answer c =
    let f : place_index c.loop-side.place < length c.args.arena.now.elements = at_node _ _ _ c.is_at_node.ensures c.loop-side-test.true in
    let n : place_side c.loop-side.place ≡ c.args.side → ⊥ = ne_differ _ _ _ _ c.if-ne.true c.ne.ensures c.side.ensures in
    let e : c.beside.result ≡ child c.args.side (element_at c.args.arena.now (place_index c.loop-side.place)) = c.beside.ensures ∙ ap (λ s. child s (element_at c.args.arena.now (place_index c.loop-side.place))) (other_is _ _ n) in
    turn_finds _ _ _ c.args.side _ _ c.loop-side.invariant f n e (ap (λ s. end_entry s (list_below c.args.arena.now c.beside.result)) (sym c.opposite.ensures) ∙ c.end_below.ensures.answer)

pub above-place-requires-clause-some : goal.above-place-requires-clause-some
above-place-requires-clause-some c = somewhere _ _ (reached _ _ _ c.args.side c.requires c.loop-side.invariant)

pub loop-side-smaller : goal.loop-side-smaller
loop-side-smaller c =
    let f : place_index c.loop-side.place < length c.args.arena.now.elements = at_node _ _ _ c.is_at_node.ensures c.loop-side-test.true in
    climbs _ _ _ (reached _ _ _ c.args.side c.requires c.loop-side.invariant) f c.above-place.ensures

pub loop-side-preserved : goal.loop-side-preserved
loop-side-preserved c =
    let f : place_index c.loop-side.place < length c.args.arena.now.elements = at_node _ _ _ c.is_at_node.ensures c.loop-side-test.true in
    still_on-up _ _ _ _ c.args.side c.loop-side.invariant f (ne_same _ _ _ _ c.if-ne.false c.ne.ensures c.side.ensures) c.above-place.ensures

pub returns-clause-answer : goal.returns-clause-answer
returns-clause-answer c =
    let f : length c.args.arena.now.elements ≤ place_index c.loop-side.place = on_root _ _ _ c.is_at_node.ensures c.loop-side-test.false in
    root_finds _ _ _ c.args.side c.loop-side.invariant f
