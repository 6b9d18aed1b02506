use Rattle.std.proofs.Common.{◌≡◌, ◌+◌, sym, ap, ◌∙◌, subst}
use Rattle.eb_arena.specs.declared.links.Side.TheVariants as sides
use Rattle.eb_arena.specs.declared.links.Target.TheVariants as targets
use Rattle.eb_arena.specs.declared.links.Place.TheVariants as places
use Rattle.eb_arena.specs.Parts.{hung, with_link}
use Rattle.eb_arena.specs.Shape.{root_place}
use Rattle.eb32_core.specs.Planted.{Plants}
use Rattle.eb32_core.proofs.Cost.{first_few}
use Rattle.eb32_core.proofs.First.{rooted, first_planted}
use Rattle.eb32_core.proofs.planting.plant_first.Goals as goal

pub returns-clause-plants : goal.returns-clause-plants
returns-clause-plants c =
    let u : c.new-up.result ≡ root_place c.args.arena.now c.args.root = c.new-up.ensures ∙ ap (λ m. places.Under (m + c.args.root) sides.Left) c.entries.ensures.count in
    let e : c.set_root.new.self ≡ rooted c.args.arena.now c.args.root c.args.entry = c.set_root.ensures ∙ (ap (λ z. with_link z c.args.root c.leaf-leaf.result) c.hang.ensures ∙ (ap (λ t. with_link (hung c.args.arena.now t c.new-up.result) c.args.root t) c.leaf-leaf.ensures ∙ ap (λ o. with_link (hung c.args.arena.now (targets.Leaf c.args.entry) o) c.args.root (targets.Leaf c.args.entry)) u)) in
    subst (λ z. Plants c.args.arena.now z c.args.root c.args.entry) (sym e) (first_planted c.args.arena.now c.args.root c.args.entry c.requires.root_exists c.requires.entry_exists c.requires.empty c.requires.free)

pub returns-clause-few : goal.returns-clause-few
returns-clause-few c = first_few _ _ _ _ _ _ _ _ c.leaf-leaf.ensures c.hang.ensures c.set_root.ensures
