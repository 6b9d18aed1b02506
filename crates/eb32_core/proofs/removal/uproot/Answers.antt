use Rattle.std.proofs.Common.{◌≡◌, ◌<◌, ◌≤◌, true, false, length, sym, ap, ◌∙◌, arith}
use Rattle.eb_arena.specs.declared.links.Place.TheVariants as places
use Rattle.eb_arena.specs.Links.{is_nowhere, place_index}
use Rattle.eb_arena.specs.Parts.{element_at}
use Rattle.eb32_core.proofs.Cost.{few_both}
use Rattle.eb32_core.proofs.Standing.{nowhere_is}
use Rattle.eb32_core.proofs.UprootShape.{replaced_uproots, unlinked_uproots, visits_alone, visits_two}
use Rattle.eb32_core.proofs.removal.uproot.Goals as goal

pub returns-then-not-is_none-clause-uproots : goal.returns-then-not-is_none-clause-uproots
returns-then-not-is_none-clause-uproots g c = replaced_uproots _ _ _ _ _ c.unlink-freed.ensures.unlinks c.replace.ensures.replaces

pub returns-then-not-is_none-clause-few : goal.returns-then-not-is_none-clause-few
returns-then-not-is_none-clause-few g c =
    few_both _ _ _ _ c.unlink-freed.ensures.few c.replace.ensures.few c.requires.shape c.requires.in_tree (replaced_uproots _ _ _ _ _ c.unlink-freed.ensures.unlinks c.replace.ensures.replaces)

pub returns-else-not-is_none-clause-uproots : goal.returns-else-not-is_none-clause-uproots
returns-else-not-is_none-clause-uproots g c =
    let n : (element_at c.unlink-freed.new.arena c.args.entry).node_p ≡ places.Nowhere = ap (λ m. m.node_p) (sym c.element-2.ensures) ∙ nowhere_is c.element-2.result.node_p (sym c.is_none.ensures ∙ c.if-not-is_none.false) in
    unlinked_uproots _ _ _ _ c.unlink-freed.ensures.unlinks n

pub returns-then-index-entries-clause-visits : goal.returns-then-index-entries-clause-visits
returns-then-index-entries-clause-visits g c =
    let place : c.index.result ≡ place_index (element_at c.args.arena.now c.args.entry).leaf_p = c.index.ensures ∙ ap (λ x. place_index x.leaf_p) c.element.ensures in
    let alone : length c.args.arena.now.elements ≤ place_index (element_at c.args.arena.now c.args.entry).leaf_p = omega (arith, place, c.if-index-entries.true, c.entries.ensures.count) in
    omega (arith, c.tick.ensures, visits_alone c.args.arena.now c.args.entry alone)

pub returns-then-not-is_none-clause-visits : goal.returns-then-not-is_none-clause-visits
returns-then-not-is_none-clause-visits g c =
    let place : c.index.result ≡ place_index (element_at c.args.arena.now c.args.entry).leaf_p = c.index.ensures ∙ ap (λ x. place_index x.leaf_p) c.element.ensures in
    let below : place_index (element_at c.args.arena.now c.args.entry).leaf_p < length c.args.arena.now.elements = omega (arith, place, c.if-index-entries.false, c.entries.ensures.count) in
    let used : false ≡ is_nowhere (element_at c.unlink-freed.new.arena c.args.entry).node_p = sym c.if-not-is_none.true ∙ c.is_none.ensures ∙ ap (λ x. is_nowhere x.node_p) c.element-2.ensures in
    omega (arith, c.tick.ensures, c.unlink-freed.ensures.visits, c.replace.ensures.visits, visits_two c.args.arena.now c.args.entry false below (used ∙ c.unlink-freed.ensures.own))

pub returns-else-not-is_none-clause-visits : goal.returns-else-not-is_none-clause-visits
returns-else-not-is_none-clause-visits g c =
    let place : c.index.result ≡ place_index (element_at c.args.arena.now c.args.entry).leaf_p = c.index.ensures ∙ ap (λ x. place_index x.leaf_p) c.element.ensures in
    let below : place_index (element_at c.args.arena.now c.args.entry).leaf_p < length c.args.arena.now.elements = omega (arith, place, c.if-index-entries.false, c.entries.ensures.count) in
    let unused : true ≡ is_nowhere (element_at c.unlink-freed.new.arena c.args.entry).node_p = sym c.if-not-is_none.false ∙ c.is_none.ensures ∙ ap (λ x. is_nowhere x.node_p) c.element-2.ensures in
    omega (arith, c.tick.ensures, c.unlink-freed.ensures.visits, visits_two c.args.arena.now c.args.entry true below (unused ∙ c.unlink-freed.ensures.own))
