use Rattle.std.proofs.Common.{◌≡◌, ◌<◌, pos, length, sym, ap, ◌∙◌, subst, w16, arith, ◌^◌}
use mir.Val.{to_z, hbits}
use Rattle.std.proofs.lemmas.Int.{to_z_pos}
use Rattle.eb_arena.specs.Parts.{element_at, up_of}
use Rattle.eb_dups.specs.Grown.{attached}
use Rattle.eb_dups.proofs.Cost.{few_attached}
use Rattle.eb32_walk.specs.Search.{own_key}
use Rattle.eb32_core.specs.Landing.{IsTopBit, SideIs}
use Rattle.eb32_core.specs.Planted.{Plants}
use Rattle.eb32_core.proofs.Placing.{land_some, land_fits, land_hangs, land_place, land_left}
use Rattle.eb32_core.proofs.Plants.{branch_planted}
use Rattle.eb32_core.proofs.planting.branch_off.Goals as goal

pub index-requires : goal.index-requires
index-requires c = land_some _ _ _ _ c.requires.lands

pub element-own-requires : goal.element-own-requires
element-own-requires c = subst (λ n. n < length c.args.arena.now.elements) (sym c.index.ensures) (land_fits _ _ _ _ c.requires.lands)

pub attach-requires-clause-some : goal.attach-requires-clause-some
attach-requires-clause-some c = land_some _ _ _ _ c.requires.lands

pub attach-requires-clause-part_exists : goal.attach-requires-clause-part_exists
attach-requires-clause-part_exists c = land_fits _ _ _ _ c.requires.lands

pub attach-requires-clause-hangs : goal.attach-requires-clause-hangs
attach-requires-clause-hangs c = land_hangs _ _ _ _ c.requires.lands

pub attach-requires-clause-place_exists : goal.attach-requires-clause-place_exists
attach-requires-clause-place_exists c = land_place _ _ _ _ c.requires.lands c.requires.root_exists

pub attach-requires-clause-left : goal.attach-requires-clause-left
attach-requires-clause-left c = land_left _ _ _ _ c.requires.lands

pub returns-clause-plants : goal.returns-clause-plants
returns-clause-plants c =
    let small : c.top_bit.result < 2 ^ hbits w16 = let f : c.top_bit.result < 32 = c.top_bit.ensures.small in let g : c.top_bit.result < 32768 = omega (arith, f) in g in
    let bit : to_z w16 c.top_bit.result ≡ pos c.top_bit.result = to_z_pos w16 c.top_bit.result small in
    let own : c.element-own.result.key ≡ own_key c.args.arena.now c.args.part = ap (λ x. x.key) (c.element-own.ensures ∙ ap (element_at c.args.arena.now) c.index.ensures) in
    let key : c.element-key.result.key ≡ (element_at c.args.arena.now c.args.entry).key = ap (λ x. x.key) c.element-key.ensures in
    let top : IsTopBit (own_key c.args.arena.now c.args.part) (element_at c.args.arena.now c.args.entry).key c.top_bit.result = subst (λ k. IsTopBit (own_key c.args.arena.now c.args.part) k c.top_bit.result) key (subst (λ k. IsTopBit k c.element-key.result.key c.top_bit.result) own c.top_bit.ensures) in
    let side : SideIs (own_key c.args.arena.now c.args.part) (element_at c.args.arena.now c.args.entry).key c.side_of.result = subst (λ k. SideIs (own_key c.args.arena.now c.args.part) k c.side_of.result) key (subst (λ k. SideIs k c.element-key.result.key c.side_of.result) own c.side_of.ensures) in
    let e : c.attach.new.arena ≡ attached c.args.arena.now c.args.part (up_of c.args.arena.now c.args.part) c.args.entry c.side_of.result (pos c.top_bit.result) = c.attach.ensures ∙ ap (attached c.args.arena.now c.args.part (up_of c.args.arena.now c.args.part) c.args.entry c.side_of.result) bit in
    subst (λ z. Plants c.args.arena.now z c.args.root c.args.entry) (sym e) (branch_planted c.args.arena.now c.args.root c.args.part c.args.entry c.top_bit.result c.side_of.result c.requires.lands c.requires.root_exists c.requires.entry_exists c.requires.free top side)

pub returns-clause-few : goal.returns-clause-few
returns-clause-few c =
    few_attached c.args.arena.now c.attach.new.arena c.args.part (up_of c.args.arena.now c.args.part) c.args.entry c.side_of.result (to_z w16 c.top_bit.result) c.attach.ensures
