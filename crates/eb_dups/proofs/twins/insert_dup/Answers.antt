use Rattle.std.proofs.Common.{◌≡◌, ◌<◌, negsuc, sym, ap, ◌∙◌, subst, arith}
use Rattle.std.proofs.Common.{w16, rules}
use mir.Val.{SFits, to_z, of_z}
use Rattle.std.proofs.lemmas.Int.{to_z-of_z}
use Rattle.eb_arena.specs.declared.links.Side.TheVariants as sides
use Rattle.eb_arena.specs.Parts.{up_of}
use Rattle.eb_dups.specs.Grown.{attached}
use Rattle.eb_dups.specs.Spine.{depth_of}
use Rattle.eb_dups.specs.Added.{AddsTwin}
use Rattle.eb_dups.proofs.Ending.{head_twins, slot_depth, slot_hangs, slot_left, slot_place, twin_added, head_after_is}
use Rattle.eb_dups.proofs.Cost.{few_attached}
use Rattle.eb_dups.proofs.twins.insert_dup.Goals as goal

pub slot_below-slot-requires : goal.slot_below-slot-requires
slot_below-slot-requires g c = head_twins c.args.arena.now c.args.head _ c.requires.head

pub bit_above-bit-requires : goal.bit_above-bit-requires
bit_above-bit-requires g c =
    let s : depth_of c.args.arena.now c.slot_below-slot.result.part < 63 = slot_depth c.args.arena.now c.args.head c.slot_below-slot.result.part c.requires.room c.slot_below-slot.ensures.slot in
    omega (arith, s, c.slot_below-slot.ensures.depth)

pub attach-requires-clause-hangs : goal.attach-requires-clause-hangs
attach-requires-clause-hangs g c = slot_hangs c.args.arena.now c.args.head c.slot_below-slot.result.part _ c.requires.head c.slot_below-slot.ensures.slot

pub attach-requires-clause-place_exists : goal.attach-requires-clause-place_exists
attach-requires-clause-place_exists g c = slot_place c.args.arena.now c.args.head c.slot_below-slot.result.part _ c.requires.head c.slot_below-slot.ensures.slot

pub attach-requires-clause-left : goal.attach-requires-clause-left
attach-requires-clause-left g c = slot_left c.args.arena.now c.args.head c.slot_below-slot.result.part _ c.requires.head c.slot_below-slot.ensures.slot

pub returns-clause-adds : goal.returns-clause-adds
returns-clause-adds g c =
    let f : SFits w16 c.bit_above-bit.result = search rules in
    let b : c.bit_above-bit.result ≡ negsuc (depth_of c.args.arena.now c.slot_below-slot.result.part) = c.bit_above-bit.ensures ∙ ap negsuc c.slot_below-slot.ensures.depth in
    let e : c.attach.new.arena ≡ attached c.args.arena.now c.slot_below-slot.result.part (up_of c.args.arena.now c.slot_below-slot.result.part) c.args.entry sides.Right (negsuc (depth_of c.args.arena.now c.slot_below-slot.result.part)) = c.attach.ensures ∙ ap (attached c.args.arena.now c.slot_below-slot.result.part (up_of c.args.arena.now c.slot_below-slot.result.part) c.args.entry sides.Right) (to_z-of_z w16 c.bit_above-bit.result f ∙ b) in
    subst (λ z. AddsTwin c.args.arena.now z c.args.head c.args.entry) (sym e) (twin_added c.args.arena.now c.args.head c.slot_below-slot.result.part c.args.entry c.requires.head c.requires.room c.slot_below-slot.ensures.slot c.requires.exists c.requires.free)

pub returns-clause-head : goal.returns-clause-head
returns-clause-head g c = head_after_is c.args.arena.now c.attach.new.arena c.args.head c.args.entry c.requires.head (returns-clause-adds g c)

pub returns-clause-few : goal.returns-clause-few
returns-clause-few g c =
    few_attached c.args.arena.now c.attach.new.arena c.slot_below-slot.result.part (up_of c.args.arena.now c.slot_below-slot.result.part) c.args.entry sides.Right (to_z w16 (of_z w16 c.bit_above-bit.result)) c.attach.ensures
