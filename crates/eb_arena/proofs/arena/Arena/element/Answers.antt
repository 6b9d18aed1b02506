use Rattle.std.proofs.Common.{◌∙◌, ◌+◌, ◌*◌, w16, arith, rules}
use mir.Val.{SFits}
use Rattle.std.proofs.lemmas.Int.{to_z-of_z}
use Rattle.eb_arena.proofs.Halves.{counted, has_room, mark_fits, assembled, same_links}
use Rattle.eb_arena.proofs.arena.Arena.element.Goals as goal

pub index-key-requires : goal.index-key-requires
index-key-requires c = omega (arith, c.self.inside.marks.ok.0, mark_fits _ _ _ c.args.self.now c.args.index (2 * c.args.index) c.self.view_is c.self.invariant c.requires (omega arith))

pub overflow_mul-first : goal.overflow_mul-first
overflow_mul-first c = omega (arith, c.requires, has_room _ _ _ c.args.self.now c.self.view_is c.self.invariant)

pub index-requires : goal.index-requires
index-requires c = omega (arith, c.requires, c.self.inside.halves.ok.0, c.self.invariant.both, counted _ _ _ c.args.self.now c.self.view_is)

pub index-requires-2 : goal.index-requires-2
index-requires-2 c = omega (arith, c.requires, c.self.inside.halves.ok.0, c.self.invariant.both, counted _ _ _ c.args.self.now c.self.view_is)

pub index-requires-3 : goal.index-requires-3
index-requires-3 c = omega (arith, c.requires, c.self.inside.halves.ok.0, c.self.invariant.both, counted _ _ _ c.args.self.now c.self.view_is)

pub index-requires-4 : goal.index-requires-4
index-requires-4 c = omega (arith, c.requires, c.self.inside.halves.ok.0, c.self.invariant.both, counted _ _ _ c.args.self.now c.self.view_is)

pub index-requires-5 : goal.index-requires-5
index-requires-5 c = omega (arith, c.self.inside.marks.ok.0, mark_fits _ _ _ c.args.self.now c.args.index (2 * c.args.index + 1) c.self.view_is c.self.invariant c.requires (omega arith))

pub returns : goal.returns
returns c =
    let f : SFits w16 c.bit_in.result = search rules in
    same_links _ _ _ _ _ _ _ _ _ _ c.link.ensures c.link-2.ensures c.up.ensures c.up-2.ensures
    ∙ assembled _ _ _ c.args.self.now c.args.index c.index.result.now c.index-2.result.now c.index-3.result.now c.index-4.result.now _ _ _ c.self.view_is c.self.invariant c.requires c.index.ensures c.index-2.ensures c.index-3.ensures c.index-4.ensures c.index-key.ensures c.index-5.ensures (to_z-of_z w16 c.bit_in.result f ∙ c.bit_in.ensures)
