use Rattle.std.proofs.Common.{◌∙◌, ◌+◌, ◌*◌, w16, arith, rules}
use mir.Val.{SFits}
use Rattle.std.proofs.lemmas.Int.{to_z-of_z}
use Rattle.eb_arena.proofs.Halves.{counted, mark_fits, same_halves, written}
use Rattle.eb_arena.proofs.arena.Arena.set_same_key.Goals as goal

pub index_mut-requires : goal.index_mut-requires
index_mut-requires c = omega (arith, c.requires.exists, c.self.inside.halves.ok.0, c.self.invariant.both, counted _ _ _ c.args.self.now c.self.view_is)

pub index_mut-requires-2 : goal.index_mut-requires-2
index_mut-requires-2 c = omega (arith, c.requires.exists, c.self.inside.halves.ok.0, c.self.invariant.both, counted _ _ _ c.args.self.now c.self.view_is)

pub index_mut-requires-3 : goal.index_mut-requires-3
index_mut-requires-3 c = omega (arith, c.self.inside.marks.ok.0, mark_fits _ _ _ c.args.self.now c.args.index (2 * c.args.index + 1) c.self.view_is c.self.invariant c.requires.exists (omega arith))

pub returns : goal.returns
returns c =
    let f : SFits w16 c.args.element.bit = search rules in
    same_halves c.self.inside.halves.items _ _ c.args.index _ _ _ _ _ _ _ _ c.stored.ensures c.stored-3.ensures c.stored-4.ensures c.stored-2.ensures
    ∙ written _ _ _ c.args.self.now c.args.index c.args.element _ c.self.view_is c.self.invariant c.requires.exists c.requires.same (c.mark_of.ensures ∙ to_z-of_z w16 c.args.element.bit f)
