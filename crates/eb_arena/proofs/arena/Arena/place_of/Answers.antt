use Rattle.std.proofs.Common.{◌∙◌, arith}
use Rattle.eb_arena.proofs.Halves.{part_fits, hangs_at}
use Rattle.eb_arena.proofs.arena.Arena.place_of.Goals as goal

pub index-requires : goal.index-requires
index-requires c =
    omega (arith, c.self.inside.halves.ok.0, part_fits _ _ _ c.args.self.now c.args.part c.half.result c.self.view_is c.self.invariant c.requires.some c.requires.exists c.half.ensures)

pub returns : goal.returns
returns c =
    c.up.ensures
    ∙ hangs_at _ _ _ c.args.self.now c.args.part c.half.result c.index.result.now c.self.view_is c.self.invariant c.requires.some c.requires.exists c.half.ensures c.index.ensures
