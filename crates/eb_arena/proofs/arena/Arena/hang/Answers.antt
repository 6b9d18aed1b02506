use Rattle.std.proofs.Common.{◌∙◌, ap, arith}
use Rattle.eb_arena.specs.Parts.{hung}
use Rattle.eb_arena.proofs.Halves.{part_fits, part_hung}
use Rattle.eb_arena.proofs.arena.Arena.hang.Goals as goal

pub index_mut-requires : goal.index_mut-requires
index_mut-requires c =
    omega (arith, c.self.inside.halves.ok.0, part_fits _ _ _ c.args.self.now c.args.part c.half.result c.self.view_is c.self.invariant c.requires.some c.requires.exists c.half.ensures)

pub returns : goal.returns
returns c =
    part_hung _ _ _ c.args.self.now c.args.part c.half.result c.index_mut.result.now c.stored.result c.self.view_is c.self.invariant c.requires.some c.requires.exists c.half.ensures c.index_mut.ensures.value
    ∙ ap (λ p. hung c.args.self.now c.args.part p) c.stored.ensures
