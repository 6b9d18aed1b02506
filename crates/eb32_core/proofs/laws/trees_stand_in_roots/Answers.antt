use Rattle.std.proofs.Common.{subst}
use Rattle.eb_arena.specs.Shape.{HasShape}
use Rattle.eb32_core.proofs.Standing.{Stood, in_placed}
use Rattle.eb32_core.proofs.laws.trees_stand_in_roots.Goals as goal

pub returns : goal.returns
returns c =
    let s : Stood c.args.forest.now = record { counts = c.arena-arena.ensures.counts; shape = subst HasShape c.arena-arena.ensures.same c.arena-arena.ensures.shape } in
    in_placed c.args.forest.now c.args.entry s c.requires
