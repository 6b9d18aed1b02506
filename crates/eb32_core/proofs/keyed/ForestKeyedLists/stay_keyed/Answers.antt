use Rattle.std.proofs.Common.{subst}
use Rattle.eb_arena.specs.Shape.{HasShape}
use Rattle.eb32_core.proofs.Standing.{Stood, forest_keyed}
use Rattle.eb32_core.proofs.keyed.ForestKeyedLists.stay_keyed.Goals as goal

pub returns : goal.returns
returns c =
    let s : Stood c.args.self.now = record { counts = c.arena-arena.ensures.counts; shape = subst HasShape c.arena-arena.ensures.same c.arena-arena.ensures.shape } in
    forest_keyed c.args.self.now s
