use Rattle.std.proofs.Common.{◌∙◌, ap, arith}
use Rattle.eb_arena.specs.Parts.{linked}
use Rattle.eb_arena.proofs.Halves.{place_fits, place_put}
use Rattle.eb_arena.proofs.arena.Arena.put_link.Goals as goal

pub index_mut-requires : goal.index_mut-requires
index_mut-requires c =
    omega (arith, c.self.inside.halves.ok.0, place_fits _ _ _ c.args.self.now c.args.up c.half.result c.self.view_is c.self.invariant c.requires.some c.requires.exists c.half.ensures)

pub returns : goal.returns
returns c =
    place_put _ _ _ c.args.self.now c.args.up c.half.result c.index_mut.result.now c.stored.result c.self.view_is c.self.invariant c.requires.some c.requires.exists c.requires.left c.half.ensures c.index_mut.ensures.value
    ∙ ap (λ t. linked c.args.self.now c.args.up t) c.stored.ensures
