use Rattle.std.proofs.Common.{◌≡◌, ◌∙◌, arith}
use Rattle.eb_arena.specs.declared.links.Target.TheVariants as targets
use Rattle.eb_arena.specs.Links.{place_index}
use Rattle.eb_arena.proofs.Halves.{above_number, part_fits, hangs_at}
use Rattle.eb_arena.proofs.arena.Arena.above.Goals as goal

pub index-requires : goal.index-requires
index-requires c =
    omega (arith, c.self.inside.halves.ok.0, part_fits _ _ _ c.args.self.now (targets.Node (place_index c.args.place)) _ c.self.view_is c.self.invariant (λ (e : targets.Node (place_index c.args.place) ≡ targets.Nothing). cc) c.requires.exists (above_number c.args.place c.half.result c.requires.some c.half.ensures))

pub returns : goal.returns
returns c =
    c.up.ensures
    ∙ hangs_at _ _ _ c.args.self.now (targets.Node (place_index c.args.place)) _ c.index.result.now c.self.view_is c.self.invariant (λ (e : targets.Node (place_index c.args.place) ≡ targets.Nothing). cc) c.requires.exists (above_number c.args.place c.half.result c.requires.some c.half.ensures) c.index.ensures
