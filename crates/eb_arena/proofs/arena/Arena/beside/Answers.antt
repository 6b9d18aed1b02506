use Rattle.std.proofs.Common.{◌∙◌, arith}
use Rattle.eb_arena.specs.Links.{opposite, place_index, place_side}
use Rattle.eb_arena.proofs.Halves.{beside_number, side_fits, side_read}
use Rattle.eb_arena.proofs.arena.Arena.beside.Goals as goal

pub index-requires : goal.index-requires
index-requires c =
    omega (arith, c.self.inside.halves.ok.0, side_fits _ _ _ c.args.self.now (place_index c.args.place) (opposite (place_side c.args.place)) _ c.self.view_is c.self.invariant c.requires.exists (beside_number c.args.place c.half-number.result c.requires.some c.half-number.ensures))

pub returns : goal.returns
returns c =
    c.link.ensures
    ∙ side_read _ _ _ c.args.self.now (place_index c.args.place) (opposite (place_side c.args.place)) _ c.index.result.now c.self.view_is c.self.invariant c.requires.exists (beside_number c.args.place c.half-number.result c.requires.some c.half-number.ensures) c.index.ensures
