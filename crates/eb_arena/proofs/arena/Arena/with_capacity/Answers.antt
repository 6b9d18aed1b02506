use Rattle.eb_arena.proofs.Halves.{made_of}
use Rattle.eb_arena.proofs.arena.Arena.with_capacity.Goals as goal

pub returns : goal.returns
returns c = made_of _ _ c.args.entries c.args.roots (c.in_ok-halves.ensures.items_if_clones_equal (λ y h. h)) (c.in_ok-marks.ensures.items_if_clones_equal (λ y h. h))
