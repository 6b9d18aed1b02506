use Rattle.std.proofs.Common.{sym, subst}
use Rattle.eb_arena.specs.Shape.{HasShape}
use Rattle.eb32_walk.proofs.Worked.{empty_shape}
use Rattle.eb32_walk.proofs.tests.finds_nothing_in_an_empty_root.Goals as goal

pub at_key-requires-clause-shape : goal.at_key-requires-clause-shape
at_key-requires-clause-shape g c = subst HasShape (sym c.in_ok-arena.ensures) empty_shape
