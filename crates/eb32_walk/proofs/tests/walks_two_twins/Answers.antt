use Rattle.std.proofs.Common.{sym, subst}
use Rattle.eb_arena.specs.Shape.{HasShape}
use Rattle.eb32_walk.proofs.Worked.{two_twins_shape}
use Rattle.eb32_walk.proofs.tests.walks_two_twins.Goals as goal

pub around-requires-clause-shape : goal.around-requires-clause-shape
around-requires-clause-shape g c = subst HasShape (sym c.in_ok-arena.ensures) two_twins_shape

pub at_key-requires-clause-shape : goal.at_key-requires-clause-shape
at_key-requires-clause-shape g c = subst HasShape (sym c.in_ok-arena.ensures) two_twins_shape
