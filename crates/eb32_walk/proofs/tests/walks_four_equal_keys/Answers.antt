use Rattle.std.proofs.Common.{sym, subst}
use Rattle.eb_arena.specs.Shape.{HasShape}
use Rattle.eb32_walk.proofs.Worked.{four_equal_shape}
use Rattle.eb32_walk.proofs.tests.walks_four_equal_keys.Goals as goal

pub around-requires-clause-shape : goal.around-requires-clause-shape
around-requires-clause-shape g c = subst HasShape (sym c.in_ok-arena.ensures) four_equal_shape

pub at_key-requires-clause-shape : goal.at_key-requires-clause-shape
at_key-requires-clause-shape g c = subst HasShape (sym c.in_ok-arena.ensures) four_equal_shape

pub at_key-requires-2-clause-shape : goal.at_key-requires-2-clause-shape
at_key-requires-2-clause-shape g c = subst HasShape (sym c.in_ok-arena.ensures) four_equal_shape

pub at_key-requires-3-clause-shape : goal.at_key-requires-3-clause-shape
at_key-requires-3-clause-shape g c = subst HasShape (sym c.in_ok-arena.ensures) four_equal_shape
