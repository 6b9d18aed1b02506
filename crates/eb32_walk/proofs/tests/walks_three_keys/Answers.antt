use Rattle.std.proofs.Common.{sym, subst}
use Rattle.eb_arena.specs.Shape.{HasShape}
use Rattle.eb32_walk.proofs.Worked.{three_keys_shape}
use Rattle.eb32_walk.proofs.tests.walks_three_keys.Goals as goal

pub around-requires-clause-shape : goal.around-requires-clause-shape
around-requires-clause-shape g c = subst HasShape (sym c.in_ok-arena.ensures) three_keys_shape

pub at_key-requires-clause-shape : goal.at_key-requires-clause-shape
at_key-requires-clause-shape g c = subst HasShape (sym c.in_ok-arena.ensures) three_keys_shape

pub at_key-requires-2-clause-shape : goal.at_key-requires-2-clause-shape
at_key-requires-2-clause-shape g c = subst HasShape (sym c.in_ok-arena.ensures) three_keys_shape

pub at_key-requires-3-clause-shape : goal.at_key-requires-3-clause-shape
at_key-requires-3-clause-shape g c = subst HasShape (sym c.in_ok-arena.ensures) three_keys_shape

pub at_key-requires-4-clause-shape : goal.at_key-requires-4-clause-shape
at_key-requires-4-clause-shape g c = subst HasShape (sym c.in_ok-arena.ensures) three_keys_shape
