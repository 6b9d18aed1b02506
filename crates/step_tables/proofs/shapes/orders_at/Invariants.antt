-- the actions so far, and those of the words that are left
use Rattle.std.proofs.Common.{map, length}
use Rattle.step_tables.specs.Views.{words_in, order_view}
use Rattle.step_tables.proofs.Orders.{SoFar}
use Rattle.step_tables.proofs.shapes.orders_at.Given as goal

abbrev pub invariant-loop-order : goal.invariant-loop-order
invariant-loop-order l = SoFar (words_in l.fn.words) (map order_view l.orders.items) (words_in l.rest)

abbrev pub decreases-loop-order : goal.decreases-loop-order
decreases-loop-order l = length (words_in l.rest)
