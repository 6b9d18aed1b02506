use Rattle.std.proofs.Common.{List, [], ◌∷◌, map, ap, sym, ◌∙◌, arith, subst}
use Rattle.std.proofs.lemmas.List.{map-append}
use Rattle.step_tables.specs.Shapes.{Order}
use Rattle.step_tables.specs.Views.{words_in, order_view}
use Rattle.step_tables.proofs.Orders.{SoFar, shorter, more_orders, all_orders}
use Rattle.step_tables.proofs.shapes.orders_at.Goals as goal

pub loop-order-smaller : goal.loop-order-smaller
loop-order-smaller c =
    let less = shorter (words_in c.loop-order.rest) (order_view c.in-Some.order, words_in c.in-Some.more) (sym c.in-Some.ensures) in
    omega arith

pub loop-order-preserved : goal.loop-order-preserved
loop-order-preserved c =
    let P : List Order → Type 0 = λ found. SoFar (words_in c.args.words) found (words_in c.in-Some.more) in
    let pushed = ap (map order_view) c.in_ok-extend_from_slice.ensures.items ∙ map-append order_view c.loop-order.orders.items (c.in-Some.order ∷ []) in
    subst P (sym pushed) (more_orders (words_in c.args.words) (map order_view c.loop-order.orders.items) (words_in c.loop-order.rest) (order_view c.in-Some.order, words_in c.in-Some.more) (sym c.in-Some.ensures) c.loop-order.invariant)

pub returns : goal.returns
returns c = all_orders (words_in c.args.words) (map order_view c.loop-order.orders.items) (words_in c.loop-order.rest) (sym c.in_default.ensures) c.loop-order.invariant
