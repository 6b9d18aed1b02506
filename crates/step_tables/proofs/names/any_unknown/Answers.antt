use Rattle.std.proofs.Common.{◌∙◌, sym}
use Rattle.step_tables.specs.Judging.{unknown, order_name}
use Rattle.step_tables.specs.Views.{order_view}
use Rattle.step_tables.proofs.ListViews.{list_any-map}
use Rattle.step_tables.proofs.names.any_unknown.Goals as goal

pub returns : goal.returns
returns c = c.holds_unknown.ensures ∙ sym (list_any-map (λ order. unknown c.args.tasks.now (order_name order)) order_view c.args.orders.now)
