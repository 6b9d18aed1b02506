use Rattle.std.proofs.Common.{◌∙◌, sym}
use Rattle.step_tables.specs.Judging.{action_of}
use Rattle.step_tables.specs.Views.{order_view}
use Rattle.std.proofs.lemmas.Simd.{map-map}
use Rattle.step_tables.proofs.names.actions_of.Goals as goal

pub returns : goal.returns
returns c = c.from_vec.ensures ∙ (c.in_ok-list.ensures ∙ sym (map-map (action_of c.args.tasks.now) order_view c.args.orders.now))
