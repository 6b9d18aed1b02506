use Rattle.std.proofs.Common.{Some, ap, ◌∙◌}
use Rattle.std.specs.Option.{option_map}
use Rattle.sched_base.specs.declared.plain_lists.Row.{Row}
use Rattle.sched_base.proofs.Rows.{row_of_held, held_at, root_is_found}
use Rattle.sched_base.proofs.plain_lists.PlainListsKeyedLists.root_of.Goals as goal

pub returns-clause-found : goal.returns-clause-found
returns-clause-found c = root_is_found _ _ _ c.args.self.now c.self.view_is c.args.entry c.self.invariant.0 _ (rw c.as_slice.ensures.value at c.root_in.ensures)

pub returns-clause-one : goal.returns-clause-one
returns-clause-one c = λ root stands.
    let w = row_of_held c.args.entry root _ c.self.invariant.0.apart (held_at _ _ _ c.args.self.now c.self.view_is root c.args.entry stands) in
    rw c.as_slice.ensures.value at c.root_in.ensures ∙ ap (option_map (λ (y : Row). y.root)) w.1 ∙ ap Some w.2
