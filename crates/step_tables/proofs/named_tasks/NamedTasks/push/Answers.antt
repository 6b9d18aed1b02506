use Rattle.std.proofs.Common.{◌≡◌, length, None, ◌∙◌, sym, subst, arith}
use Rattle.step_tables.specs.Judging.{named}
use Rattle.step_tables.specs.Index.{IsIndex}
use Rattle.step_tables.proofs.Indexed.{indexed_push}
use Rattle.step_tables.proofs.named_tasks.NamedTasks.push.Goals as goal

pub invariant_of-self-in-Ok : goal.invariant_of-self-in-Ok
invariant_of-self-in-Ok c =
    let tasks = c.self.inside.list.items in
    let is_new = subst (λ l. named l c.args.task.name ≡ None) (sym c.self.view_is) c.requires.new in
    let is_last : c.len-number.result ≡ length tasks = omega arith in
    subst (λ l. IsIndex l c.insert.new.self) (sym c.in_ok-push.ensures.items)
    (indexed_push tasks c.args.task c.in_ok-name.name c.len-number.result c.self.inside.numbers c.insert.new.self c.self.invariant is_new (c.in_ok-name.ensures.items ∙ c.as_slice.ensures) is_last c.in-Ok.ensures.updates)
