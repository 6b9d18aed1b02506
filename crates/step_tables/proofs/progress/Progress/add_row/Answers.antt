use Rattle.std.proofs.lemmas.Option.{slice_get_within}
use Rattle.std.proofs.Common.{ℕ, ◌<◌, length, arith, subst, sym}
use Rattle.step_tables.specs.Judging.{value}
use Rattle.step_tables.specs.Views.{row_view}
use Rattle.step_tables.proofs.Good.{good_row}
use Rattle.step_tables.proofs.progress.Progress.add_row.Goals as goal

pub row_of-requires-clause-next : goal.row_of-requires-clause-next
row_of-requires-clause-next c =
    let good = good_row c.args.self.now (row_view c.args.line.now) c.requires in
    let P : ℕ → Type 0 = λ n. value c.args.line.now.next.now < n in
    subst P (sym c.promised.ensures) good.target.next

pub add_row-requires : goal.add_row-requires
add_row-requires c =
    let good = good_row c.args.self.now (row_view c.args.line.now) c.requires in
    slice_get_within _ _ _ good.target.is_due

pub overflow_add-self : goal.overflow_add-self
overflow_add-self c =
    let good = good_row c.args.self.now (row_view c.args.line.now) c.requires in
    let inside : c.args.self.now.at < length c.args.self.now.tasks = slice_get_within _ _ _ good.target.is_due in
    let count = c.len-count.ensures in
    omega arith
