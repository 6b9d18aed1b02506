use Rattle.std.proofs.Common.{ap, length, ◌<◌, ◌∙◌}
use Rattle.step_tables.specs.declared.tables.Row.{Row}
use Rattle.thread_loop.specs.Turns.{book_now, row_of, onward_of}
use Rattle.thread_loop.proofs.Turns.{acts-more}
use Rattle.thread_loop.proofs.turn.Turn.to_acts.Goals as goal

pub returns-then-next-as_slice-clause-stage : goal.returns-then-next-as_slice-clause-stage
returns-then-next-as_slice-clause-stage c =
    let same = c.as_slice.ensures ∙ ap (λ (row : Row). row.actions) c.row_of-row.ensures in
    let below : c.args.next < length (row_of c.args.script.now c.args.run.now).actions = rw (← same) c.if-next-as_slice.true in
    acts-more c.args.self.now.tick c.args.next (row_of c.args.script.now c.args.run.now).actions c.args.run.now.task.0 (row_of c.args.script.now c.args.run.now) (onward_of c.args.run.now.onward) (book_now c.args.self.now) below
