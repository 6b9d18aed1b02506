-- what was written so far stands behind the old text
use Rattle.std.proofs.Common.{◌≡◌, ◌++◌, take}
use Rattle.std.specs.Prelude.{flat_map}
use Rattle.step_tables.specs.Text.{lines_text, rows_said, names_of}
use Rattle.step_tables.proofs.writing.put_all_rows.Given as goal

abbrev pub invariant-loop-task : goal.invariant-loop-task
invariant-loop-task l = l.out.items ≡ l.fn.out.items ++ flat_map (λ task. lines_text (rows_said (names_of l.tasks) task.name 0 task.rows)) (take l.task-index l.tasks)
