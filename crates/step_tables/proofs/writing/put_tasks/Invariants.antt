-- what was written so far stands behind the old text
use Rattle.std.proofs.Common.{◌≡◌, ◌++◌, length, take}
use Rattle.std.specs.Prelude.{flat_map}
use Rattle.step_tables.specs.Text.{line_text, said_words, task_said}
use Rattle.step_tables.proofs.writing.put_tasks.Given as goal

abbrev pub invariant-loop-task : goal.invariant-loop-task
invariant-loop-task l = l.out.items ≡ l.fn.out.items ++ flat_map (λ task. line_text (said_words (task_said task (length task.rows)))) (take l.task-index l.tasks)
