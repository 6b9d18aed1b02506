-- what was written so far stands behind the old text
use Rattle.std.proofs.Common.{◌≡◌, ◌++◌, take}
use Rattle.step_tables.specs.Text.{lines_text, rows_said, names_of}
use Rattle.step_tables.proofs.writing.put_rows.Given as goal

abbrev pub invariant-loop-number : goal.invariant-loop-number
invariant-loop-number l = l.out.items ≡ l.fn.out.items ++ lines_text (rows_said (names_of l.tasks) l.name 0 (take l.number l.row-items))
