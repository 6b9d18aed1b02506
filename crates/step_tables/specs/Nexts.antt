-- The next rows of a script's tasks (docs/SCRIPT.md, "Tables").
use Rattle.std.specs.Prelude.{ℕ, zero, suc, List, [], map, slice_index, slice_index_or}
use Rattle.step_tables.specs.declared.tables.TaskDef.{TaskDef}
use Rattle.step_tables.specs.Tables.{Tables}

-- which row comes after each row of a task
abbrev pub next_rows : TaskDef → List ℕ
next_rows task = map (λ row. row.next) task.rows

-- the same for each task of a script
abbrev pub nexts_of : Tables → List (List ℕ)
nexts_of s = map next_rows s.tasks

-- the row of task i that comes after t takes; it begins with row 0
unfoldable pub row_after : List (List ℕ) → ℕ → ℕ → ℕ
row_after nexts i zero = 0
row_after nexts i (suc t) = slice_index (slice_index_or nexts i []) (row_after nexts i t)
