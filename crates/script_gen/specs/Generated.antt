-- Generated scripts: docs/SCRIPT.md, "Generated scripts".
use Rattle.std.specs.Prelude.{ℕ, zero, suc, ◌+◌, ◌%◌, true, List, [], ◌∷◌, decimal}
use Rattle.sched_base.specs.ReasonNames.{msg}
use Rattle.step_tables.specs.declared.tables.Action.TheVariants.{Wake, Kill}
use Rattle.step_tables.specs.declared.tables.Expiry.TheVariants.{Keep, After}
use Rattle.step_tables.specs.declared.tables.Kind.TheVariants.{Pinned}
use Rattle.step_tables.specs.declared.tables.Row.{Row}
use Rattle.step_tables.specs.declared.tables.TaskDef.{TaskDef}
use Rattle.step_tables.specs.Tables.{Tables}
use Rattle.script_gen.specs.declared.drawing.Drawn.{Drawn}
use Rattle.script_gen.specs.Draws.{after_four, drawn_at}

-- the letter t (116), and the number
abbrev pub name_of : ℕ → List ℕ
name_of i = 116 ∷ decimal i

-- a task sets a timer, then wakes a friend and sets another, then kills itself
abbrev pub rows_of : ℕ → Drawn → List Row
rows_of i d =
    (record { actions = []; expiry = After d.delay; next = 1 })
    ∷ (record { actions = Wake (record { 0 = d.friend }) msg ∷ []; expiry = After d.timeout; next = 2 })
    ∷ (record { actions = Kill (record { 0 = i }) ∷ []; expiry = Keep; next = 2 })
    ∷ []

-- the task of this number, by what was drawn for it
abbrev pub task_by : ℕ → Drawn → TaskDef
task_by i d = record { name = name_of i; kind = Pinned (i % 4) d.nice; init = true; rows = rows_of i d }

-- so many tasks from number i on; x is the state of the draws before them
unfoldable pub tasks_from : ℕ → ℕ → ℕ → ℕ → List TaskDef
tasks_from size i x zero = []
tasks_from size i x (suc n) = task_by i (drawn_at size i x) ∷ tasks_from size (i + 1) (after_four x) n

-- the generated script
abbrev pub generated : ℕ → ℕ → Tables
generated seed size = record {
  version = 1;
  workers = 4;
  depth = 200;
  start = 4294967000;
  step = 10;
  rounds = 1000;
  tasks = tasks_from size 0 seed size;
  events = [];
}
