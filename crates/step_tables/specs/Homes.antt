-- Scripts whose workers do not meet: docs/SCRIPT.md, "Closed by homes".
use Rattle.std.specs.Prelude.{◌≡◌, ℕ, List, [], Option, Some, None, slice_get}
use Rattle.step_tables.specs.Types.{Action, Wake, Kill, Kind, Pinned, Shared, Tasklet, Row, TaskDef}
use Rattle.step_tables.specs.Tables.{Tables}

-- the worker that runs tasks of this kind, where there is one
abbrev pub own_home : Kind → Option ℕ
own_home (Pinned home nice) = Some home
own_home (Shared nice) = None
own_home (Tasklet home class) = Some home

-- the number of the task that an action names
abbrev pub task_named : Action → ℕ
task_named (Wake i reasons) = i.0
task_named (Kill i) = i.0

-- the action names a task of this worker
abbrev pub NamesHome : List TaskDef → ℕ → Action → Type 0
NamesHome tasks home action = (task : TaskDef) × (slice_get tasks (task_named action) ≡ Some task) × (own_home task.kind ≡ Some home)

-- the task is one worker's, and its rows name tasks of that worker only
abbrev pub StaysHome : List TaskDef → TaskDef → Type 0
StaysHome tasks task = (home : ℕ) × (own_home task.kind ≡ Some home)
    × ((j : ℕ) (row : Row) → slice_get task.rows j ≡ Some row → (k : ℕ) (action : Action) → slice_get row.actions k ≡ Some action → NamesHome tasks home action)

-- no task is shared, there is no event, and each row names tasks of its own home only
pub record IsClosedByHomes (s : Tables) : Type 0 where
  pub tasks : (i : ℕ) (task : TaskDef) → slice_get s.tasks i ≡ Some task → StaysHome s.tasks task
  pub events : s.events ≡ []
