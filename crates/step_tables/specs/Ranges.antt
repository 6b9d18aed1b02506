-- What the ranges of a script's tables say of each task, row, action and event: docs/SCRIPT.md, "Tables".
use Rattle.std.specs.Prelude.{◌≡◌, ℕ, ◌<◌, ◌≤◌, true, length, Some, slice_get}
use Rattle.step_tables.specs.Types.{Action, Wake, Kill, Expiry, Keep, After, Never, Kind, Pinned, Shared, Tasklet, Row, TaskDef, Event}
use Rattle.step_tables.specs.declared.tables.Script.{Script}
use Rattle.step_tables.specs.Limits.{newest, limits_of, most_rows, most_actions, most_delay}
use Rattle.step_tables.specs.Sound.{is_nice}

-- the action names one of so many tasks, and a wake has some of the seven reasons
abbrev pub ActionRange : ℕ → Action → Type 0
ActionRange tasks (Wake i reasons) = (i.0 < tasks) × (0 < reasons) × (reasons < 128)
ActionRange tasks (Kill i) = i.0 < tasks

-- such a task may have the expiry, and its ticks are in range
abbrev pub ExpiryRange : Kind → Expiry → Type 0
ExpiryRange kind Keep = Unit {0}
ExpiryRange (Pinned home nice) (After ticks) = (1 ≤ ticks) × (ticks ≤ most_delay)
ExpiryRange (Pinned home nice) Never = Unit {0}
ExpiryRange (Shared nice) (After ticks) = ⊥
ExpiryRange (Shared nice) Never = ⊥
ExpiryRange (Tasklet home class) (After ticks) = ⊥
ExpiryRange (Tasklet home class) Never = ⊥

-- the home is a worker's number, and the nice is in range
abbrev pub KindRange : ℕ → Kind → Type 0
KindRange workers (Pinned home nice) = (home < workers) × (is_nice nice ≡ true)
KindRange workers (Shared nice) = is_nice nice ≡ true
KindRange workers (Tasklet home class) = home < workers

-- a row of a task of this kind with so many rows, among so many tasks
pub record RowRange (tasks : ℕ) (kind : Kind) (rows : ℕ) (row : Row) : Type 0 where
  pub few : length row.actions ≤ most_actions
  pub actions : (k : ℕ) (action : Action) → slice_get row.actions k ≡ Some action → ActionRange tasks action
  pub expiry : ExpiryRange kind row.expiry
  pub next : row.next < rows

-- a task of a script with so many workers, among so many tasks
pub record TaskRange (workers tasks : ℕ) (task : TaskDef) : Type 0 where
  pub kind : KindRange workers task.kind
  pub some : 1 ≤ length task.rows
  pub few : length task.rows ≤ most_rows
  pub rows : (j : ℕ) (row : Row) → slice_get task.rows j ≡ Some row → RowRange tasks task.kind (length task.rows) row

-- an event of a script with so many rounds, among so many tasks
pub record EventRange (tasks rounds : ℕ) (event : Event) : Type 0 where
  pub round : event.round < rounds
  pub action : ActionRange tasks event.action

-- the tables of a script
pub record ScriptRange (s : Script) : Type 0 where
  pub some_version : 1 ≤ s.version
  pub few_version : s.version ≤ newest
  pub some_workers : 1 ≤ s.workers
  pub few_workers : s.workers ≤ (limits_of s.version).workers
  pub some_depth : 1 ≤ s.depth
  pub few_depth : s.depth ≤ (limits_of s.version).depth
  pub start : s.start ≤ (limits_of s.version).start
  pub some_step : 1 ≤ s.step
  pub few_step : s.step ≤ (limits_of s.version).step
  pub some_rounds : 1 ≤ s.rounds
  pub few_rounds : s.rounds ≤ (limits_of s.version).rounds
  pub few_tasks : length s.tasks ≤ (limits_of s.version).tasks
  pub tasks : (i : ℕ) (task : TaskDef) → slice_get s.tasks i ≡ Some task → TaskRange s.workers (length s.tasks) task
  pub few_events : length s.events ≤ (limits_of s.version).events
  pub events : (k : ℕ) (event : Event) → slice_get s.events k ≡ Some event → EventRange (length s.tasks) s.rounds event
