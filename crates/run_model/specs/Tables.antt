-- What a run reads from the tables of its script (docs/MODEL.md, "Tables").
use Rattle.std.specs.Prelude.{ℕ, zero, suc, ◌==◌, ℤ, pos, false, List, [], map, filter, length, slice_index_or}
use Rattle.std.specs.Int.{div_ceil}
use Rattle.step_tables.specs.declared.tables.Action.{Action}
use Rattle.step_tables.specs.declared.tables.Action.TheVariants.{Wake as Wakes, Kill as Kills}
use Rattle.step_tables.specs.declared.tables.Expiry.TheVariants.{Keep}
use Rattle.step_tables.specs.declared.tables.Kind.{Kind}
use Rattle.step_tables.specs.declared.tables.Kind.TheVariants.{Pinned, Shared, Tasklet}
use Rattle.step_tables.specs.declared.tables.Row.{Row}
use Rattle.step_tables.specs.declared.tables.Script.{Script}
use Rattle.step_tables.specs.declared.tables.TaskDef.{TaskDef}
use Rattle.task_machine.specs.declared.calls.Call.{Call}
use Rattle.task_machine.specs.declared.calls.Call.TheVariants.{Wake, Kill}

-- a row that does nothing, and a task without rows: what a number that is not in the tables stands for
abbrev pub blank_row : Row
blank_row = record { actions = []; expiry = Keep; next = 0 }

abbrev pub blank_task : TaskDef
blank_task = record { name = []; kind = Pinned 0 (pos 0); init = false; rows = [] }

-- task i of the script
abbrev pub def_of : Script → ℕ → TaskDef
def_of s i = slice_index_or s.tasks i blank_task

-- row n of task i
abbrev pub row_at : Script → ℕ → ℕ → Row
row_at s i n = slice_index_or (def_of s i).rows n blank_row

-- the row of a task by its takes: row 0 for the first, and the next row of the one before for each later one
abbrev pub row_number : Script → ℕ → ℕ → ℕ
row_number s i zero = 0
row_number s i (suc t) = (row_at s i (row_number s i t)).next

abbrev pub row_by : Script → ℕ → ℕ → Row
row_by s i t = row_at s i (row_number s i t)

-- the box to which a task is posted: its worker's, or the shared box, whose number is that of workers
abbrev pub home_in : Script → Kind → ℕ
home_in s (Pinned home nice) = home
home_in s (Shared nice) = s.workers
home_in s (Tasklet home class) = home

abbrev pub home_of : Script → ℕ → ℕ
home_of s i = home_in s (def_of s i).kind

-- the nice of a task; a tasklet has none
abbrev pub nice_in : Kind → ℤ
nice_in (Pinned home nice) = nice
nice_in (Shared nice) = nice
nice_in (Tasklet home class) = pos 0

abbrev pub nice_of : Script → ℕ → ℤ
nice_of s i = nice_in (def_of s i).kind

-- how many groups of 64 tasks there are
abbrev pub groups : Script → ℕ
groups s = div_ceil (length s.tasks) 64

-- the call by which an action is made, and the task that it names
abbrev pub call_of : Action → Call
call_of (Wakes i reasons) = Wake i reasons
call_of (Kills i) = Kill i

abbrev pub target : Action → ℕ
target (Wakes i reasons) = i.0
target (Kills i) = i.0

-- the actions of the injector in round r, in the order of the script
abbrev pub actions_in : Script → ℕ → List Action
actions_in s r = map (λ e. e.action) (filter (λ e. e.round == r) s.events)
