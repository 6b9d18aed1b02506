-- Which groups of which boxes may have a task in them (docs/MODEL.md, "Machine step").
use Rattle.std.specs.Prelude.{◌≡◌, ℕ, ◌+◌, ◌*◌, ◌/◌, ◌<◌, ◌≤◌, Bool, true, false, List, length, slice_index_or}
use Rattle.task_machine.specs.declared.task.TaskState.{TaskState}
use Rattle.task_machine.specs.declared.calls.Call.{Call}
use Rattle.task_machine.specs.declared.calls.Call.TheVariants as calls
use Rattle.task_machine.specs.Task.{resting, is_boxed}

-- how many groups of 64 tasks there are
abbrev pub groups : ℕ → ℕ
groups n = (n + 63) / 64

-- where the mark of group g of box b stands, among n tasks
abbrev pub mark_at : ℕ → ℕ → ℕ → ℕ
mark_at n b g = b * groups n + g

-- there is a mark for each group of each box, and it is set where a task of the group is in the box
pub record AreMarked (workers : ℕ) (tasks : List TaskState) (marks : List Bool) : Type 0 where
  pub wide : length marks ≡ (workers + 1) * groups (length tasks)
  pub set : (b i : ℕ) → b ≤ workers → i < length tasks → is_boxed b (slice_index_or tasks i resting).place ≡ true → slice_index_or marks (mark_at (length tasks) b (i / 64)) false ≡ true

-- a call that names one task, and puts it into no box
abbrev pub FillsNoBox : Call → Type 0
FillsNoBox (calls.Post i b) = ⊥
FillsNoBox (calls.Get g) = ⊥
FillsNoBox c = Unit {0}
