-- Histories that are merged again (docs/WEAVE.md, "Timing").
use Rattle.std.specs.Prelude.{◌≡◌, ℕ, ◌<◌, ◌≤◌, List, length}
use Rattle.task_machine.specs.declared.calls.Entry.{Entry}
use Rattle.task_machine.specs.Logged.{Logged}
use Rattle.task_machine.specs.Step.{State, task_at}
use Rattle.task_machine.specs.History.{calls_of}
use Rattle.history_weave.specs.Places.{log_at}
use Rattle.merge_bench.specs.declared.histories.Shape.{Shape}

-- no task was taken more than n times
abbrev pub TakenAtMost : ℕ → State → Type 0
TakenAtMost n s = (i : ℕ) → (task_at s i).takes ≤ n

-- a machine can have so many tasks and workers, and a task can be retired
pub record IsShape (shape : Shape) : Type 0 where
  pub some_tasks : 1 ≤ shape.tasks
  pub few_tasks : shape.tasks ≤ 65536
  pub some_workers : 1 ≤ shape.workers
  pub few_workers : shape.workers ≤ 64
  pub one_in : 1 ≤ shape.one_in

-- the logs are those of so many callers, each with its calls among the entries
pub record AreCut (logs : List Logged) (callers : ℕ) (es : List Entry) : Type 0 where
  pub count : length logs ≡ callers
  pub own : (k : ℕ) → k < callers → log_at logs k ≡ calls_of k es
