-- What stands together within a round: the machine's places, and what is left of each caller's part
-- (docs/MODEL.md, "Machine and books agree").
use Rattle.std.specs.Prelude.{◌≡◌, ℕ, zero, suc, ◌+◌, ◌≤◌, ◌==◌, length, true, if◌then◌else◌}
use Rattle.step_tables.specs.declared.tables.Script.{Script}
use Rattle.task_machine.specs.Task.{is_boxed}
use Rattle.task_machine.specs.Step.{State, task_at}
use Rattle.run_model.specs.Tables.{home_of}
use Rattle.turn_steps.specs.Left.{Stage}
use Rattle.turn_steps.specs.Times.{listed}
use Rattle.turn_steps.specs.Has.{caller, due, run_by, drawn_by}
use Rattle.turn_steps.specs.Counts.{is_injectors, takes_left}
use Rattle.turn_steps.specs.Ranges.{InRange}
use Rattle.standing.specs.Places.{held, ran, drawn_to}

-- caller k has in hand just the tasks that it lists or is about to post or retire, each once, runs just the one
-- that it runs, and has drawn just the one that it is about to take
pub record Owns (k : ℕ) (state : State) (g : Stage) : Type 0 where
  pub hands : (i : ℕ) → held (caller k) state i ≡ due i g.left + listed i g.book
  pub runs : (i : ℕ) → ran (caller k) state i ≡ run_by i g.left
  pub draws : (i : ℕ) → drawn_to (caller k) state i ≡ drawn_by i g.left

-- the shared box holds shared tasks
abbrev pub SharedOnly : Script → State → Type 0
SharedOnly s state = (i : ℕ) → is_boxed s.workers (task_at state i).place ≡ true → home_of s i ≡ s.workers

-- callers within a round: the machine, and each caller's stage, the injector last
pub record Callers : Type 0 where
  pub state : State
  pub at : ℕ → Stage

-- the stage of caller j changed
abbrev pub set_at : ℕ → Stage → (ℕ → Stage) → ℕ → Stage
set_at j g at k = if k == j then g else at k

-- f added up for the callers below n
abbrev pub sum_below : ℕ → (ℕ → ℕ) → ℕ
sum_below zero f = 0
sum_below (suc n) f = f n + sum_below n f

-- all takes that are still to come
abbrev pub all_takes : Script → (ℕ → Stage) → ℕ
all_takes s at = sum_below (s.workers + 1) (λ k. takes_left s.depth (at k).left)

-- all of it together; no task can be taken more than limit times before the round ends
pub record Keeps (s : Script) (limit : ℕ) (c : Callers) : Type 0 where
  pub workers : c.state.workers ≡ s.workers
  pub tasks : length c.state.tasks ≡ length s.tasks
  pub owns : (k : ℕ) → k ≤ s.workers → Owns k c.state (c.at k)
  pub range : (k : ℕ) → k ≤ s.workers → InRange (length s.tasks) (c.at k)
  pub part : (k : ℕ) → k ≤ s.workers → is_injectors (c.at k).left ≡ (k == s.workers)
  pub shared : SharedOnly s c.state
  pub takes : (i : ℕ) → (task_at c.state i).takes + all_takes s c.at ≤ limit
