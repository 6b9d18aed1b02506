-- Whose a task is: it has its home there, and a shared one is run by whoever drew it (docs/MODEL.md, "Homes").
use Rattle.std.specs.Prelude.{◌≡◌, ℕ, ◌<◌, ◌≤◌, ◌∷◌, true, ◌⊎◌}
use Rattle.std.specs.List.{AllByRecursion}
use Rattle.step_tables.specs.declared.tables.Expiry.{Expiry}
use Rattle.step_tables.specs.declared.tables.Expiry.TheVariants.{After}
use Rattle.step_tables.specs.declared.tables.Script.{Script}
use Rattle.task_machine.specs.Task.{is_boxed}
use Rattle.task_machine.specs.Step.{State, task_at}
use Rattle.run_model.specs.Tables.{home_of, row_at}
use Rattle.run_model.specs.Standing.{Standing, book_at}
use Rattle.turn_steps.specs.Left.{Left, wakes, acts, posts, returns, drawn, Stage}
use Rattle.turn_steps.specs.Times.{listed}
use Rattle.turn_steps.specs.Has.{run_by}
use Rattle.standing.specs.Keeps.{Callers}

-- task i has its home at k (where k is the number of workers, in the shared box)
abbrev pub IsOf : Script → ℕ → ℕ → Type 0
IsOf s k i = home_of s i ≡ k

-- caller k may run task i: it is its own, or shared
abbrev pub MayRun : Script → ℕ → ℕ → Type 0
MayRun s k i = IsOf s k i ⊎ IsOf s s.workers i

-- a fact that is asked where an expiry sets a timer
abbrev pub Timed : Expiry → Type 0 → Type 0
Timed (After ticks) P = P
Timed x P = Unit {0}

-- what is left of a part speaks of tasks of caller k: timers that fired, the timer of the row that runs; and of shared
-- tasks, one to go back and one that was drawn
abbrev pub LeftOf : Script → ℕ → Left → Type 0
LeftOf s k (wakes j js) = AllByRecursion (IsOf s k) (j ∷ js)
LeftOf s k (acts a more i row q) = Timed row.expiry (IsOf s k i)
LeftOf s k (posts j more i row q) = Timed row.expiry (IsOf s k i)
LeftOf s k (returns i q) = IsOf s s.workers i
LeftOf s k (drawn i n) = IsOf s s.workers i
LeftOf s k l = Unit {0}

-- a caller lists and times tasks of its own, and runs those and shared ones
pub record Homed (s : Script) (k : ℕ) (g : Stage) : Type 0 where
  pub lists : (i : ℕ) → 0 < listed i g.book → IsOf s k i
  pub runs : (i : ℕ) → 0 < run_by i g.left → MayRun s k i
  pub timers : AllByRecursion (λ y. IsOf s k y.task) g.book.wait.items
  pub left : LeftOf s k g.left

-- a box holds tasks of its worker
abbrev pub BoxesOf : Script → State → Type 0
BoxesOf s state = (b i : ℕ) → is_boxed b (task_at state i).place ≡ true → IsOf s b i

-- within a round
pub record KeepsHomes (s : Script) (c : Callers) : Type 0 where
  pub boxes : BoxesOf s c.state
  pub homed : (k : ℕ) → k ≤ s.workers → Homed s k (c.at k)

-- between rounds
pub record HomesBetween (s : Script) (st : Standing) : Type 0 where
  pub boxes : BoxesOf s st.state
  pub lists : (k i : ℕ) → k < s.workers → 0 < listed i (book_at st k) → IsOf s k i
  pub timers : (k : ℕ) → k < s.workers → AllByRecursion (λ y. IsOf s k y.task) (book_at st k).wait.items

-- only a task of a worker has timers
abbrev pub TimersHaveHomes : Script → Type 0
TimersHaveHomes s = (i n : ℕ) → Timed (row_at s i n).expiry (home_of s i < s.workers)
