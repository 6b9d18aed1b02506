-- What a caller names is there (docs/MODEL.md, "What is left of a turn").
use Rattle.std.specs.Prelude.{ℕ, ◌+◌, ◌*◌, ◌<◌, ◌≤◌, IsTrue, List, ◌∷◌, length}
use Rattle.std.specs.List.{AllByRecursion}
use Rattle.step_tables.specs.declared.tables.Action.{Action}
use Rattle.step_tables.specs.declared.tables.Script.{Script}
use Rattle.step_tables.specs.Sound.{is_sound_action}
use Rattle.run_model.specs.Tables.{home_of, row_at, actions_in}
use Rattle.run_model.specs.Book.{Book}
use Rattle.turn_steps.specs.Left.{Left, gets, wakes, acts, posts, injects, carries, Stage}

-- actions that name one of n tasks, and reasons where they wake
abbrev pub AreSound : ℕ → List Action → Type 0
AreSound n = AllByRecursion (λ a. IsTrue (is_sound_action n a))

-- what is to be named is there: groups, tasks, actions
abbrev pub NamesIn : ℕ → Left → Type 0
NamesIn n (gets g gs) = AllByRecursion (λ g. 64 * g < n) (g ∷ gs)
NamesIn n (wakes j js) = AllByRecursion (λ i. i < n) (j ∷ js)
NamesIn n (acts a more j row q) = AreSound n (a ∷ more)
NamesIn n (posts k more j row q) = AreSound n more
NamesIn n (injects a more) = AreSound n (a ∷ more)
NamesIn n (carries j more) = AreSound n more
NamesIn n l = Unit {0}

-- the timers of a book are tasks
abbrev pub TimersIn : ℕ → Book → Type 0
TimersIn n b = AllByRecursion (λ y. y.task < n) b.wait.items

-- what is named is there, and the timers are tasks
pub record InRange (n : ℕ) (g : Stage) : Type 0 where
  pub names : NamesIn n g.left
  pub timers : TimersIn n g.book

-- what a script's soundness gives
pub record IsFit (s : Script) : Type 0 where
  pub some : 0 < s.workers
  pub homes : (i : ℕ) → home_of s i < s.workers + 1
  pub rows : (i n : ℕ) → AreSound (length s.tasks) (row_at s i n).actions
  pub short : (i n : ℕ) → length (row_at s i n).actions ≤ 16
  pub events : (r : ℕ) → AreSound (length s.tasks) (actions_in s r)
