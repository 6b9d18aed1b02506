-- With what a board is opened: a state of the machine, the tasks' homes, and the next rows of shared tasks
-- (docs/BOARD.md, "The state at the opening").
use Rattle.std.specs.Prelude.{◌≡◌, ℕ, zero, suc, ◌==◌, if◌then◌else◌, List, [], ◌∷◌, slice_index, Option, Some, None}
use Rattle.task_machine.specs.declared.task.Place.{Place}
use Rattle.task_machine.specs.declared.task.Place.TheVariants as places
use Rattle.task_machine.specs.declared.task.Stand.{Stand}
use Rattle.task_machine.specs.declared.task.Stand.TheVariants as stands
use Rattle.task_machine.specs.declared.task.Seen.{Seen}
use Rattle.task_machine.specs.declared.task.Seen.TheVariants as views
use Rattle.task_machine.specs.declared.task.TaskState.{TaskState}
use Rattle.task_machine.specs.Task.{gone}
use Rattle.task_machine.specs.Step.{State}
use Rattle.task_word.specs.Word.{seen_in}
use Rattle.wake_board.specs.declared.views.Opening.{Opening}
use Rattle.wake_board.specs.Rows.{WordRow, task_word}

pub record Start : Type 0 where
  pub state : State
  pub homes : List ℕ
  pub nexts : List (List ℕ)

-- the box that is the home of task i
abbrev pub home_of : Start → ℕ → ℕ
home_of o i = slice_index o.homes i

-- a task is shared where its home is the shared box
abbrev pub IsShared : Start → ℕ → Type 0
IsShared o i = home_of o i ≡ o.state.workers

-- the number that stands for no holder
abbrev pub no_holder : ℕ
no_holder = 4294967295

-- where a task is by its stand between rounds: queued, it is in its holder's hands, or in the box that is its home
abbrev pub place_by : ℕ → ℕ → Stand → Place
place_by home holder stands.Rest = places.Rest
place_by home holder stands.Queued =
    if holder == no_holder then places.Boxed home else places.Hands (record { 0 = holder })
place_by home holder stands.Runs = places.Rest

-- the state of a task by what is seen of it
abbrev pub task_by : ℕ → ℕ → Seen → TaskState
task_by home holder views.Gone = gone
task_by home holder (views.Live st n b m) = record { place = place_by home holder st; pending = n; killed = b; takes = m }

-- the states of n tasks from task i on
unfoldable pub tasks_by : WordRow → List ℕ → List ℕ → ℕ → ℕ → List TaskState
tasks_by ws homes holders i zero = []
tasks_by ws homes holders i (suc n) =
    task_by (slice_index homes i) (slice_index holders i) (seen_in (task_word ws i)) ∷ tasks_by ws homes holders (suc i) n

-- the state for which the words and the holders stand between rounds
abbrev pub state_by : WordRow → List ℕ → List ℕ → State
state_by ws homes holders = record { workers = ws.workers; tasks = tasks_by ws homes holders 0 ws.tasks }

abbrev pub start_of : Opening → Start
start_of o = record { state = state_by o.words.value o.homes.items o.holders.items; homes = o.homes.items; nexts = o.nexts.value }

-- with what a view says that its board was opened; a spent view does not say it
abbrev pub start_in : Option Opening → Start
start_in None = record { state = record { workers = 0; tasks = [] }; homes = []; nexts = [] }
start_in (Some o) = start_of o
