-- A board of a script, and what a caller and its pass have of one another between turns
-- (docs/MODEL.md, "A turn on a board").
use Rattle.std.specs.Prelude.{◌≡◌, ◌≢◌, ℕ, ◌+◌, ◌*◌, ◌^◌, ◌<◌, ◌⊎◌, false, List, ◌++◌, filter, length}
use Rattle.std.specs.List.{AllByRecursion}
use mathlib.Core.Option.{some}
use lib.ListN.{get_elem?}
use Rattle.step_tables.specs.declared.tables.Script.{Script}
use Rattle.task_machine.specs.declared.calls.Entry.{Entry}
use Rattle.task_machine.specs.Logged.{Logged}
use Rattle.task_machine.specs.Own.{Own, holding, drawing, running}
use Rattle.task_machine.specs.Step.{task_at}
use Rattle.task_machine.specs.Task.{is_gone}
use Rattle.run_model.specs.Book.{Book}
use Rattle.run_model.specs.Standing.{is_draw}
use Rattle.run_model.specs.Tables.{groups, home_of, actions_in}
use Rattle.turn_steps.specs.Times.{listed}
use Rattle.wake_board.specs.Start as start
use Rattle.wake_board.specs.Seen.{Held, Laid}
use Rattle.wake_board.specs.Own.{known_takes}
use Rattle.wake_board.specs.Ends.{own_by}
use Rattle.thread_loop.specs.Workers.{number_of, tick_of, turns_of, takes_of, book_at_tick, stage_of, Fits}
use Rattle.thread_loop.specs.declared.worker.Worker.{Worker}

-- the calls of a worker's last turn on a board
unfoldable pub log_of : Worker → Logged
log_of w = w.log

-- the worker is as before in all but its log
pub record IsSame (old new : Worker) : Type 0 where
  pub number : number_of new ≡ number_of old
  pub tick : tick_of new ≡ tick_of old
  pub turns : turns_of new ≡ turns_of old
  pub takes : (i : ℕ) → takes_of new i ≡ takes_of old i
  pub book : (T : ℕ) → book_at_tick T new ≡ book_at_tick T old
  pub stage : (s : Script) → stage_of s new ≡ stage_of s old
  pub fits : (s : Script) → Fits s old → Fits s new

-- the most calls of a turn: a get for each group, a wake for each timer, and the runs, drawn or not
abbrev pub turn_room : Script → ℕ
turn_room s = groups s + length s.tasks + ((s.depth + 3) * 35 + s.depth * 36)

-- the most calls of the injector's round r: two for each of the round's actions
abbrev pub round_room : Script → ℕ → ℕ
round_room s r = 2 * length (actions_in s r)

-- the board is one of the script: it was opened with as many workers and tasks, and with the tasks' homes
pub record IsBoardOf (s : Script) (b : Laid) : Type 0 where
  pub workers : b.start.state.workers ≡ s.workers
  pub tasks : length b.start.state.tasks ≡ length s.tasks
  pub homes : (i : ℕ) → i < length s.tasks → start.home_of b.start i ≡ home_of s i

-- 1 where the task is in the caller's hands
abbrev pub in_hand : Own → ℕ
in_hand holding = 1
in_hand o = 0

-- the pass has in its hands just the tasks that a book lists, runs none and has drawn none
pub record HasListed (b : Book) (p : Held) : Type 0 where
  pub hands : (i : ℕ) → in_hand (own_by p i) ≡ listed i b
  pub runs : (i : ℕ) → own_by p i ≢ running
  pub draws : (i : ℕ) → own_by p i ≢ drawing

-- of each task of its own that was not gone as the board was opened, the worker keeps the takes that the pass knows
abbrev pub KeepsTakes : Script → Worker → Held → Type 0
KeepsTakes s w p =
    (i : ℕ) → i < length s.tasks → home_of s i ≡ number_of w → is_gone (task_at p.start.state i).place ≡ false → takes_of w i ≡ known_takes p.start p.entries i

-- the pass of caller k knows no takes of 2^47 or more
abbrev pub FewKnown : Script → ℕ → Held → Type 0
FewKnown s k p = (i : ℕ) → i < length s.tasks → home_of s i ≡ k → known_takes p.start p.entries i < 2 ^ 47

-- caller k lists and times tasks of its own
pub record IsOwn (s : Script) (k : ℕ) (b : Book) : Type 0 where
  pub lists : (i : ℕ) → 0 < listed i b → home_of s i ≡ k
  pub timers : AllByRecursion (λ y. home_of s y.task ≡ k) b.wait.items

-- how many of some entries are draws
abbrev pub draws_in : List Entry → ℕ
draws_in es = length (filter (λ e. is_draw e.call) es)

-- task i is a miss of the pass: it found it absent from the shared box
abbrev pub IsMissed : Held → ℕ → Type 0
IsMissed p i = (j : ℕ) × (get_elem? p.misses j ≡ some i)

-- the shared box was served as far as this caller is asked: it made all its draws, or it found each task absent
abbrev pub HasServed : Script → List Entry → Held → Type 0
HasServed s es p = (draws_in es ≡ s.depth) ⊎ ((i : ℕ) → i < length s.tasks → IsMissed p i)

-- the same pass of the same board, with more entries, and misses that only grew
pub record HasGrown (old : Held) (more : List Entry) (new : Held) : Type 0 where
  pub board : new.board ≡ old.board
  pub who : new.who ≡ old.who
  pub start : new.start ≡ old.start
  pub entries : new.entries ≡ old.entries ++ more
  pub misses : (i : ℕ) → IsMissed old i → IsMissed new i
  pub outs : new.outs ≡ old.outs
