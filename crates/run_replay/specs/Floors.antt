-- The machine with the row of each task's next run, and a worker within its turn (docs/MODEL.md, "Replay").
use Rattle.std.specs.Prelude.{◌≡◌, ℕ, ◌+◌, ◌-◌, ◌*◌, ◌^◌, ◌<◌, ◌⊎◌, IsTrue, false, None, List, length, slice_index_or, if◌then◌else◌}
use Rattle.step_tables.specs.declared.tables.Script.{Script}
use Rattle.step_tables.specs.Sound.{is_sound}
use Rattle.task_machine.specs.declared.calls.Call.{Call}
use Rattle.task_machine.specs.declared.calls.Entry.{Entry}
use Rattle.task_machine.specs.Since.{is_take}
use Rattle.task_machine.specs.Task.{is_gone}
use Rattle.task_machine.specs.Step.{State, task_at}
use Rattle.task_machine.specs.History.{stepped}
use Rattle.run_model.specs.Tables.{home_of, row_at, row_number}
use Rattle.turn_steps.specs.Left.{Stage, asked}
use Rattle.turn_steps.specs.Has.{drawn_by}
use Rattle.standing.specs.Keeps.{Callers}
use Rattle.standing.specs.Going.{Going}
use Rattle.standing.specs.Between.{entered, round_takes}
use Rattle.standing.specs.Firm.{Firm}
use Rattle.fronts.specs.Lines.{callers_at}
use Rattle.thread_loop.specs.Idle.{Opened}
use Rattle.thread_loop.specs.Workers.{number_of, tick_of, turns_of, takes_of, book_at_tick, stage_of, Fits}
use Rattle.thread_loop.specs.declared.worker.Worker.{Worker}
use Rattle.run_replay.specs.declared.floor.Floor.{Floor}

-- where the callers stand after these entries
abbrev pub after_all : Script → Opened → List Entry → Callers
after_all s g es = callers_at s g.round g.tick g.old es

-- the row of task i after a call
abbrev pub row_after : Script → Call → ℕ → ℕ → ℕ
row_after s c i n = if is_take i c then (row_at s i n).next else n

-- a row is known for each task, and where the task is not gone it is that of its takes
pub record KnowsRows (s : Script) (state : State) (rows : List ℕ) : Type 0 where
  pub count : length rows ≡ length s.tasks
  pub known : (i : ℕ) → is_gone (task_at state i).place ≡ false → slice_index_or rows i 0 ≡ row_number s i (task_at state i).takes

-- an entry was made
pub record Made (s : Script) (e : Entry) (old new : Floor) : Type 0 where
  pub state : new.machine ≡ stepped old.machine e
  pub count : length new.rows.items ≡ length old.rows.items
  pub rows : (i : ℕ) → slice_index_or new.rows.items i 0 ≡ row_after s e.call i (slice_index_or old.rows.items i 0)

-- entries of a round so far, each a next call of its caller, and the machine after them
pub record Making (s : Script) (g : Opened) (es : List Entry) (floor : Floor) : Type 0 where
  pub sound : IsTrue (is_sound s)
  pub round : g.round < s.rounds
  pub few : g.round * round_takes s + round_takes s < 2 ^ 48 - 1
  pub firm : Firm s g.tick (g.round * round_takes s) g.old
  pub going : Going s g.tick (entered s g.round g.tick g.old) es
  pub state : floor.machine ≡ (after_all s g es).state
  pub rows : KnowsRows s floor.machine floor.rows.items

-- a worker knows the takes of its own tasks, and of a task that it drew and takes next
abbrev pub KnowsTakes : Script → ℕ → Stage → State → (ℕ → ℕ) → Type 0
KnowsTakes s k x state takes =
    (i : ℕ) → (home_of s i ≡ k) ⊎ (0 < drawn_by i x.left) → is_gone (task_at state i).place ≡ false → takes i ≡ (task_at state i).takes

-- a worker within its turn, after these entries
pub record Turning (s : Script) (g : Opened) (es : List Entry) (state : State) (w : Worker) : Type 0 where
  pub fits : Fits s w
  pub among : number_of w < s.workers
  pub tick : tick_of w ≡ g.tick
  pub turns : turns_of w ≡ g.round + 1
  pub stage : stage_of s w ≡ (after_all s g es).at (number_of w)
  pub book : asked s (stage_of s w) ≡ None → book_at_tick (tick_of w) w ≡ (stage_of s w).book
  pub takes : KnowsTakes s (number_of w) (stage_of s w) state (takes_of w)

-- both
pub record Works (s : Script) (g : Opened) (es : List Entry) (floor : Floor) (w : Worker) : Type 0 where
  pub making : Making s g es floor
  pub turning : Turning s g es floor.machine w
