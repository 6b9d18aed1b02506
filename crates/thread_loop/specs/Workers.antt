-- What a worker stands for (docs/MODEL.md, "The worker").
use Rattle.std.specs.Prelude.{◌≡◌, ℕ, ◌+◌, ◌-◌, ◌*◌, ◌^◌, ◌<◌, ◌≤◌, ◌==◌, Bool, false, List, length, Option, None, Some, slice_index_or, if◌then◌else◌, IsTrue}
use Rattle.sched_base.specs.declared.names.TaskId.{TaskId}
use Rattle.step_tables.specs.declared.tables.Script.{Script}
use Rattle.step_tables.specs.Sound.{is_sound}
use Rattle.task_machine.specs.declared.calls.Call.{Call}
use Rattle.task_machine.specs.declared.calls.Call.TheVariants.{Take}
use Rattle.task_machine.specs.declared.calls.Reply.{Reply}
use Rattle.run_model.specs.Book.{Book}
use Rattle.run_model.specs.Replies.{takes_in}
use Rattle.run_model.specs.Tables.{row_number}
use Rattle.turn_steps.specs.Left.{Stage, asked, heard}
use Rattle.turn_steps.specs.Has.{caller}
use Rattle.turn_steps.specs.Counts.{calls_left}
use Rattle.wake_board.specs.declared.body.Body.{Body}
use Rattle.thread_loop.specs.Queues.{book_of, made_of}
use Rattle.thread_loop.specs.Turns.{stage_in, unsettled, TurnFits, NamesTasks}
use Rattle.thread_loop.specs.declared.worker.Worker.{Worker}

-- its number, the tick of the turn that was begun last, and how many turns were begun
unfoldable pub number_of : Worker → ℕ
number_of w = w.number

unfoldable pub tick_of : Worker → ℕ
tick_of w = w.turn.tick

unfoldable pub turns_of : Worker → ℕ
turns_of w = w.turns

-- how often a task was taken: of its own tasks the worker counts, and of a task that it drew it is told
unfoldable pub takes_of : Worker → ℕ → ℕ
takes_of w i = slice_index_or w.takes.items i 0

-- the book that it keeps, its timers as seen from tick T
unfoldable pub book_at_tick : ℕ → Worker → Book
book_at_tick T w = book_of T w.turn.queues

-- where it stands in its turn
unfoldable pub stage_of : Script → Worker → Stage
stage_of s w = stage_in s w.turn

-- each task's next row is that of its takes
pub record RowsFit (s : Script) (ns ts : List ℕ) : Type 0 where
  pub rows : length ns ≡ length s.tasks
  pub takes : length ts ≡ length s.tasks
  pub same : (i : ℕ) → i < length s.tasks → slice_index_or ns i 0 ≡ row_number s i (slice_index_or ts i 0)

-- so many may still be put into the queues: 2^14 for each call that is left, and 2^13 where the timers are not settled
abbrev pub room_left : Script → Stage → ℕ
room_left s g = 2 ^ 14 * calls_left s.depth g.left g.book + 2 ^ 13 * unsettled g.book.wait

-- its turn and its tables are those of a worker of the script, and the queues have room for all turns
pub record WorkerFits (s : Script) (w : Worker) : Type 0 where
  pub sound : IsTrue (is_sound s)
  pub turn : TurnFits s w.turn
  pub tasks : NamesTasks s (stage_in s w.turn)
  pub rows : RowsFit s w.rows.items w.takes.items
  pub number : w.number < s.workers
  pub turns : w.turns ≤ 10000000
  pub room : made_of w.turn.queues + room_left s (stage_in s w.turn) ≤ w.turns * 2 ^ 31

-- it is a worker of the script
unfoldable pub Fits : Script → Worker → Type 0
Fits s w = WorkerFits s w

-- whether task i is the one that is taken
abbrev pub is_taken : ℕ → Option TaskId → Bool
is_taken i None = false
is_taken i (Some j) = i == j.0

-- the row and the takes of a task
abbrev pub body_of : Script → Worker → ℕ → Body
body_of s w i = record { row = row_number s i (takes_of w i); takes = takes_of w i }

-- the takes of task i after a call
abbrev pub takes_after : Call → ℕ → ℕ → ℕ
takes_after (Take j) i t = if i == j.0 then t + 1 else t
takes_after c i t = t

-- the reply of a take has the takes that the worker knows, and the task can be taken once more
abbrev pub TellsTakes : Worker → Call → Reply → Type 0
TellsTakes w (Take j) r = (takes_in r ≡ takes_of w j.0) × (takes_in r < 2 ^ 48 - 1)
TellsTakes w c r = Unit {0}

-- at most so many calls does a worker still make
abbrev pub calls_in : Script → Worker → ℕ
calls_in s w = calls_left s.depth (stage_of s w).left (stage_of s w).book

-- what a worker heard of a reply to its next call
pub record Heard (s : Script) (c : Call) (r : Reply) (old new : Worker) : Type 0 where
  pub stage : stage_of s new ≡ heard s (caller (number_of old)) (tick_of old) r (stage_of s old)
  pub fits : Fits s new
  pub number : number_of new ≡ number_of old
  pub tick : tick_of new ≡ tick_of old
  pub turns : turns_of new ≡ turns_of old
  pub takes : (i : ℕ) → takes_of new i ≡ takes_after c i (takes_of old i)
  pub book : asked s (stage_of s new) ≡ None → book_at_tick (tick_of new) new ≡ (stage_of s new).book
