-- A round as it was opened, and a worker between rounds (docs/MODEL.md, "A round on threads").
use Rattle.std.specs.Prelude.{◌≡◌, ℕ, false, None}
use Rattle.step_tables.specs.declared.tables.Script.{Script}
use Rattle.task_machine.specs.Task.{is_gone}
use Rattle.task_machine.specs.Step.{State, task_at}
use Rattle.queue_model.specs.Clock.{Window, behind}
use Rattle.run_model.specs.Book.{Book}
use Rattle.run_model.specs.Standing.{Standing}
use Rattle.run_model.specs.Tables.{home_of}
use Rattle.turn_steps.specs.Left.{asked}
use Rattle.thread_loop.specs.Workers.{number_of, tick_of, turns_of, takes_of, book_at_tick, stage_of, Fits}
use Rattle.thread_loop.specs.declared.worker.Worker.{Worker}

-- a round as it was opened: its number, its tick, and what stood before it
pub record Opened : Type 0 where
  pub round : ℕ
  pub tick : ℕ
  pub old : Standing

-- the book of a worker, its timers as seen from the tick of its last turn
abbrev pub book_now : Worker → Book
book_now w = book_at_tick (tick_of w) w

-- worker k between rounds: it began r turns and has none open, its timers lie in its window, and it knows the takes of
-- its tasks
pub record IsIdle (s : Script) (r k : ℕ) (state : State) (w : Worker) : Type 0 where
  pub fits : Fits s w
  pub number : number_of w ≡ k
  pub turns : turns_of w ≡ r
  pub over : asked s (stage_of s w) ≡ None
  pub window : Window behind (tick_of w) (book_now w).wait
  pub takes : (i : ℕ) → home_of s i ≡ k → is_gone (task_at state i).place ≡ false → takes_of w i ≡ (task_at state i).takes
