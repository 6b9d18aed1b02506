-- A caller within its part of a round on a board, and the calls that it made (docs/MODEL.md, "A turn on a board").
use Rattle.std.specs.Prelude.{◌≡◌, ℕ, ◌+◌, ◌^◌, ◌<◌, ◌-◌, ◌≤◌, ◌==◌, IsTrue, None, List, [], ◌∷◌, ◌++◌, length}
use Rattle.step_tables.specs.declared.tables.Action.{Action}
use Rattle.step_tables.specs.declared.tables.Script.{Script}
use Rattle.step_tables.specs.Sound.{is_sound}
use Rattle.task_machine.specs.declared.calls.Entry.{Entry}
use Rattle.task_machine.specs.Logged.{Logged}
use Rattle.task_machine.specs.Own.{Own, drawing, running}
use Rattle.run_model.specs.Tables.{home_of}
use Rattle.run_model.specs.Standing.{blank_book}
use Rattle.turn_steps.specs.Left.{drawn, Stage, asked, at_events}
use Rattle.turn_steps.specs.Told.{Told, told}
use Rattle.turn_steps.specs.Has.{caller, due, run_by, drawn_by}
use Rattle.turn_steps.specs.Times.{listed}
use Rattle.turn_steps.specs.Ranges.{InRange}
use Rattle.turn_steps.specs.Counts.{is_injectors}
use Rattle.standing.specs.Homes.{Homed}
use Rattle.wake_board.specs.Seen.{Held, Laid, IsPassOf}
use Rattle.wake_board.specs.Outs.{out_of}
use Rattle.wake_board.specs.Own.{known_takes}
use Rattle.wake_board.specs.Ends.{own_by}
use Rattle.thread_loop.specs.Workers.{number_of, tick_of, turns_of, takes_of, book_at_tick, stage_of, Fits}
use Rattle.thread_loop.specs.Workers.{calls_in}
use Rattle.thread_loop.specs.Boards.{log_of, in_hand, IsBoardOf, KeepsTakes, HasGrown}
use Rattle.thread_loop.specs.declared.worker.Worker.{Worker}

-- 1 where the caller runs the task, and 1 where it has drawn it
abbrev pub in_run : Own → ℕ
in_run running = 1
in_run o = 0

abbrev pub in_draw : Own → ℕ
in_draw drawing = 1
in_draw o = 0

-- caller k stands at a stage of its part: by its own entries its pass has just what the stage says, and what the stage
-- names is there
pub record AtStage (s : Script) (b : Laid) (k : ℕ) (g : Stage) (p : Held) : Type 0 where
  pub sound : IsTrue (is_sound s)
  pub board : IsBoardOf s b
  pub pass : IsPassOf b p
  pub number : p.who ≡ k
  pub among : k ≤ s.workers
  pub part : is_injectors g.left ≡ (k == s.workers)
  pub hands : (i : ℕ) → in_hand (own_by p i) ≡ due i g.left + listed i g.book
  pub runs : (i : ℕ) → in_run (own_by p i) ≡ run_by i g.left
  pub draws : (i : ℕ) → in_draw (own_by p i) ≡ drawn_by i g.left
  pub range : InRange (length s.tasks) g
  pub homed : Homed s k g

-- a worker within its turn: its stage goes with its pass, and there is room for all calls that are left
pub record OnBoard (s : Script) (b : Laid) (w : Worker) (p : Held) : Type 0 where
  pub fits : Fits s w
  pub stage : AtStage s b (number_of w) (stage_of s w) p
  pub takes : KeepsTakes s w p
  pub book : asked s (stage_of s w) ≡ None → book_at_tick (tick_of w) w ≡ (stage_of s w).book
  pub spare : length (log_of w).entries + calls_in s w ≤ (log_of w).room
  pub entries : length p.entries + calls_in s w < 2 ^ 40
  pub few : (i : ℕ) → i < length s.tasks → home_of s i ≡ number_of w → known_takes p.start p.entries i + calls_in s w < 2 ^ 48 - 1

-- the worker made calls: each was its next one, and stands in its log as in its pass
pub record HasCalled (s : Script) (w : Worker) (p : Held) (v : Worker) (q : Held) : Type 0 where
  pub more : List Entry
  pub logged : (log_of v).entries ≡ (log_of w).entries ++ more
  pub room : (log_of v).room ≡ (log_of w).room
  pub grown : HasGrown p more q
  pub followed : Told s (caller (number_of w)) (tick_of w) (stage_of s w) more
  pub stage : stage_of s v ≡ told s (caller (number_of w)) (tick_of w) (stage_of s w) more
  pub number : number_of v ≡ number_of w
  pub tick : tick_of v ≡ tick_of w
  pub turns : turns_of v ≡ turns_of w

-- the pass with no body out
abbrev pub at_home : Held → Held
at_home p = record p { outs = [] }

-- the worker has drawn task i and is to take it: its body alone is out with the pass, and the worker knows its takes
pub record IsDrawn (s : Script) (w : Worker) (p : Held) (i : ℕ) : Type 0 where
  pub exists : i < length s.tasks
  pub shared : home_of s i ≡ s.workers
  pub left : (n : ℕ) × ((stage_of s w).left ≡ drawn i n)
  pub drawn : own_by p i ≡ drawing
  pub outs : p.outs ≡ out_of i (takes_of w i) ∷ []
  pub few : takes_of w i < 2 ^ 48 - 1

-- the injector stands before these actions of its round
pub record AtActions (s : Script) (b : Laid) (actions : List Action) (p : Held) : Type 0 where
  pub stage : AtStage s b s.workers (at_events actions (blank_book 0)) p
  pub outs : p.outs ≡ []

-- the injector made these calls, which lead from the first actions to the others
pub record HasInjected (s : Script) (first others : List Action) (p : Held) (es : List Entry) (q : Held) : Type 0 where
  pub grown : q ≡ record p { entries = p.entries ++ es }
  pub followed : Told s (caller s.workers) 0 (at_events first (blank_book 0)) es
  pub stage : told s (caller s.workers) 0 (at_events first (blank_book 0)) es ≡ at_events others (blank_book 0)

-- the injector made an action, in one call or two, which it logged
pub record HasActed (s : Script) (a : Action) (log : Logged) (p : Held) (next : Logged) (q : Held) : Type 0 where
  pub entries : List Entry
  pub few : length entries ≤ 2
  pub logged : next.entries ≡ log.entries ++ entries
  pub room : next.room ≡ log.room
  pub injected : (more : List Action) → HasInjected s (a ∷ more) more p entries q
