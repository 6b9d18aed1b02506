-- What the parts of a round on threads ask and do (docs/MODEL.md, "A round on threads").
use Rattle.std.specs.Prelude.{◌≡◌, ◌≢◌, ℕ, suc, ◌<◌, ◌≤◌, List, [], ◌∷◌, ◌++◌, map, Option, Some, length, slice_index_or, ⊤}
use Rattle.step_tables.specs.declared.tables.Script.{Script}
use Rattle.task_machine.specs.Logged.{Logged}
use Rattle.task_machine.specs.Own.{away, drawing}
use Rattle.run_model.specs.Lawful.{Injects}
use Rattle.wake_board.specs.Seen.{Held, Laid, IsPassOf}
use Rattle.wake_board.specs.Ends.{own_by}
use Rattle.thread_loop.specs.Boards.{log_of, IsSame, round_room}
use Rattle.thread_loop.specs.Plants.{AllCanTurn, AllTurned}
use Rattle.thread_loop.specs.declared.worker.Worker.{Worker}

-- the injector may make its part of round r on a board, through a pass
pub record CanInject (s : Script) (r : ℕ) (b : Laid) (log : Logged) (p : Held) : Type 0 where
  pub reserved : round_room s r ≤ log.room
  pub pass : IsPassOf b p
  pub number : p.who ≡ s.workers
  pub outs : p.outs ≡ []
  pub free : (i : ℕ) → own_by p i ≡ away

-- the injector made it
pub record HasInjected (s : Script) (r : ℕ) (p : Held) (log : Logged) (q : Held) : Type 0 where
  pub injects : Injects s r log.entries
  pub grown : q ≡ record p { entries = p.entries ++ log.entries }
  pub free : (i : ℕ) → own_by q i ≡ away

-- the passes are those of the callers from k on
abbrev pub AreNumbered : ℕ → List Held → Type 0
AreNumbered k [] = ⊤
AreNumbered k (p ∷ ps) = (p.who ≡ k) × AreNumbered (suc k) ps

-- each has no body out and no task drawn
abbrev pub AllIdle : List Held → Type 0
AllIdle [] = ⊤
AllIdle (p ∷ ps) = (p.outs ≡ []) × ((i : ℕ) → i < length p.start.state.tasks → own_by p i ≢ drawing) × AllIdle ps

-- each caller's log, the injector's last, stands in the list of logs, and all else of the callers is as before
pub record AreSwapped (ws : List Worker) (injector : Logged) (before : List Logged) (vs : List Worker) (other : Logged) (new : List Logged) : Type 0 where
  pub count : length vs ≡ length ws
  pub same : (k : ℕ) (d : Worker) → k < length ws → IsSame (slice_index_or ws k d) (slice_index_or vs k d)
  pub logs : (k : ℕ) (d : Worker) (l : Logged) → k < length ws → slice_index_or new k l ≡ log_of (slice_index_or ws k d)
  pub last : (l : Logged) → slice_index_or new (length ws) l ≡ injector
  pub size : length new ≡ length before

-- a round may be made: the places have passes of the workers, through which they may make their turns, and the injector's
pub record CanMake (s : Script) (T r : ℕ) (b : Laid) (ws : List Worker) (log : Logged) (places : List (Option Held)) (ps : List Held) (p : Held) : Type 0 where
  pub places_are : places ≡ map Some (ps ++ p ∷ [])
  pub numbers : AreNumbered 0 (ps ++ p ∷ [])
  pub count : length ps ≡ s.workers
  pub turns : AllCanTurn s T b ws ps
  pub injects : CanInject s r b log p

-- it was made: all passes are back in their places
pub record HasMade (s : Script) (T r : ℕ) (ws : List Worker) (ps : List Held) (p : Held) (vs : List Worker) (log : Logged) (places : List (Option Held)) : Type 0 where
  pub after : List Held
  pub last : Held
  pub places_are : places ≡ map Some (after ++ last ∷ [])
  pub turned : AllTurned s T ws ps vs after
  pub injected : HasInjected s r p log last
