-- Where a watcher stands among the lines of a transcript (docs/MODEL.md, "Replay").
use Rattle.std.specs.Prelude.{◌≡◌, ◌≢◌, ◌⊎◌, ℕ, ◌+◌, ◌*◌, ◌<◌, ◌≤◌, Bool, true, false, None, Some, List, [], map, length, slice_index_or, IsTrue, MatchBool}
use Rattle.step_tables.specs.declared.tables.Script.{Script}
use Rattle.step_tables.specs.Sound.{is_sound}
use Rattle.task_machine.specs.declared.calls.Call.{Call}
use Rattle.task_machine.specs.declared.calls.Entry.{Entry}
use Rattle.run_model.specs.Standing.{Standing, opening, is_draw, is_at_rest, next_tick}
use Rattle.run_model.specs.Tables.{actions_in}
use Rattle.turn_steps.specs.Left.{Stage, asked, begun, draws_now}
use Rattle.standing.specs.Keeps.{Callers}
use Rattle.standing.specs.Between.{round_takes}
use Rattle.standing.specs.Firm.{Firm}
use Rattle.transcript.specs.declared.lines.Line.{Line}
use Rattle.transcript.specs.declared.lines.Line.TheVariants as line
use Rattle.fronts.specs.Lines.{Track, begins, within, ended, stands_at, IsWhole, May}
use Rattle.queue_model.specs.Clock.{Window, behind}
use Rattle.thread_loop.specs.Workers.{number_of, tick_of, turns_of, takes_of, stage_of, Fits}
use Rattle.thread_loop.specs.Idle.{Opened, book_now, IsIdle}
use Rattle.thread_loop.specs.declared.worker.Worker.{Worker}
use Rattle.run_replay.specs.Floors.{after_all, KnowsRows, Making, Turning}
use Rattle.run_replay.specs.SharedBoxes.{Counts, CountsBetween}
use Rattle.run_replay.specs.Injections.{AtEvents, actions_left, stage_in}
use Rattle.run_replay.specs.declared.watcher.Position.TheVariants.{Start, Round, End}
use Rattle.run_replay.specs.declared.watcher.Watcher.{Watcher}

-- what stands between rounds: the machine's state and the books of the workers
abbrev pub standing_of : Watcher → Standing
standing_of w = record { state = w.floor.machine; books = map book_now w.workers.items }

-- before round r at tick T: no turn is open, and all stands as it must before a round
pub record IsReady (s : Script) (r T : ℕ) (w : Watcher) : Type 0 where
  pub sound : IsTrue (is_sound s)
  pub round : r < s.rounds
  pub firm : Firm s T (r * round_takes s) (standing_of w)
  pub count : length w.workers.items ≡ s.workers
  pub idle : (k : ℕ) (d : Worker) → k < s.workers → IsIdle s r k w.floor.machine (slice_index_or w.workers.items k d)
  pub rows : KnowsRows s w.floor.machine w.floor.rows.items
  pub injection : AtEvents s r w.injection
  pub now : actions_in s r ≡ actions_left s r w.injection
  pub held : w.injection.held ≡ None
  pub shared : CountsBetween s r w.floor.machine w.shared

-- after these entries of a round: each caller stands where they lead
pub record IsWithin (s : Script) (g : Opened) (es : List Entry) (w : Watcher) : Type 0 where
  pub making : Making s g es w.floor
  pub count : length w.workers.items ≡ s.workers
  pub turning : (k : ℕ) (d : Worker) → k < s.workers → Turning s g es w.floor.machine (slice_index_or w.workers.items k d)
  pub numbers : (k : ℕ) (d : Worker) → k < s.workers → number_of (slice_index_or w.workers.items k d) ≡ k
  pub injection : AtEvents s g.round w.injection
  pub injects : stage_in s g.round w.injection ≡ (after_all s g es).at s.workers
  pub shared : Counts s g.round g.old.state w.floor.machine es w.shared

abbrev pub opened : ℕ → ℕ → Standing → Opened
opened r T old = record { round = r; tick = T; old = old }

-- where it stands on a track
unfoldable pub IsAt : Script → Track → Watcher → Type 0
IsAt s begins w = (w.position ≡ Start) × (standing_of w ≡ opening s) × IsReady s 0 s.start w
IsAt s (within r T old es) w = (w.position ≡ Round r T) × IsWithin s (opened r T old) es w
IsAt s ended w = w.position ≡ End

-- a call is the next one at a stage, or a draw where draws may come
abbrev pub AsksFor : Script → Stage → Call → Type 0
AsksFor s x c = (asked s x ≡ Some c) ⊎ ((is_draw c ≡ true) × (0 < draws_now s x))

-- the same of an entry and its caller
abbrev pub AsksNext : Script → Callers → Entry → Type 0
AsksNext s c e = (e.caller.0 ≤ s.workers) × AsksFor s (c.at e.caller.0) e.call

-- what stands after a round of these entries
abbrev pub left_after : Script → Opened → List Entry → Standing
left_after s g es = stands_at s g.round g.tick g.old es

-- round r is closed: no turn is open, all stands as it must after it, and what is left of the events comes later
pub record IsOver (s : Script) (r : ℕ) (w : Watcher) : Type 0 where
  pub sound : IsTrue (is_sound s)
  pub round : r < s.rounds
  pub tasks : length w.floor.machine.tasks ≡ length s.tasks
  pub count : length w.workers.items ≡ s.workers
  pub idle : (k : ℕ) (d : Worker) → k < s.workers → IsIdle s (r + 1) k w.floor.machine (slice_index_or w.workers.items k d)
  pub rows : KnowsRows s w.floor.machine w.floor.rows.items
  pub injection : AtEvents s (r + 1) w.injection
  pub now : actions_in s (r + 1) ≡ actions_left s (r + 1) w.injection
  pub held : w.injection.held ≡ None
  pub shared : CountsBetween s (r + 1) w.floor.machine w.shared

-- the run that stands so after round r at tick T goes on at this tick
abbrev pub GoesOn : Script → ℕ → ℕ → ℕ → Standing → Type 0
GoesOn s r T tick st = (r + 1 ≢ s.rounds) × (is_at_rest s r st ≡ false) × (tick ≡ next_tick s r T st)

-- after these entries the run goes on with this round
abbrev pub Follows : Script → Opened → List Entry → ℕ → ℕ → Type 0
Follows s g es number tick = IsWhole s g.round g.tick g.old es × (number ≡ g.round + 1) × GoesOn s g.round g.tick tick (left_after s g es)

-- the end that a run has which stands so after round r
abbrev pub Ends : Script → ℕ → Bool → Standing → Type 0
Ends s r rest st = MatchBool (is_at_rest s r st) (rest ≡ true) ((r + 1 ≡ s.rounds) × (rest ≡ false))

-- after these entries the run ends
abbrev pub EndsAfter : Script → Opened → List Entry → Bool → ℕ → Type 0
EndsAfter s g es rest last = IsWhole s g.round g.tick g.old es × (last ≡ g.round) × Ends s g.round rest (left_after s g es)

-- the line of a round may come, and the watcher stands ready for it
abbrev pub CanOpen : Script → Track → ℕ → ℕ → Watcher → Type 0
CanOpen s t number tick w = May s t (line.Round number tick) (within number tick (standing_of w) []) × IsReady s number tick w

-- the answer on a line: it is allowed, and the watcher stands behind it; or it is not
abbrev pub Judges : Script → Line → Watcher → Bool → Watcher → Type 0
Judges s l old allowed new =
    (t : Track) → IsAt s t old → MatchBool allowed ((u : Track) × May s t l u × IsAt s u new) ((u : Track) → May s t l u → ⊥)

-- what a worker does as its turn begins at tick T
pub record Begun (s : Script) (T : ℕ) (old new : Worker) : Type 0 where
  pub fits : Fits s new
  pub number : number_of new ≡ number_of old
  pub tick : tick_of new ≡ T
  pub turns : turns_of new ≡ turns_of old + 1
  pub takes : (i : ℕ) → takes_of new i ≡ takes_of old i
  pub stage : stage_of s new ≡ begun s T (book_now old)
  pub book : asked s (stage_of s new) ≡ None → book_now new ≡ (stage_of s new).book

-- a worker may begin a turn at tick T
pub record CanBegin (s : Script) (T : ℕ) (w : Worker) : Type 0 where
  pub fits : Fits s w
  pub over : asked s (stage_of s w) ≡ None
  pub few : turns_of w < 10000000
  pub before : Window behind (tick_of w) (book_now w).wait
  pub after : Window behind T (book_now w).wait
