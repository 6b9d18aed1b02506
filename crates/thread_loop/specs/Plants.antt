-- What a plant stands for, and a round that it makes on a board (docs/MODEL.md, "A round on threads").
use Rattle.std.specs.Prelude.{◌≡◌, ℕ, suc, ◌+◌, ◌*◌, ◌^◌, ◌<◌, ◌≤◌, Bool, true, false, IsTrue, List, [], ◌∷◌, map, replicate, length, slice_index_or, Option, None, Some, vec_capacity, if◌then◌else◌, ⊤}
use Rattle.step_tables.specs.declared.tables.Script.{Script}
use Rattle.step_tables.specs.Nexts.{nexts_of}
use Rattle.step_tables.specs.Sound.{is_sound}
use Rattle.task_machine.specs.declared.calls.Entry.{Entry}
use Rattle.task_machine.specs.History.{IsMerge}
use Rattle.task_machine.specs.Logged.{Logged}
use Rattle.task_machine.specs.Own.{away}
use Rattle.task_machine.specs.declared.task.Seen.{Seen}
use Rattle.task_machine.specs.declared.task.Seen.TheVariants as views
use Rattle.task_machine.specs.declared.task.Stand.TheVariants as stands
use Rattle.queue_model.specs.Clock.{Window, behind}
use Rattle.run_model.specs.Lawful.{Injects, RoundOf}
use Rattle.run_model.specs.Standing.{Standing, book_at, next_tick, turn_ended, jumps, earliest, earlier_of, first_keys}
use Rattle.run_model.specs.Tables.{home_in}
use Rattle.run_model.specs.Turn.{Turn}
use Rattle.turn_steps.specs.Left.{asked}
use Rattle.turn_steps.specs.Has.{caller}
use Rattle.standing.specs.Between.{round_takes}
use Rattle.standing.specs.Firm.{Firm}
use Rattle.history_weave.specs.Places.{log_at, entry_count}
use Rattle.wake_board.specs.Start.{no_holder, state_by}
use Rattle.wake_board.specs.Between.{StandBetween}
use Rattle.wake_board.specs.Seen.{Held, Laid, IsPassOf}
use Rattle.wake_board.specs.Ends.{fresh, own_by}
use Rattle.thread_loop.specs.Workers.{number_of, tick_of, turns_of, takes_of, stage_of, Fits}
use Rattle.thread_loop.specs.Boards.{log_of, turn_room, round_room, HasListed, KeepsTakes, FewKnown, IsOwn, HasServed, HasGrown}
use Rattle.thread_loop.specs.Idle.{book_now, IsIdle, Opened}
use Rattle.thread_loop.specs.declared.worker.Worker.{Worker}
use Rattle.thread_loop.specs.declared.plant.Plant.{Plant}
use Rattle.thread_loop.specs.declared.plant.RoundInHand.{RoundInHand}

-- the home of each task, and a list of holders in which nobody holds a task
abbrev pub homes_of : Script → List ℕ
homes_of s = map (λ d. home_in s d.kind) s.tasks

abbrev pub nobody : Script → List ℕ
nobody s = replicate (length s.tasks) no_holder

-- what stands between rounds: the state for which the words stand, with their holders, and the books of the workers
unfoldable pub standing_of : Plant → Standing
standing_of p = record { state = state_by p.words p.homes.items p.holders.items; books = map book_now p.workers.items }

-- the tick of the next round, and how many rounds are over
abbrev pub tick_next : Plant → ℕ
tick_next p = p.tick

-- the log of each caller, the injector's last
abbrev pub logs_of : Plant → List Logged
logs_of p = p.logs.items

-- whether a task that was seen so has nothing more to do
abbrev pub is_still_seen : Seen → Bool
is_still_seen views.Gone = true
is_still_seen (views.Live stands.Rest n b t) = true
is_still_seen (views.Live st n b t) = false

-- the parts that no round changes, and the words with their holders, are those of the script in this state
pub record Holds (s : Script) (st : Standing) (p : Plant) : Type 0 where
  pub stands : StandBetween p.words p.homes.items p.holders.items p.nexts st.state
  pub homes : p.homes.items ≡ homes_of s
  pub nexts : p.nexts ≡ nexts_of s
  pub count : length p.workers.items ≡ s.workers
  pub logs : length p.logs.items ≡ suc s.workers
  pub holders : length p.holders.items ≡ length s.tasks
  pub queue : length p.queue.ranks ≡ length s.tasks

-- the plant stands before round r: r rounds are over, and no round was run that is not ended
pub record IsReady (s : Script) (r : ℕ) (p : Plant) : Type 0 where
  pub sound : IsTrue (is_sound s)
  pub holds : Holds s (standing_of p) p
  pub firm : Firm s p.tick (r * round_takes s) (standing_of p)
  pub idle : (k : ℕ) (d : Worker) → k < s.workers → IsIdle s r k (standing_of p).state (slice_index_or p.workers.items k d)
  pub ended : p.ended ≡ r
  pub ran : p.ran ≡ false

-- the round that comes next
abbrev pub next_round : ℕ → Plant → Opened
next_round r p = record { round = r; tick = p.tick; old = standing_of p }

-- there is room for all calls of round r
pub record IsRoomy (s : Script) (r : ℕ) (p : Plant) : Type 0 where
  pub workers : (k : ℕ) (d : Worker) → k < s.workers → turn_room s ≤ (log_of (slice_index_or p.workers.items k d)).room
  pub injector : round_room s r ≤ p.injector.room

-- a board was opened with what stands between rounds, with one fresh pass for each caller
pub record IsOpened (s : Script) (st : Standing) (h : RoundInHand) : Type 0 where
  pub state : h.board.start.state ≡ st.state
  pub homes : h.board.start.homes ≡ homes_of s
  pub nexts : h.board.start.nexts ≡ nexts_of s
  pub count : length h.passes ≡ suc s.workers
  pub each : (k : ℕ) → k ≤ s.workers → slice_index_or h.passes k None ≡ Some (fresh h.board k)
  pub empty : h.out.items ≡ []
  pub room : suc s.workers ≤ vec_capacity h.out

-- round r may be run on the board in hand
pub record CanRun (s : Script) (r : ℕ) (p : Plant) (h : RoundInHand) : Type 0 where
  pub ready : IsReady s r p
  pub more : r < s.rounds
  pub roomy : IsRoomy s r p
  pub opened : IsOpened s (standing_of p) h

-- a worker may make its turn at tick T on a board, through a pass
pub record CanTurn (s : Script) (T : ℕ) (b : Laid) (w : Worker) (p : Held) : Type 0 where
  pub fits : Fits s w
  pub over : asked s (stage_of s w) ≡ None
  pub few : turns_of w < 10000000
  pub before : Window behind (tick_of w) (book_now w).wait
  pub after : Window behind T (book_now w).wait
  pub reserved : turn_room s ≤ (log_of w).room
  pub pass : IsPassOf b p
  pub number : p.who ≡ number_of w
  pub outs : p.outs ≡ []
  pub listed : HasListed (book_now w) p
  pub takes : KeepsTakes s w p
  pub few_takes : FewKnown s (number_of w) p
  pub few_entries : length p.entries < 2 ^ 39
  pub own : IsOwn s (number_of w) (book_now w)

-- a worker made its turn
pub record HasTurned (s : Script) (T : ℕ) (w : Worker) (p : Held) (v : Worker) (q : Held) : Type 0 where
  pub fits : Fits s v
  pub over : asked s (stage_of s v) ≡ None
  pub number : number_of v ≡ number_of w
  pub tick : tick_of v ≡ T
  pub turns : turns_of v ≡ turns_of w + 1
  pub turn : Turn s (caller (number_of w)) T (book_now w) (log_of v).entries (book_now v)
  pub grown : HasGrown p (log_of v).entries q
  pub served : HasServed s (log_of v).entries q
  pub listed : HasListed (book_now v) q
  pub takes : KeepsTakes s v q
  pub own : IsOwn s (number_of v) (book_now v)

-- each of some workers may make its turn, through the pass at the same place
abbrev pub AllCanTurn : Script → ℕ → Laid → List Worker → List Held → Type 0
AllCanTurn s T b [] [] = ⊤
AllCanTurn s T b (w ∷ ws) [] = ⊥
AllCanTurn s T b [] (p ∷ ps) = ⊥
AllCanTurn s T b (w ∷ ws) (p ∷ ps) = CanTurn s T b w p × AllCanTurn s T b ws ps

-- and each made it
abbrev pub AllTurned : Script → ℕ → List Worker → List Held → List Worker → List Held → Type 0
AllTurned s T [] [] [] [] = ⊤
AllTurned s T (w ∷ ws) (p ∷ ps) (v ∷ vs) (q ∷ qs) = HasTurned s T w p v q × AllTurned s T ws ps vs qs
AllTurned s T ws ps vs qs = ⊥

-- a worker after its turn of round g, with its pass and its log
pub record IsTurned (s : Script) (g : Opened) (b : Laid) (k : ℕ) (w : Worker) (es : List Entry) (p : Held) : Type 0 where
  pub fits : Fits s w
  pub over : asked s (stage_of s w) ≡ None
  pub number : number_of w ≡ k
  pub tick : tick_of w ≡ g.tick
  pub turns : turns_of w ≡ g.round + 1
  pub turn : Turn s (caller k) g.tick (book_at g.old k) es (book_now w)
  pub served : HasServed s es p
  pub listed : HasListed (book_now w) p
  pub takes : KeepsTakes s w p
  pub own : IsOwn s k (book_now w)
  pub pass : IsPassOf b p
  pub who : p.who ≡ k
  pub entries : p.entries ≡ es
  pub outs : p.outs ≡ []
  pub short : length es < 2 ^ 20

-- the injector after its part of round g
pub record IsInjected (s : Script) (g : Opened) (b : Laid) (es : List Entry) (p : Held) : Type 0 where
  pub injects : Injects s g.round es
  pub free : (i : ℕ) → own_by p i ≡ away
  pub pass : IsPassOf b p
  pub who : p.who ≡ s.workers
  pub entries : p.entries ≡ es
  pub outs : p.outs ≡ []
  pub short : length es < 2 ^ 20

-- round g was run and is not ended: all passes are back in the hand, and each log is the own entries of its pass
pub record IsRun (s : Script) (g : Opened) (p : Plant) (h : RoundInHand) : Type 0 where
  pub sound : IsTrue (is_sound s)
  pub more : g.round < s.rounds
  pub firm : Firm s g.tick (g.round * round_takes s) g.old
  pub holds : Holds s g.old p
  pub state : h.board.start.state ≡ g.old.state
  pub homes : h.board.start.homes ≡ homes_of s
  pub nexts : h.board.start.nexts ≡ nexts_of s
  pub count : length h.passes ≡ suc s.workers
  pub turned : (k : ℕ) (d : Worker) → k < s.workers → (q : Held) × (slice_index_or h.passes k None ≡ Some q) × IsTurned s g h.board k (slice_index_or p.workers.items k d) (log_at p.logs.items k) q
  pub injected : (q : Held) × (slice_index_or h.passes s.workers None ≡ Some q) × IsInjected s g h.board (log_at p.logs.items s.workers) q
  pub ended : p.ended ≡ g.round
  pub tick : p.tick ≡ g.tick
  pub ran : p.ran ≡ true

-- a worker whose turn may be ended
pub record MayEnd (s : Script) (w : Worker) : Type 0 where
  pub fits : Fits s w
  pub over : asked s (stage_of s w) ≡ None

-- a worker and the same once its turn is ended
pub record EndsTurn (s : Script) (w v : Worker) : Type 0 where
  pub book : book_now v ≡ turn_ended s (tick_of w) (book_now w)
  pub over : asked s (stage_of s v) ≡ None
  pub fits : Fits s v
  pub number : number_of v ≡ number_of w
  pub tick : tick_of v ≡ tick_of w
  pub turns : turns_of v ≡ turns_of w
  pub takes : (i : ℕ) → takes_of v i ≡ takes_of w i

-- a round was ended, but that the tick of the next one is still to be told
pub record IsStopped (s : Script) (p : Plant) : Type 0 where
  pub sound : IsTrue (is_sound s)
  pub holds : Holds s (standing_of p) p
  pub fits : (k : ℕ) (d : Worker) → k < s.workers → Fits s (slice_index_or p.workers.items k d)

-- the tick to which the next round jumps, if it does
abbrev pub jump_of : Script → ℕ → ℕ → Standing → Option ℕ
jump_of s r T st = if jumps s r st then earliest T (first_keys st) else None

-- the earlier one of two ticks that may be there
abbrev pub earlier_in : ℕ → Option ℕ → Option ℕ → Option ℕ
earlier_in T None u = u
earlier_in T (Some t) None = Some t
earlier_in T (Some t) (Some u) = Some (earlier_of T t u)

-- round g is over: the logs have a legal merge, each legal merge is a lawful round, and the plant stands before the next,
-- at its tick
pub record HasEnded (s : Script) (g : Opened) (p : Plant) : Type 0 where
  pub ready : IsReady s (g.round + 1) p
  pub tick : p.tick ≡ next_tick s g.round g.tick (standing_of p)
  pub few : entry_count p.logs.items < 2 ^ 32
  pub merge : (es : List Entry) × IsMerge g.old.state (log_at p.logs.items) es
  pub round : (es : List Entry) → IsMerge g.old.state (log_at p.logs.items) es → RoundOf s g.round g.tick g.old (record { tick = g.tick; entries = es }) (standing_of p)
