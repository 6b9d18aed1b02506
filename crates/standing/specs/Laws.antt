-- What holds of every run: machine and books agree, each next call is allowed, and every run can go on (docs/MODEL.md).
use Rattle.std.specs.Prelude.{◌≡◌, ℕ, ◌^◌, ◌<◌, ◌≤◌, ◌+◌, ◌*◌, length, true, false, List, filter, ◌∷◌, ◌++◌, Some, Bool, IsTrue}
use Rattle.std.specs.List.{flat_map}
use Rattle.step_tables.specs.declared.tables.Script.{Script}
use Rattle.step_tables.specs.Sound.{is_sound}
use Rattle.task_machine.specs.declared.calls.Call.{Call}
use Rattle.task_machine.specs.declared.calls.Call.TheVariants.{Draw}
use Rattle.task_machine.specs.declared.calls.Reply.{Reply}
use Rattle.task_machine.specs.declared.calls.Reply.TheVariants.{Done}
use Rattle.task_machine.specs.declared.calls.Entry.{Entry}
use Rattle.task_machine.specs.Since.{is_take, TakesTell}
use Rattle.task_machine.specs.Task.{is_boxed, is_gone}
use Rattle.task_machine.specs.Step.{State, task_at, Allowed, reply_of}
use Rattle.task_machine.specs.History.{Legal, led, calls_of}
use Rattle.run_model.specs.Run.{Round, Run}
use Rattle.run_model.specs.Tables.{def_of, home_of}
use Rattle.run_model.specs.Lawful.{RoundOf, LawfulRun}
use Rattle.run_model.specs.Standing.{Standing, opening, next_tick}
use Rattle.turn_steps.specs.Left.{Stage, asked, draws_now}
use Rattle.turn_steps.specs.Told.{Told, told}
use Rattle.turn_steps.specs.Has.{caller, said, CanGive}
use Rattle.standing.specs.Keeps.{Callers, Keeps, Owns}
use Rattle.standing.specs.Going.{IsNext, Going, gone_on}
use Rattle.standing.specs.Between.{KeepsBetween, entered, round_takes}
use Rattle.standing.specs.Passes.{Passes}
use Rattle.standing.specs.Firm.{Firm}
use Rattle.standing.specs.Homes.{KeepsHomes}
use Rattle.standing.specs.Clock.{KeepsClock}

-- what stands together holds at the opening, and each lawful round keeps it; so does each call within a round
pub record RoundsKeep : Type 0 where
  pub opening : (s : Script) → KeepsBetween s 0 (opening s)
  pub enter : (s : Script) (r T limit : ℕ) (st : Standing) → IsTrue (is_sound s) → KeepsBetween s limit st → Keeps s (limit + round_takes s) (entered s r T st)
  pub calls : (s : Script) (T limit : ℕ) (c : Callers) (es : List Entry) → IsTrue (is_sound s) → Keeps s limit c → Going s T c es → Keeps s limit (gone_on s T c es)
  pub round : (s : Script) (r T limit : ℕ) (old : Standing) (round : Round) (new : Standing) → IsTrue (is_sound s) → KeepsBetween s limit old → RoundOf s r T old round new → KeepsBetween s (limit + round_takes s) new

-- each next call of each caller is allowed, with the machine's reply, and so is each draw of a task that is in the shared
-- box
pub record NextCallsAreAllowed : Type 0 where
  pub next : (s : Script) (limit : ℕ) (c : Callers) (k : ℕ) (call : Call) → IsTrue (is_sound s) → limit < 2 ^ 48 → Keeps s limit c → k ≤ s.workers → asked s (c.at k) ≡ Some call → Allowed c.state (said (caller k) call (reply_of c.state (caller k) call))
  pub draw : (s : Script) (limit : ℕ) (c : Callers) (k i : ℕ) → IsTrue (is_sound s) → Keeps s limit c → k ≤ s.workers → 0 < draws_now s (c.at k) → is_boxed s.workers (task_at c.state i).place ≡ true → IsNext s c (said (caller k) (Draw (record { 0 = i })) Done)

-- whole rounds after which a run goes on, and calls of all callers in the next round, are the begin of a lawful run
abbrev pub RunsCanGoOn : Type 0
RunsCanGoOn =
    (s : Script) (rounds : List Round) (q U : ℕ) (st : Standing) (es : List Entry) → IsTrue (is_sound s) →
    Passes s 0 s.start (opening s) rounds q U st → Going s U (entered s q U st) es →
    (rest : Bool) × (more : List Entry) × (later : List Round) ×
    LawfulRun s (record { rounds = rounds ++ record { tick = U; entries = es ++ more } ∷ later; rest = rest })

-- the begin of the entries of a lawful round are such calls
abbrev pub RoundsAreCalls : Type 0
RoundsAreCalls =
    (s : Script) (r T limit : ℕ) (old new : Standing) (es more : List Entry) → KeepsBetween s limit old →
    RoundOf s r T old (record { tick = T; entries = es ++ more }) new → Going s T (entered s r T old) es

-- all that stands together before a round holds at the opening, and each lawful round keeps it; within the round the
-- places, the homes and the timers' window stand after each call
pub record RoundsStandFirm : Type 0 where
  pub opening : (s : Script) → IsTrue (is_sound s) → Firm s s.start 0 (opening s)
  pub calls : (s : Script) (r T limit : ℕ) (st : Standing) (es : List Entry) → IsTrue (is_sound s) → Firm s T limit st → Going s T (entered s r T st) es → Keeps s (limit + round_takes s) (gone_on s T (entered s r T st) es) × KeepsHomes s (gone_on s T (entered s r T st) es) × KeepsClock s T (gone_on s T (entered s r T st) es)
  pub round : (s : Script) (r T limit : ℕ) (old : Standing) (round : Round) (new : Standing) → IsTrue (is_sound s) → Firm s T limit old → RoundOf s r T old round new → Firm s (next_tick s r T new) (limit + round_takes s) new

-- so it stands after whole rounds, and no task can be taken too often in the next one
abbrev pub RunsStandFirm : Type 0
RunsStandFirm =
    (s : Script) (rounds : List Round) (q U : ℕ) (st : Standing) → IsTrue (is_sound s) → Passes s 0 s.start (opening s) rounds q U st →
    (q < s.rounds) × (q * round_takes s + round_takes s < 2 ^ 48) × Firm s U (q * round_takes s) st

-- in each legal history in which a caller's own calls follow its part, whatever the others do, it has what its part says;
-- and each reply that the machine can then give it is one that its part can hear
pub record CallersHear : Type 0 where
  pub owns : (s : Script) (T k : ℕ) (state : State) (g : Stage) (es : List Entry) → Owns k state g → Legal state es → Told s (caller k) T g (calls_of k es) → Owns k (led state es) (told s (caller k) T g (calls_of k es))
  pub gives : (s : Script) (state : State) (k : ℕ) (g : Stage) (c : Call) (r : Reply) → length state.tasks ≡ length s.tasks → Owns k state g → Allowed state (said (caller k) c r) → CanGive s g c r

-- how often task i is taken in some entries
abbrev pub takes_by : ℕ → List Entry → ℕ
takes_by i es = length (filter (λ e. is_take i e.call) es)

-- the takes of a task that is not gone are told by the worker that is its home: those before, and those among the
-- worker's own calls
abbrev pub TakesAreTold : Type 0
TakesAreTold =
    (s : Script) (T w i : ℕ) (c : Callers) (es : List Entry) → IsTrue (is_sound s) → KeepsHomes s c → w < s.workers →
    home_of s i ≡ w → Going s T c es → is_gone (task_at (gone_on s T c es).state i).place ≡ false →
    (is_gone (task_at c.state i).place ≡ false) × ((task_at (gone_on s T c es).state i).takes ≡ (task_at c.state i).takes + takes_by i (calls_of w es))

-- in each lawful run each take has exactly the reasons since the task's previous take, or since the opening, and the killed
-- flag exactly where a kill came since then
abbrev pub RunsTellReasons : Type 0
RunsTellReasons =
    (s : Script) (run : Run) → LawfulRun s run → TakesTell (λ i. (def_of s i).init) (flat_map (λ r. r.entries) run.rounds)
