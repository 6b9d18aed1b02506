-- What is left of a caller's part of a round, as data: which call comes next, and what a reply makes of it
-- (docs/MODEL.md, "What is left of a turn").
use Rattle.std.specs.Prelude.{◌≡◌, ℕ, ◌-◌, ◌<◌, ◌==◌, ◌⊎◌, Bool, true, false, ◌+◌, List, [], ◌∷◌, Option, None, Some, if◌then◌else◌}
use Rattle.std.specs.List.{range_with_len}
use Rattle.sched_base.specs.ReasonNames.{timer}
use Rattle.sched_base.specs.declared.names.CallerId.{CallerId}
use Rattle.sched_base.specs.declared.names.Class.{Class}
use Rattle.run_model.specs.TurnReader.{runs_left}
use Rattle.queue_model.specs.Classes.{Classes, Next, quotas, spent, next_run}
use Rattle.queue_model.specs.Sweep.{fired, swept}
use Rattle.step_tables.specs.declared.tables.Action.{Action}
use Rattle.step_tables.specs.declared.tables.Row.{Row}
use Rattle.step_tables.specs.declared.tables.Script.{Script}
use Rattle.task_machine.specs.declared.calls.Call.{Call}
use Rattle.task_machine.specs.declared.calls.Call.TheVariants.{Wake, Post, Get, Draw, Take, DropRun, Retire}
use Rattle.task_machine.specs.declared.calls.Reply.{Reply}
use Rattle.task_machine.specs.declared.calls.Entry.{Entry}
use Rattle.run_model.specs.Replies.{is_rest, is_killed, has_reasons, takes_in, members}
use Rattle.run_model.specs.Tables.{home_of, row_by, groups, call_of, target, actions_in}
use Rattle.run_model.specs.Book.{Book, queued, queued_all, filled, taken_from, untimed, row_ended}

-- what comes after a run: runs with these quotas, or at most so many draws
pub data Onward : Type 0 where
  by_class : Classes ℕ → Onward
  by_draw : ℕ → Onward

-- the item that comes next by the quotas; once none does, draws may come
abbrev pub next_in : Onward → Book → Option Next
next_in (by_class q) b = next_run b.lists q
next_in (by_draw n) b = None

abbrev pub spent_in : Class → Onward → Onward
spent_in k (by_class q) = by_class (spent k q)
spent_in k (by_draw n) = by_draw n

-- how many draws may still come, and how many takes
abbrev pub draws_in : ℕ → Onward → ℕ
draws_in depth (by_class q) = depth
draws_in depth (by_draw n) = n

abbrev pub takes_after : ℕ → Onward → ℕ
takes_after depth (by_class q) = runs_left q + depth
takes_after depth (by_draw n) = n

-- the groups still to get; the fired timers still to wake for; what comes next; an action of the run of task i, those
-- after it, its row; a post of task j within that run; the end of the run; a retirement (of a task in hand, or else of
-- one that still runs); a post of the task itself to the shared box; the take of a task that was
-- drawn, with so many draws after it. Of the injector: an action and those after it; a
-- post; nothing
pub data Left : Type 0 where
  gets : ℕ → List ℕ → Left
  wakes : ℕ → List ℕ → Left
  runs : Onward → Left
  acts : Action → List Action → ℕ → Row → Onward → Left
  posts : ℕ → List Action → ℕ → Row → Onward → Left
  drops : ℕ → Onward → Left
  retires : Bool → ℕ → Onward → Left
  returns : ℕ → Onward → Left
  drawn : ℕ → ℕ → Left
  injects : Action → List Action → Left
  carries : ℕ → List Action → Left
  over : Left

-- a caller within a round: what is left of its part, and its book
pub record Stage : Type 0 where
  pub left : Left
  pub book : Book

abbrev pub stage : Left → Book → Stage
stage l b = record { left = l; book = b }

-- where a caller stands once what is silent is done
abbrev pub at_runs : Script → Book → Stage
at_runs s b = stage (runs (by_class (quotas s.depth (filled s.depth b).lists))) (filled s.depth b)

abbrev pub at_wakes : Script → List ℕ → Book → Stage
at_wakes s [] b = at_runs s b
at_wakes s (i ∷ is) b = stage (wakes i is) b

abbrev pub at_sweep : Script → ℕ → Book → Stage
at_sweep s T b = at_wakes s (fired T b.wait) (record b { wait = swept T b.wait })

abbrev pub at_gets : Script → ℕ → List ℕ → Book → Stage
at_gets s T [] b = at_sweep s T b
at_gets s T (g ∷ gs) b = stage (gets g gs) b

abbrev pub at_acts : ℕ → List Action → ℕ → Row → Onward → Book → Stage
at_acts T [] i row q b = stage (drops i q) (row_ended T i row b)
at_acts T (a ∷ more) i row q b = stage (acts a more i row q) b

abbrev pub at_events : List Action → Book → Stage
at_events [] b = stage over b
at_events (a ∷ more) b = stage (injects a more) b

-- a worker at the begin of its turn at tick T, and the injector at the begin of round r
abbrev pub begun : Script → ℕ → Book → Stage
begun s T b = at_gets s T (range_with_len 0 (groups s)) b

abbrev pub injector : Script → ℕ → Book → Stage
injector s r b = at_events (actions_in s r) b

-- the call that takes the item that comes next
abbrev pub take_call : Option Next → Option Call
take_call None = None
take_call (Some x) = Some (Take (record { 0 = x.task }))

-- the next call, none at the end
abbrev pub asked_in : Script → Left → Book → Option Call
asked_in s (gets g gs) b = Some (Get g)
asked_in s (wakes i is) b = Some (Wake (record { 0 = i }) timer)
asked_in s (runs q) b = take_call (next_in q b)
asked_in s (acts a more i row q) b = Some (call_of a)
asked_in s (posts j more i row q) b = Some (Post (record { 0 = j }) (home_of s j))
asked_in s (drops i q) b = Some (DropRun (record { 0 = i }))
asked_in s (retires held i q) b = Some (Retire (record { 0 = i }))
asked_in s (returns i q) b = Some (Post (record { 0 = i }) (home_of s i))
asked_in s (drawn i n) b = Some (Take (record { 0 = i }))
asked_in s (injects a more) b = Some (call_of a)
asked_in s (carries j more) b = Some (Post (record { 0 = j }) (home_of s j))
asked_in s over b = None

abbrev pub asked : Script → Stage → Option Call
asked s g = asked_in s g.left g.book

-- what a reply makes of a fact read from it
abbrev pub waked : Script → Bool → ℕ → Book → Book
waked s rest i b = if rest then queued s i b else b

-- a task that came into hand by an action: queued where it is the worker's own, else to be posted
abbrev pub handed : Script → ℕ → Bool → ℕ → List Action → ℕ → Row → Onward → Book → Stage
handed s T true j more i row q b = at_acts T more i row q (queued s j b)
handed s T false j more i row q b = stage (posts j more i row q) b

abbrev pub acted : Script → CallerId → ℕ → Bool → ℕ → List Action → ℕ → Row → Onward → Book → Stage
acted s w T true j more i row q b = handed s T (home_of s j == w.0) j more i row q b
acted s w T false j more i row q b = at_acts T more i row q b

-- a run of the item that came next, once it is taken
abbrev pub row_begun : ℕ → ℕ → Row → Onward → Book → Stage
row_begun T i row q b = at_acts T row.actions i row q b

abbrev pub run_begun : Script → ℕ → Reply → Bool → ℕ → Onward → Book → Stage
run_begun s T r true i q b = stage (retires false i q) b
run_begun s T r false i q b = row_begun T i (row_by s i (takes_in r)) q b

abbrev pub taken : Script → ℕ → Reply → Onward → Option Next → Book → Stage
taken s T r q None b = stage (runs q) b
taken s T r q (Some x) b = run_begun s T r (is_killed r) x.task (spent_in x.class q) (taken_from x.class b)

-- the end of a run: shared or not, then has reasons or not, then killed or not
abbrev pub returned : Script → Bool → ℕ → Onward → Book → Stage
returned s true i q b = stage (returns i q) b
returned s false i q b = stage (runs q) (queued s i b)

abbrev pub dropped_live : Script → Bool → ℕ → Onward → Book → Stage
dropped_live s true i q b = returned s (home_of s i == s.workers) i q b
dropped_live s false i q b = stage (runs q) b

abbrev pub dropped_as : Script → Bool → Bool → ℕ → Onward → Book → Stage
dropped_as s true busy i q b = stage (retires true i q) b
dropped_as s false busy i q b = dropped_live s busy i q b

abbrev pub injected : Bool → ℕ → List Action → Book → Stage
injected true j more b = stage (carries j more) b
injected false j more b = at_events more b

-- what a reply to the next call leaves (w is the caller)
abbrev pub heard_in : Script → CallerId → ℕ → Reply → Left → Book → Stage
heard_in s w T r (gets g gs) b = at_gets s T gs (queued_all s (members g r) b)
heard_in s w T r (wakes i is) b = at_wakes s is (waked s (is_rest r) i b)
heard_in s w T r (runs q) b = taken s T r q (next_in q b) b
heard_in s w T r (acts a more i row q) b = acted s w T (is_rest r) (target a) more i row q b
heard_in s w T r (posts j more i row q) b = at_acts T more i row q b
heard_in s w T r (drops i q) b = dropped_as s (is_killed r) (has_reasons r) i q b
heard_in s w T r (retires held i q) b = stage (runs q) (untimed i b)
heard_in s w T r (returns i q) b = stage (runs q) b
heard_in s w T r (drawn i n) b = run_begun s T r (is_killed r) i (by_draw n) b
heard_in s w T r (injects a more) b = injected (is_rest r) (target a) more b
heard_in s w T r (carries j more) b = at_events more b
heard_in s w T r over b = stage over b

abbrev pub heard : Script → CallerId → ℕ → Reply → Stage → Stage
heard s w T r g = heard_in s w T r g.left g.book

-- how many draws a caller may make at this point; after them it may as well have none
abbrev pub draws_if : Option Next → ℕ → ℕ
draws_if None n = n
draws_if (Some x) n = 0

abbrev pub draws_now_in : Script → Left → Book → ℕ
draws_now_in s (runs q) b = draws_if (next_in q b) (draws_in s.depth q)
draws_now_in s l b = 0

abbrev pub draws_now : Script → Stage → ℕ
draws_now s g = draws_now_in s g.left g.book

-- what a draw leaves
abbrev pub drew : Script → ℕ → Stage → Stage
drew s i g = stage (drawn i (draws_now s g - 1)) g.book

-- a draw of any shared task
pub record MayDraw (s : Script) (g : Stage) (c : Call) : Type 0 where
  pub task : ℕ
  pub call : c ≡ Draw (record { 0 = task })
  pub shared : home_of s task ≡ s.workers
  pub some : 0 < draws_now s g

-- a next call: the one that is asked, or where none is asked a draw
abbrev pub MayCall : Script → Stage → Call → Type 0
MayCall s g c = (asked s g ≡ Some c) ⊎ MayDraw s g c

-- what a call with this reply leaves
abbrev pub went : Script → CallerId → ℕ → Call → Reply → Stage → Stage
went s w T (Draw i) r g = drew s i.0 g
went s w T c r g = heard s w T r g

-- the rest of a caller's part: each entry is a next call, and after the last none is asked
abbrev pub Rest : Script → CallerId → ℕ → Stage → List Entry → Book → Type 0
Rest s w T g [] new = (asked s g ≡ None) × (new ≡ g.book)
Rest s w T g (e ∷ es) new = (e.caller ≡ w) × MayCall s g e.call × Rest s w T (went s w T e.call e.reply g) es new
