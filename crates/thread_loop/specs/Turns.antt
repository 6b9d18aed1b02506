-- What a worker's turn stands for (docs/MODEL.md, "The worker").
use Rattle.std.specs.Prelude.{◌≡◌, ℕ, ◌+◌, ◌-◌, ◌<◌, ◌≤◌, ◌==◌, Bool, true, false, List, [], ◌∷◌, drop, length, Option, None, Some, if◌then◌else◌}
use Rattle.std.specs.List.{range_with_len}
use Rattle.sched_base.specs.declared.names.TaskId.{TaskId}
use Rattle.queue_model.specs.Sweep.{fired, swept}
use Rattle.queue_model.specs.WaitList.{WaitItem, WaitList, expiry_of}
use Rattle.step_tables.specs.declared.tables.Action.{Action}
use Rattle.step_tables.specs.declared.tables.Row.{Row}
use Rattle.step_tables.specs.declared.tables.Script.{Script}
use Rattle.task_machine.specs.declared.calls.Call.{Call}
use Rattle.task_machine.specs.declared.calls.Call.TheVariants.{Take}
use Rattle.task_machine.specs.declared.calls.Reply.{Reply}
use Rattle.run_model.specs.Book.{Book}
use Rattle.run_model.specs.Standing.{turn_ended}
use Rattle.run_model.specs.Replies.{takes_in}
use Rattle.run_model.specs.Tables.{groups, def_of, home_of, row_at, row_number}
use Rattle.turn_steps.specs.Left as steps
use Rattle.turn_steps.specs.Left.{Left, gets, wakes, runs, acts, posts, drops, retires, returns, drawn, Stage, stage}
use Rattle.turn_steps.specs.Has.{has, CanGive}
use Rattle.thread_loop.specs.Queues.{book_of, quotas_of, Grows, Fits}
use Rattle.thread_loop.specs.declared.queues.Queues.{Queues}
use Rattle.thread_loop.specs.declared.turn.Onward.{Onward}
use Rattle.thread_loop.specs.declared.turn.Onward.TheVariants.{ByClass, ByDraw}
use Rattle.thread_loop.specs.declared.turn.Run.{Run}
use Rattle.thread_loop.specs.declared.turn.Phase.{Phase}
use Rattle.thread_loop.specs.declared.turn.Phase.TheVariants.{Gets, Wakes, Runs, Acts, Posts, Drops, Retires, Returns, Drawn}
use Rattle.thread_loop.specs.declared.turn.Turn.{Turn}

-- what comes after a run
abbrev pub onward_of : Onward → steps.Onward
onward_of (ByClass q) = steps.by_class (quotas_of q)
onward_of (ByDraw n) = steps.by_draw n

-- the row of a run, and its actions from number n on
abbrev pub row_of : Script → Run → Row
row_of s run = row_at s run.task.0 run.row

abbrev pub actions_from : ℕ → Script → Run → List Action
actions_from n s run = drop n (row_of s run).actions

-- the actions of a run that are left, of which the first comes next
abbrev pub acting : List Action → ℕ → Row → steps.Onward → Left
acting [] i row q = drops i q
acting (a ∷ more) i row q = acts a more i row q

-- what is left at a phase, at tick T
abbrev pub left_at : Script → ℕ → Queues → Phase → Left
left_at s T q (Gets g) = gets g (range_with_len (g + 1) (groups s - (g + 1)))
left_at s T q (Wakes i) = wakes i.0 (fired T (book_of T q).wait)
left_at s T q (Runs o) = runs (onward_of o)
left_at s T q (Acts run n) = acting (actions_from n s run) run.task.0 (row_of s run) (onward_of run.onward)
left_at s T q (Posts run n j) = posts j.0 (actions_from n s run) run.task.0 (row_of s run) (onward_of run.onward)
left_at s T q (Drops i o) = drops i.0 (onward_of o)
left_at s T q (Retires held i o) = retires held i.0 (onward_of o)
left_at s T q (Returns i o) = returns i.0 (onward_of o)
left_at s T q (Drawn i n) = drawn i.0 n

-- the book at a phase: where fired tasks are still to be woken, the sweep is done
abbrev pub book_in : ℕ → Queues → Phase → Book
book_in T q (Wakes i) = record (book_of T q) { wait = swept T (book_of T q).wait }
book_in T q p = book_of T q

-- where a turn stands
abbrev pub stage_at : Script → ℕ → Queues → Phase → Stage
stage_at s T q p = stage (left_at s T q p) (book_in T q p)

abbrev pub stage_in : Script → Turn → Stage
stage_in s t = stage_at s t.tick t.queues t.phase

-- the book with the timers as seen from the turn's tick
abbrev pub book_now : Turn → Book
book_now t = book_of t.tick t.queues

-- 1 where the first timer does not stand at its expiry
abbrev pub unsettled_in : WaitList → List WaitItem → ℕ
unsettled_in l [] = 0
unsettled_in l (y ∷ ys) = if expiry_of l y.task == y.key then 0 else 1

abbrev pub unsettled : WaitList → ℕ
unsettled l = unsettled_in l l.items

-- a stage once the turn is ended
abbrev pub ended : Script → ℕ → Stage → Stage
ended s T g = stage g.left (turn_ended s T g.book)

-- the row of a run is one of its task's
abbrev pub HasRow : Script → Run → Type 0
HasRow s run = run.row < length (def_of s run.task.0).rows

-- the numbers that a phase keeps are in range
abbrev pub PhaseFits : Script → Phase → Type 0
PhaseFits s (Gets g) = g < groups s
PhaseFits s (Acts run n) = HasRow s run × (n < length (row_of s run).actions)
PhaseFits s (Posts run n j) = HasRow s run × (n ≤ length (row_of s run).actions)
PhaseFits s p = Unit {0}

-- the turn is one of a worker of the script
pub record TurnFits (s : Script) (t : Turn) : Type 0 where
  pub queues : Fits s t.queues
  pub phase : PhaseFits s t.phase

-- the tick stays, and at most n more were put into the queues
pub record Steps (n : ℕ) (old new : Turn) : Type 0 where
  pub tick : new.tick ≡ old.tick
  pub grows : Grows n old.queues new.queues

-- the task that a call takes
abbrev pub take_of : Option Call → Option TaskId
take_of (Some (Take i)) = Some i
take_of c = None

-- each task that a caller has at a stage is one of the script
abbrev pub NamesTasks : Script → Stage → Type 0
NamesTasks s g = (i : ℕ) → 0 < has i g → i < length s.tasks

-- the reply is one that a machine can give to the next call
abbrev pub IsGiven : Script → Stage → Reply → Type 0
IsGiven s g r = (call : Call) × (steps.asked s g ≡ Some call) × CanGive s g call r

-- where the next call is a take, the row is the one of the takes that its reply tells
abbrev pub KnowsRow : Script → ℕ → Stage → Reply → Type 0
KnowsRow s row g r = (i : TaskId) → take_of (steps.asked s g) ≡ Some i → row ≡ row_number s i.0 (takes_in r)

-- the shared task that runs, if one does
abbrev pub if_shared : Bool → ℕ → Option TaskId
if_shared true i = Some (record { 0 = i })
if_shared false i = None

abbrev pub drawn_run : Script → Left → Option TaskId
drawn_run s (acts a more i row q) = if_shared (home_of s i == s.workers) i
drawn_run s (posts j more i row q) = if_shared (home_of s i == s.workers) i
drawn_run s (drops i q) = if_shared (home_of s i == s.workers) i
drawn_run s (retires false i q) = if_shared (home_of s i == s.workers) i
drawn_run s l = None
