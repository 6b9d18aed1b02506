-- The machine's table of calls, column by column, and the machine step (docs/MODEL.md, "Machine step").
use Rattle.std.specs.Prelude.{◌≡◌, ℕ, zero, suc, ◌+◌, ◌-◌, ◌*◌, ◌/◌, ◌^◌, ◌<◌, Bool, true, false, not, ◌&&◌, ◌||◌, ◌==◌, nat_lt, if◌then◌else◌, List, [], ◌∷◌, length, slice_index_or, slice_set}
use Rattle.std.specs.Int.{bit_at}
use Rattle.sched_base.specs.declared.names.CallerId.{CallerId}
use Rattle.task_machine.specs.declared.task.Place.{Place}
use Rattle.task_machine.specs.declared.task.Place.TheVariants as places
use Rattle.task_machine.specs.declared.task.TaskState.{TaskState}
use Rattle.task_machine.specs.declared.calls.Call.{Call}
use Rattle.task_machine.specs.declared.calls.Call.TheVariants as calls
use Rattle.task_machine.specs.declared.calls.Reply.{Reply}
use Rattle.task_machine.specs.declared.calls.Reply.TheVariants as replies
use Rattle.task_machine.specs.declared.calls.Entry.{Entry}
use Rattle.task_machine.specs.Task.{resting, gone, put, in_hands, in_draw, in_run, is_boxed, seen_of, woken, flagged, got, taken, dropped, IsValidTask}

-- the state of the machine: how many workers there are, and the state of each task
pub record State : Type 0 where
  pub workers : ℕ
  pub tasks : List TaskState

-- the state of task i; what is no task rests
abbrev pub task_at : State → ℕ → TaskState
task_at s i = slice_index_or s.tasks i resting

-- the machine with another state of task i
abbrev pub put_task : State → ℕ → TaskState → State
put_task s i t = record s { tasks = slice_set s.tasks i t }

-- the task that a call names, or the first of the group that it names
abbrev pub subject : Call → ℕ
subject (calls.Wake i f) = i.0
subject (calls.Kill i) = i.0
subject (calls.Post i b) = i.0
subject (calls.Get g) = 64 * g
subject (calls.Draw i) = i.0
subject (calls.Take i) = i.0
subject (calls.DropRun i) = i.0
subject (calls.Retire i) = i.0

-- whether a call is about task i: it names it, or gets its group
abbrev pub is_about : ℕ → Call → Bool
is_about i (calls.Get g) = i / 64 == g
is_about i c = i == subject c

-- whether there is a task i
abbrev pub is_task : State → ℕ → Bool
is_task s i = nat_lt i (length s.tasks)

-- whether there is a box b, and a caller b: one for each worker, and one more
abbrev pub is_box : State → ℕ → Bool
is_box s b = nat_lt b (s.workers + 1)

-- what a call must name beside its caller and its task: a reason, a box, or a worker as the caller
abbrev pub names : State → CallerId → Call → Bool
names s k (calls.Wake i f) = not (f == 0)
names s k (calls.Post i b) = is_box s b
names s k (calls.Get g) = nat_lt k.0 s.workers
names s k c = true

-- whether all that caller k names in a call is there
abbrev pub is_named : State → CallerId → Call → Bool
is_named s k c = is_box s k.0 && (is_task s (subject c) && names s k c)

-- column "needs": whether caller k, of w workers, may make the call where its task is at this place
abbrev pub needs : ℕ → CallerId → Call → Place → Bool
needs w k (calls.Wake i f) p = true
needs w k (calls.Kill i) p = true
needs w k (calls.Post i b) p = in_hands k p
needs w k (calls.Get g) p = true
needs w k (calls.Draw i) p = is_boxed w p
needs w k (calls.Take i) p = in_hands k p || in_draw k p
needs w k (calls.DropRun i) p = in_run k p
needs w k (calls.Retire i) p = in_hands k p || (in_draw k p || in_run k p)

-- the task can be taken once more: its number of takes has room
abbrev pub HasRoom : TaskState → Type 0
HasRoom t = t.takes < 2 ^ 48 - 1

-- only a take needs room
abbrev pub Roomy : Call → TaskState → Type 0
Roomy (calls.Take i) t = HasRoom t
Roomy c t = Unit {0}

-- column "change": what a call of caller k makes of a task that it is about
abbrev pub changed : CallerId → Call → TaskState → TaskState
changed k (calls.Wake i f) t = woken k f t
changed k (calls.Kill i) t = flagged k t
changed k (calls.Post i b) t = put (places.Boxed b) t
changed k (calls.Get g) t = got k t
changed k (calls.Draw i) t = put (places.Drawn k) t
changed k (calls.Take i) t = taken k t
changed k (calls.DropRun i) t = dropped k t
changed k (calls.Retire i) t = gone

-- what becomes of task i in a call of caller k
abbrev pub moved : CallerId → Call → ℕ → TaskState → TaskState
moved k c i t = if is_about i c then changed k c t else t

-- a list with each item changed by its place, counted from n on
abbrev pub each : (ℕ → TaskState → TaskState) → ℕ → List TaskState → List TaskState
each f n [] = []
each f n (t ∷ ts) = f n t ∷ each f (suc n) ts

-- the state after a call of caller k
abbrev pub after : State → CallerId → Call → State
after s k c = record s { tasks = each (moved k c) 0 s.tasks }

-- a test as a bit
abbrev pub bit : Bool → ℕ
bit true = 1
bit false = 0

-- n is the word of group g of box b: bit j tells whether task 64 * g + j of the list is in the box
abbrev pub IsBoxIn : List TaskState → ℕ → ℕ → ℕ → Type 0
IsBoxIn ts b g n =
    (n < 2 ^ 64) × ((j : ℕ) → j < 64 → bit_at n j ≡ bit (is_boxed b (slice_index_or ts (64 * g + j) resting).place))

-- the same in a state
abbrev pub IsBox : State → ℕ → ℕ → ℕ → Type 0
IsBox s b g n = IsBoxIn s.tasks b g n

-- column "reply": r is the answer to a call of caller k; where nothing else is said, what the call saw of its task
abbrev pub IsReply : State → CallerId → Call → Reply → Type 0
IsReply s k (calls.Post i b) r = r ≡ replies.Done
IsReply s k (calls.Get g) r = (n : ℕ) × (r ≡ replies.Group n) × IsBox s k.0 g n
IsReply s k (calls.Draw i) r = r ≡ replies.Done
IsReply s k c r = r ≡ replies.Task (seen_of (task_at s (subject c)))

-- whether the task that a call names is where the call needs it
abbrev pub fits : State → CallerId → Call → Bool
fits s k c = needs s.workers k c (task_at s (subject c)).place

-- the machine allows the entry: its names are there, its task is where it must be and has room, and
-- the reply is the right one
pub record Allowed (s : State) (e : Entry) : Type 0 where
  pub named : is_named s e.caller e.call ≡ true
  pub fit : fits s e.caller e.call ≡ true
  pub room : Roomy e.call (task_at s (subject e.call))
  pub reply : IsReply s e.caller e.call e.reply

-- one step of the machine
pub record Step (old : State) (e : Entry) (new : State) : Type 0 where
  pub allowed : Allowed old e
  pub state : new ≡ after old e.caller e.call

-- each task's number of takes has room
abbrev pub AllRoom : State → Type 0
AllRoom s = (i : ℕ) → HasRoom (task_at s i)

-- each task's state is valid
abbrev pub IsValid : State → Type 0
IsValid s = (i : ℕ) → IsValidTask (task_at s i)

-- the number whose bits tell which of n tasks, from task i on, are in box b
unfoldable pub mask_of : State → ℕ → ℕ → ℕ → ℕ
mask_of s b i zero = 0
mask_of s b i (suc n) = bit (is_boxed b (task_at s i).place) + 2 * mask_of s b (suc i) n

-- the reply to a call of caller k, computed
abbrev pub reply_of : State → CallerId → Call → Reply
reply_of s k (calls.Post i b) = replies.Done
reply_of s k (calls.Get g) = replies.Group (mask_of s k.0 (64 * g) 64)
reply_of s k (calls.Draw i) = replies.Done
reply_of s k c = replies.Task (seen_of (task_at s (subject c)))
