-- What an entry is for one task (docs/MODEL.md, "What an entry is for one task").
use Rattle.std.specs.Prelude.{◌≡◌, ◌≢◌, ℕ, ◌%◌, ◌^◌, ◌<◌, ◌⊎◌, true, ◌==◌, if◌then◌else◌, List, [], ◌∷◌}
use Rattle.std.specs.Int.{bit_at}
use Rattle.sched_base.specs.declared.names.CallerId.{CallerId}
use Rattle.task_machine.specs.declared.task.Place.{Place}
use Rattle.task_machine.specs.declared.task.Place.TheVariants as places
use Rattle.task_machine.specs.declared.task.Seen.{Seen}
use Rattle.task_machine.specs.declared.task.TaskState.{TaskState}
use Rattle.task_machine.specs.declared.calls.Call.{Call}
use Rattle.task_machine.specs.declared.calls.Call.TheVariants as calls
use Rattle.task_machine.specs.declared.calls.Reply.{Reply}
use Rattle.task_machine.specs.declared.calls.Reply.TheVariants as replies
use Rattle.task_machine.specs.declared.calls.Entry.{Entry}
use Rattle.task_machine.specs.Task.{gone, put, seen_of, woken, flagged, taken, dropped}
use Rattle.task_machine.specs.Step.{State, task_at, is_about, is_named, HasRoom}

-- what a call that looks at a task means to make of it
pub data Change : Type 0 where
  wakes : ℕ → Change
  kills : Change
  takes : Change
  drops : Change
  retires : Change

-- what an entry is for one task: nothing; a look at it, with what was seen; a post into a box; a get
-- of its group that takes it, or that leaves it where it is; a draw
pub data Event : Type 0 where
  apart : Event
  sees : Seen → Change → Event
  posts : ℕ → Event
  gets : Event
  misses : Event
  draws : Event

-- a call that looks at its task saw what its reply tells
abbrev pub looks : Change → Reply → Event
looks c (replies.Task x) = sees x c
looks c r = apart

-- whether a get took task i
abbrev pub gathers : ℕ → Reply → Event
gathers i (replies.Group n) = if bit_at n (i % 64) == 1 then gets else misses
gathers i r = apart

-- what a call that is about task i, with this reply, is for that task
abbrev pub event_of : ℕ → Call → Reply → Event
event_of i (calls.Wake j f) r = looks (wakes f) r
event_of i (calls.Kill j) r = looks kills r
event_of i (calls.Post j b) r = posts b
event_of i (calls.Get g) r = gathers i r
event_of i (calls.Draw j) r = draws
event_of i (calls.Take j) r = looks takes r
event_of i (calls.DropRun j) r = looks drops r
event_of i (calls.Retire j) r = looks retires r

-- what an entry is for task i
abbrev pub event_at : ℕ → Entry → Event
event_at i e = if is_about i e.call then event_of i e.call e.reply else apart

-- caller k may begin a run of a task at this place
abbrev pub Held : CallerId → Place → Type 0
Held k p = (p ≡ places.Hands k) ⊎ (p ≡ places.Drawn k)

-- caller k may make this change of a task at this place
abbrev pub MayChange : CallerId → Change → Place → Type 0
MayChange k (wakes f) p = Unit {0}
MayChange k kills p = Unit {0}
MayChange k takes p = Held k p
MayChange k drops p = p ≡ places.Runs k
MayChange k retires p = Held k p ⊎ (p ≡ places.Runs k)

-- only a take needs room
abbrev pub MayGrow : Change → TaskState → Type 0
MayGrow takes t = HasRoom t
MayGrow c t = Unit {0}

-- task t, in a machine of w workers, admits this event of caller k
abbrev pub Allows : ℕ → CallerId → Event → TaskState → Type 0
Allows w k apart t = Unit {0}
Allows w k (sees x c) t = (seen_of t ≡ x) × MayChange k c t.place × MayGrow c t
Allows w k (posts b) t = t.place ≡ places.Hands k
Allows w k gets t = (t.place ≡ places.Boxed k.0) × (k.0 < w)
Allows w k misses t = (t.place ≢ places.Boxed k.0) × (k.0 < w)
Allows w k draws t = t.place ≡ places.Boxed w

-- what a change by caller k makes of a task
abbrev pub altered : CallerId → Change → TaskState → TaskState
altered k (wakes f) t = woken k f t
altered k kills t = flagged k t
altered k takes t = taken k t
altered k drops t = dropped k t
altered k retires t = gone

-- the task after this event of caller k
abbrev pub next : CallerId → Event → TaskState → TaskState
next k apart t = t
next k (sees x c) t = altered k c t
next k (posts b) t = put (places.Boxed b) t
next k gets t = put (places.Hands k) t
next k misses t = t
next k draws t = put (places.Drawn k) t

-- the reply is of the kind that belongs to the call
abbrev pub HasKind : Call → Reply → Type 0
HasKind (calls.Post i b) r = r ≡ replies.Done
HasKind (calls.Get g) r = (n : ℕ) × (r ≡ replies.Group n) × (n < 2 ^ 64)
HasKind (calls.Draw i) r = r ≡ replies.Done
HasKind c r = (x : Seen) × (r ≡ replies.Task x)

-- the entry is formed: what it names is there, and its reply is of the right kind
abbrev pub IsFormed : State → Entry → Type 0
IsFormed s e = (is_named s e.caller e.call ≡ true) × HasKind e.call e.reply

-- each of the entries is formed
abbrev pub AllFormed : State → List Entry → Type 0
AllFormed s [] = Unit {0}
AllFormed s (e ∷ es) = IsFormed s e × AllFormed s es

-- each task of the machine admits what the entry is for it
abbrev pub Admits : State → Entry → Type 0
Admits s e = (i : ℕ) → Allows s.workers e.caller (event_at i e) (task_at s i)

-- task t, which is task i of w workers, admits what the entries are for it, one after another
abbrev pub LegalFor : ℕ → ℕ → TaskState → List Entry → Type 0
LegalFor w i t [] = Unit {0}
LegalFor w i t (e ∷ es) = Allows w e.caller (event_at i e) t × LegalFor w i (next e.caller (event_at i e) t) es

-- task i after the entries
abbrev pub led_for : ℕ → TaskState → List Entry → TaskState
led_for i t [] = t
led_for i t (e ∷ es) = led_for i (next e.caller (event_at i e) t) es
