-- What an entry is for the task, or the group, that it is about (docs/WEAVE.md, "The index").
use Rattle.std.specs.Prelude.{◌≡◌, ℕ, ◌+◌, ◌*◌, ◌%◌, ◌^◌, ◌<◌, ◌⊎◌, Bool, true, false, ◌==◌, if◌then◌else◌, List}
use Rattle.std.specs.Int.{bit_at}
use Rattle.task_machine.specs.declared.task.Seen.{Seen}
use Rattle.task_machine.specs.declared.task.Seen.TheVariants as views
use Rattle.task_machine.specs.declared.calls.Call.{Call}
use Rattle.task_machine.specs.declared.calls.Call.TheVariants as calls
use Rattle.task_machine.specs.declared.calls.Reply.{Reply}
use Rattle.task_machine.specs.declared.calls.Reply.TheVariants as replies
use Rattle.task_machine.specs.declared.calls.Entry.{Entry}
use Rattle.task_machine.specs.Step.{State, task_at}
use Rattle.task_machine.specs.Task.{seen_of}
use Rattle.task_machine.specs.declared.task.Place.TheVariants as places
use Rattle.task_machine.specs.Event.{Change, wakes, kills, takes, Event, sees, event_at}
use Rattle.history_weave.specs.declared.kinds.Aim.{Aim}
use Rattle.history_weave.specs.declared.kinds.Aim.TheVariants as aims
use Rattle.history_weave.specs.declared.kinds.Kind.{Kind}
use Rattle.history_weave.specs.declared.kinds.Kind.TheVariants as kinds
use Rattle.history_weave.specs.Places.{none}
use Rattle.history_weave.specs.Rule.{is_quiet, Lets, Holds, TellsTakes, IsLastDraw}

-- what a look is to change; drops and retirements are as quiet as takes
abbrev pub change_of : Aim → Change
change_of (aims.Wake f) = wakes f
change_of aims.Kill = kills
change_of aims.Lead = takes

-- a look at task t with this reply
abbrev pub look : ℕ → Change → Reply → Kind
look t c (replies.Task x) = kinds.Look t x (is_quiet x c)
look t c r = kinds.Apart

-- a get of group g with this reply
abbrev pub get : ℕ → Reply → Kind
get g (replies.Group n) = kinds.Get g
get g r = kinds.Apart

-- what an entry with this call and this reply is
abbrev pub kind : Call → Reply → Kind
kind (calls.Wake i f) r = look i.0 (wakes f) r
kind (calls.Kill i) r = look i.0 kills r
kind (calls.Post i b) r = kinds.Post i.0 b
kind (calls.Get g) r = get g r
kind (calls.Draw i) r = kinds.Draw i.0
kind (calls.Take i) r = look i.0 takes r
kind (calls.DropRun i) r = look i.0 takes r
kind (calls.Retire i) r = look i.0 takes r

-- an entry of this kind is a look that saw x and changes nothing
abbrev pub LooksQuietly : Seen → Kind → Type 0
LooksQuietly x (kinds.Look t y q) = (q ≡ true) × (y ≡ x)
LooksQuietly x κ = ⊥

-- a get's reply holds this task of its group
abbrev pub HoldsTask : ℕ → Reply → Type 0
HoldsTask i (replies.Group n) = bit_at n (i % 64) ≡ 1
HoldsTask i r = ⊥

-- both are live, with as many takes
abbrev pub SameTakes : Seen → Seen → Type 0
SameTakes views.Gone y = ⊥
SameTakes (views.Live st p b m) views.Gone = ⊥
SameTakes (views.Live st p b m) (views.Live su q c n) = m ≡ n

-- a look's reply has as many takes as are seen now
abbrev pub SawTakesOf : Reply → Seen → Type 0
SawTakesOf (replies.Task x) y = SameTakes x y
SawTakesOf r y = ⊥

-- whether an entry looks at task i
abbrev pub is_look : Event → Bool
is_look (sees x c) = true
is_look v = false

abbrev pub looks_at : ℕ → Entry → Bool
looks_at i e = is_look (event_at i e)

-- whether an entry is a get of group g
abbrev pub is_get : ℕ → Kind → Bool
is_get g (kinds.Get h) = g == h
is_get g κ = false

abbrev pub gathers_at : ℕ → Entry → Bool
gathers_at g e = is_get g (kind e.call e.reply)

-- what an entry of this kind names is there, among so many tasks and boxes
abbrev pub KindNamed : ℕ → ℕ → Kind → Type 0
KindNamed n boxes (kinds.Look t x q) = t < n
KindNamed n boxes (kinds.Post t b) = (t < n) × (b < boxes)
KindNamed n boxes (kinds.Get g) = 64 * g < n
KindNamed n boxes (kinds.Draw t) = t < n
KindNamed n boxes kinds.Apart = Unit {0}

-- the machine is as an allowed entry of this kind finds it
abbrev pub KindSeen : State → Kind → Type 0
KindSeen s (kinds.Look t x q) = seen_of (task_at s t) ≡ x
KindSeen s (kinds.Draw t) = (task_at s t).place ≡ places.Boxed s.workers
KindSeen s κ = Unit {0}

-- where these entries are left, an entry of caller k of this kind that is allowed may go
abbrev pub KindGoes : (ℕ → List Entry) → State → ℕ → Kind → Type 0
KindGoes logs s k (kinds.Look t x q) = (q ≡ true) ⊎ ((j : ℕ) → Lets t x (logs j))
KindGoes logs s k (kinds.Post t b) = Holds t (logs b)
KindGoes logs s k (kinds.Get g) = Unit {0}
KindGoes logs s k (kinds.Draw t) = TellsTakes t (task_at s t).takes (logs k) ⊎ IsLastDraw logs k t
KindGoes logs s k kinds.Apart = Unit {0}

-- a number that tells apart most of what looks can see
abbrev pub seen_mark : Seen → ℕ
seen_mark views.Gone = 0
seen_mark (views.Live st p b m) = p + 256 * (m % 2 ^ 48)

-- the mark of a look: that of what it saw, where it is quiet
abbrev pub look_mark : Seen → Bool → ℕ
look_mark x q = if q then seen_mark x else none

-- the mark of an entry of this kind
abbrev pub kind_mark : Kind → ℕ
kind_mark (kinds.Look t x q) = look_mark x q
kind_mark κ = none
