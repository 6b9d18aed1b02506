-- The state of one task, and what a call makes of it (docs/MODEL.md, "Task state" and "Machine step").
use Rattle.std.specs.Prelude.{◌≡◌, ℕ, ◌+◌, Bool, true, false, not, ◌||◌, ◌==◌, if◌then◌else◌, bit_or}
use Rattle.sched_base.specs.declared.names.CallerId.{CallerId}
use Rattle.sched_base.specs.ReasonNames.{init}
use Rattle.task_machine.specs.declared.task.Place.{Place}
use Rattle.task_machine.specs.declared.task.Place.TheVariants as places
use Rattle.task_machine.specs.declared.task.Stand.{Stand}
use Rattle.task_machine.specs.declared.task.Stand.TheVariants as stands
use Rattle.task_machine.specs.declared.task.Seen.{Seen}
use Rattle.task_machine.specs.declared.task.Seen.TheVariants as views
use Rattle.task_machine.specs.declared.task.TaskState.{TaskState}

-- a task at rest that was never taken
abbrev pub resting : TaskState
resting = record { place = places.Rest; pending = 0; killed = false; takes = 0 }

-- a task that is gone, which has nothing else
abbrev pub gone : TaskState
gone = record { place = places.Gone; pending = 0; killed = false; takes = 0 }

-- whether a task has something to run for: a reason that is pending, or the killed flag
abbrev pub is_busy : TaskState → Bool
is_busy t = not (t.pending == 0) || t.killed

-- the task at another place
abbrev pub put : Place → TaskState → TaskState
put p t = record t { place = p }

-- whether the place is the hands of caller k
abbrev pub in_hands : CallerId → Place → Bool
in_hands k (places.Hands j) = k.0 == j.0
in_hands k p = false

-- whether caller k has drawn the task
abbrev pub in_draw : CallerId → Place → Bool
in_draw k (places.Drawn j) = k.0 == j.0
in_draw k p = false

-- whether caller k runs the task
abbrev pub in_run : CallerId → Place → Bool
in_run k (places.Runs j) = k.0 == j.0
in_run k p = false

-- whether the place is box b
abbrev pub is_boxed : ℕ → Place → Bool
is_boxed b (places.Boxed c) = b == c
is_boxed b p = false

-- whether the place is the end of the task
abbrev pub is_gone : Place → Bool
is_gone places.Gone = true
is_gone p = false

-- what a call sees of a live task that stands so
abbrev pub live : Stand → TaskState → Seen
live st t = views.Live st t.pending t.killed t.takes

-- what a call sees of a task at this place
abbrev pub seen_at : Place → TaskState → Seen
seen_at places.Rest t = live stands.Rest t
seen_at (places.Hands j) t = live stands.Queued t
seen_at (places.Boxed b) t = live stands.Queued t
seen_at (places.Drawn j) t = live stands.Queued t
seen_at (places.Runs j) t = live stands.Runs t
seen_at places.Gone t = views.Gone

-- what a call sees of a task
abbrev pub seen_of : TaskState → Seen
seen_of t = seen_at t.place t

-- a task at rest comes into the hands of the caller that gives it something to run for
abbrev pub raised : CallerId → Place → Place
raised k places.Rest = places.Hands k
raised k p = p

-- the task after a wake by caller k with the reasons f
abbrev pub woken : CallerId → ℕ → TaskState → TaskState
woken k f t =
    if is_gone t.place then t else record t { place = raised k t.place; pending = bit_or t.pending f }

-- the task after a kill by caller k
abbrev pub flagged : CallerId → TaskState → TaskState
flagged k t = if is_gone t.place then t else record t { place = raised k t.place; killed = true }

-- the task after a get by caller k of a group that holds it
abbrev pub got : CallerId → TaskState → TaskState
got k t = if is_boxed k.0 t.place then put (places.Hands k) t else t

-- the task after caller k took it to run it
abbrev pub taken : CallerId → TaskState → TaskState
taken k t = record { place = places.Runs k; pending = 0; killed = false; takes = t.takes + 1 }

-- the task after its run by caller k has ended
abbrev pub dropped : CallerId → TaskState → TaskState
dropped k t = put (if is_busy t then places.Hands k else places.Rest) t

-- a task that the opening puts into box b, to be run for the first time
abbrev pub seated : ℕ → TaskState → TaskState
seated b t = record t { place = places.Boxed b; pending = init }

-- what a place asks of its task: nothing to run for at rest, something while it is queued
abbrev pub ValidAt : Place → TaskState → Type 0
ValidAt places.Rest t = is_busy t ≡ false
ValidAt (places.Hands j) t = is_busy t ≡ true
ValidAt (places.Boxed b) t = is_busy t ≡ true
ValidAt (places.Drawn j) t = is_busy t ≡ true
ValidAt (places.Runs j) t = Unit {0}
ValidAt places.Gone t = t ≡ gone

-- the task's state is valid
abbrev pub IsValidTask : TaskState → Type 0
IsValidTask t = ValidAt t.place t
