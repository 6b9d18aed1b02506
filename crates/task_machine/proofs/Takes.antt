-- How the numbers of takes grow.
use Rattle.std.proofs.Common.{◌≡◌, ℕ, ◌+◌, ◌-◌, ◌^◌, ◌<◌, ◌≤◌, Bool, true, false, if◌then◌else◌, refl, arith, bit_or}
use Rattle.sched_base.specs.declared.names.CallerId.{CallerId}
use Rattle.task_machine.specs.declared.task.Place.TheVariants as places
use Rattle.task_machine.specs.declared.task.TaskState.{TaskState}
use Rattle.task_machine.specs.declared.calls.Call.{Call}
use Rattle.task_machine.specs.declared.calls.Call.TheVariants as calls
use Rattle.task_machine.specs.declared.calls.Entry.{Entry}
use Rattle.task_machine.specs.Task.{is_gone, is_boxed, put, raised, woken, flagged, got}
use Rattle.task_machine.specs.Step.{State, task_at, is_about, bit, changed, AllRoom, Allowed, Step}
use Rattle.task_machine.specs.History.{stepped}
use Rattle.task_machine.specs.Since.{is_take}
use Rattle.task_machine.proofs.After.{task_at-after, subject-lt}

-- both outcomes of a choice with the same takes
takes_if : (b : Bool) (t u : TaskState) (m : ℕ) → t.takes ≡ m → u.takes ≡ m → (if b then t else u).takes ≡ m
takes_if true t u m g h = g
takes_if false t u m g h = h

takes_woken : (k : CallerId) (f : ℕ) (t : TaskState) → (woken k f t).takes ≡ t.takes
takes_woken k f t = takes_if (is_gone t.place) t (record t { place = raised k t.place; pending = bit_or t.pending f }) t.takes refl refl

takes_flagged : (k : CallerId) (t : TaskState) → (flagged k t).takes ≡ t.takes
takes_flagged k t = takes_if (is_gone t.place) t (record t { place = raised k t.place; killed = true }) t.takes refl refl

takes_got : (k : CallerId) (t : TaskState) → (got k t).takes ≡ t.takes
takes_got k t = takes_if (is_boxed k.0 t.place) (put (places.Hands k) t) t t.takes refl refl

-- a call about a task raises its takes where it is a take of it
takes-changed : (k : CallerId) (c : Call) (i : ℕ) (t : TaskState) → is_about i c ≡ true → (changed k c t).takes ≤ t.takes + bit (is_take i c)
takes-changed k (calls.Wake j f) i t h = rw (takes_woken k f t) (omega arith)
takes-changed k (calls.Kill j) i t h = rw (takes_flagged k t) (omega arith)
takes-changed k (calls.Post j b) i t h = omega arith
takes-changed k (calls.Get g) i t h = rw (takes_got k t) (omega arith)
takes-changed k (calls.Draw j) i t h = omega arith
takes-changed k (calls.Take j) i t h = rw h (omega arith)
takes-changed k (calls.DropRun j) i t h = omega arith
takes-changed k (calls.Retire j) i t h = omega arith

takes-moved : (k : CallerId) (c : Call) (i : ℕ) (about : Bool) (t : TaskState) → is_about i c ≡ about → (if about then changed k c t else t).takes ≤ t.takes + bit (is_take i c)
takes-moved k c i true t h = takes-changed k c i t h
takes-moved k c i false t h = omega arith

-- a step raises the takes of a task by one at most, and only where it takes it
pub takes-step : (s : State) (e : Entry) (i : ℕ) → Allowed s e → (task_at (stepped s e) i).takes ≤ (task_at s i).takes + bit (is_take i e.call)
takes-step s e i a =
    rw (task_at-after s e.caller e.call i (subject-lt s e.caller e.call a.named)) (takes-moved e.caller e.call i (is_about i e.call) (task_at s i) refl)

-- no task was taken more than n times
abbrev pub TakesWithin : ℕ → State → Type 0
TakesWithin n s = (i : ℕ) → (task_at s i).takes ≤ n

bit-le : (b : Bool) → bit b ≤ 1
bit-le true = omega arith
bit-le false = omega arith

pub TakesWithin-step : (n : ℕ) (s : State) (e : Entry) → Allowed s e → TakesWithin n s → TakesWithin (n + 1) (stepped s e)
TakesWithin-step n s e a h i = omega (arith, takes-step s e i a, bit-le (is_take i e.call), h i)

pub TakesWithin-after : (n : ℕ) (old : State) (e : Entry) (new : State) → Step old e new → TakesWithin n old → TakesWithin (n + 1) new
TakesWithin-after n old e new step h i = rw step.state (TakesWithin-step n old e step.allowed h i)

pub AllRoom-within : (n : ℕ) (s : State) → n < 2 ^ 48 - 1 → TakesWithin n s → AllRoom s
AllRoom-within n s l h i = omega (arith, h i)
