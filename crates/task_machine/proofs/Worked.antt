-- Histories of one task that are legal, and near ones that are not.
use Rattle.std.proofs.Common.{ℕ, Bool, true, false, List, [], ◌∷◌, ◌++◌, refl}
use Rattle.sched_base.specs.declared.names.TaskId.{TaskId}
use Rattle.task_machine.specs.declared.task.Stand.{Stand}
use Rattle.task_machine.specs.declared.task.Stand.TheVariants as stands
use Rattle.task_machine.specs.declared.task.Seen.TheVariants as views
use Rattle.task_machine.specs.declared.task.TaskState.{TaskState}
use Rattle.task_machine.specs.declared.calls.Call.{Call}
use Rattle.task_machine.specs.declared.calls.Call.TheVariants as calls
use Rattle.task_machine.specs.declared.calls.Reply.{Reply}
use Rattle.task_machine.specs.declared.calls.Reply.TheVariants as replies
use Rattle.task_machine.specs.declared.calls.Entry.{Entry}
use Rattle.task_machine.specs.Task.{resting, seated}
use Rattle.task_machine.specs.Step.{State, mask_of}
use Rattle.task_machine.specs.History.{Legal}
use Rattle.task_machine.proofs.Replay.{Legal-replayed, replayed-legal}

-- one worker and this one task
abbrev alone : TaskState → State
alone t = record { workers = 1; tasks = t ∷ [] }

abbrev task : TaskId
task = record { 0 = 0 }

-- an entry of caller k
abbrev by : ℕ → Call → Reply → Entry
by k c r = record { caller = record { 0 = k }; call = c; reply = r }

-- a task that is not gone was seen
abbrev saw : Stand → ℕ → Bool → ℕ → Reply
saw st n b m = replies.Task (views.Live st n b m)

-- a wake of a running task leaves the duty with the runner
abbrev wake_in_run : List Entry
wake_in_run =
    by 1 (calls.Wake task 8) (saw stands.Rest 0 false 0)
    ∷ by 1 (calls.Post task 0) replies.Done
    ∷ by 0 (calls.Get 0) (replies.Group 1)
    ∷ by 0 (calls.Take task) (saw stands.Queued 8 false 0)
    ∷ by 1 (calls.Wake task 4) (saw stands.Runs 0 false 1)
    ∷ by 0 (calls.DropRun task) (saw stands.Runs 4 false 1)
    ∷ by 0 (calls.Take task) (saw stands.Queued 4 false 1)
    ∷ by 0 (calls.DropRun task) (saw stands.Runs 0 false 2)
    ∷ []

wake_in_run-legal : Legal (alone resting) wake_in_run
unfolding mask_of
wake_in_run-legal = Legal-replayed (alone resting) wake_in_run refl refl

-- a killed task is retired by its runner, and a later wake sees that it is gone
abbrev kill_in_run : List Entry
kill_in_run =
    by 1 (calls.Wake task 8) (saw stands.Rest 0 false 0)
    ∷ by 1 (calls.Post task 0) replies.Done
    ∷ by 0 (calls.Get 0) (replies.Group 1)
    ∷ by 0 (calls.Take task) (saw stands.Queued 8 false 0)
    ∷ by 1 (calls.Kill task) (saw stands.Runs 0 false 1)
    ∷ by 1 (calls.Wake task 4) (saw stands.Runs 0 true 1)
    ∷ by 0 (calls.DropRun task) (saw stands.Runs 4 true 1)
    ∷ by 0 (calls.Retire task) (saw stands.Queued 4 true 1)
    ∷ by 1 (calls.Wake task 4) (replies.Task views.Gone)
    ∷ []

kill_in_run-legal : Legal (alone resting) kill_in_run
unfolding mask_of
kill_in_run-legal = Legal-replayed (alone resting) kill_in_run refl refl

-- of two wakes of a task at rest the first sees rest, and the second what the first left; only the
-- first caller has the task in its hands
abbrev two_wakes : Reply → List Entry
two_wakes second =
    by 0 (calls.Wake task 4) (saw stands.Rest 0 false 0)
    ∷ by 1 (calls.Wake task 4) second
    ∷ by 0 (calls.Take task) (saw stands.Queued 4 false 0)
    ∷ []

two_wakes-legal : Legal (alone resting) (two_wakes (saw stands.Queued 4 false 0))
two_wakes-legal = Legal-replayed (alone resting) (two_wakes (saw stands.Queued 4 false 0)) refl refl

two_wakes-not_legal : Legal (alone resting) (two_wakes (saw stands.Rest 0 false 0)) → ⊥
two_wakes-not_legal h =
    let same = replayed-legal (alone resting) (two_wakes (saw stands.Rest 0 false 0)) h in cc

-- the calls of the script whose timer fires past the wrap of the ticks, with the reasons of its last take
abbrev wrap_around : ℕ → List Entry
wrap_around reasons =
    by 0 (calls.Get 0) (replies.Group 1)
    ∷ by 0 (calls.Take task) (saw stands.Queued 1 false 0)
    ∷ by 0 (calls.DropRun task) (saw stands.Runs 0 false 1)
    ∷ by 0 (calls.Get 0) (replies.Group 0)
    ∷ by 0 (calls.Get 0) (replies.Group 0)
    ∷ by 0 (calls.Get 0) (replies.Group 0)
    ∷ by 0 (calls.Wake task 2) (saw stands.Rest 0 false 1)
    ∷ by 0 (calls.Take task) (saw stands.Queued reasons false 1)
    ∷ by 0 (calls.Kill task) (saw stands.Runs 0 false 2)
    ∷ by 0 (calls.DropRun task) (saw stands.Runs 0 true 2)
    ∷ by 0 (calls.Retire task) (saw stands.Queued 0 true 2)
    ∷ []

wrap_around-legal : Legal (alone (seated 0 resting)) (wrap_around 2)
unfolding mask_of
wrap_around-legal = Legal-replayed (alone (seated 0 resting)) (wrap_around 2) refl refl

wrap_around-not_legal : Legal (alone (seated 0 resting)) (wrap_around 4) → ⊥
unfolding mask_of
wrap_around-not_legal h =
    let same = replayed-legal (alone (seated 0 resting)) (wrap_around 4) h in cc

-- a task in the shared box is drawn by one caller, who takes it
abbrev drawn_and_taken : ℕ → List Entry
drawn_and_taken k =
    by 1 (calls.Draw task) replies.Done
    ∷ by 0 (calls.Get 0) (replies.Group 0)
    ∷ by k (calls.Take task) (saw stands.Queued 1 false 0)
    ∷ []

drawn_and_taken-legal : Legal (alone (seated 1 resting)) (drawn_and_taken 1)
unfolding mask_of
drawn_and_taken-legal = Legal-replayed (alone (seated 1 resting)) (drawn_and_taken 1) refl refl

-- nobody else may take it
drawn_and_taken-not_legal : Legal (alone (seated 1 resting)) (drawn_and_taken 0) → ⊥
drawn_and_taken-not_legal h = let fit = h.1.1.0.fit in cc

-- what is not in the shared box is not drawn
draw_of_own-not_legal : Legal (alone (seated 0 resting)) (drawn_and_taken 1) → ⊥
draw_of_own-not_legal h = let fit = h.0.fit in cc

-- one round of a task that wakes itself, which finds what the round before left
abbrev self_wake : ℕ → ℕ → ℕ → ℕ → List Entry
self_wake word reasons m n =
    by 0 (calls.Get 0) (replies.Group word)
    ∷ by 0 (calls.Take task) (saw stands.Queued reasons false m)
    ∷ by 0 (calls.Wake task 64) (saw stands.Runs 0 false n)
    ∷ by 0 (calls.DropRun task) (saw stands.Runs 64 false n)
    ∷ []

abbrev self_wakes : List Entry
self_wakes = self_wake 1 1 0 1 ++ self_wake 0 64 1 2 ++ self_wake 0 64 2 3

self_wakes-legal : Legal (alone (seated 0 resting)) self_wakes
unfolding mask_of
self_wakes-legal = Legal-replayed (alone (seated 0 resting)) self_wakes refl refl

-- a task that was never woken is in nobody's hands
early_take-not_legal : Legal (alone resting) (by 0 (calls.Take task) (saw stands.Rest 0 false 0) ∷ []) → ⊥
early_take-not_legal h = let fit = h.0.fit in cc
