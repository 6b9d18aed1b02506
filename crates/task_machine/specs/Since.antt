-- The reasons since a task's previous take (docs/MODEL.md, "Reasons since").
use Rattle.std.specs.Prelude.{◌≡◌, ℕ, Bool, true, false, ◌==◌, if◌then◌else◌, bit_or, List, [], ◌∷◌, ◌++◌}
use Rattle.std.specs.List.{list_any}
use Rattle.sched_base.specs.ReasonNames.{init}
use Rattle.task_machine.specs.declared.task.Seen.{Seen}
use Rattle.task_machine.specs.declared.task.Seen.TheVariants as views
use Rattle.task_machine.specs.declared.task.TaskState.{TaskState}
use Rattle.task_machine.specs.declared.calls.Call.{Call}
use Rattle.task_machine.specs.declared.calls.Call.TheVariants as calls
use Rattle.task_machine.specs.declared.calls.Reply.{Reply}
use Rattle.task_machine.specs.declared.calls.Reply.TheVariants as replies
use Rattle.task_machine.specs.declared.calls.Entry.{Entry}
use Rattle.task_machine.specs.Task.{resting, seated}
use Rattle.task_machine.specs.Step.{State, task_at}

-- the reasons that a call gives task i
abbrev pub wake_of : ℕ → Call → ℕ
wake_of i (calls.Wake j f) = if i == j.0 then f else 0
wake_of i c = 0

-- whether a call kills task i
abbrev pub is_kill : ℕ → Call → Bool
is_kill i (calls.Kill j) = i == j.0
is_kill i c = false

-- whether a call takes task i
abbrev pub is_take : ℕ → Call → Bool
is_take i (calls.Take j) = i == j.0
is_take i c = false

-- the union of the reasons of all wakes of task i
abbrev pub reasons_in : ℕ → List Entry → ℕ
reasons_in i [] = 0
reasons_in i (e ∷ es) = bit_or (wake_of i e.call) (reasons_in i es)

-- whether task i is killed
abbrev pub has_kill : ℕ → List Entry → Bool
has_kill i es = list_any (λ e. is_kill i e.call) es

-- whether task i is taken
abbrev pub has_take : ℕ → List Entry → Bool
has_take i es = list_any (λ e. is_take i e.call) es

-- the entries after the last take of task i, or all where there is none
abbrev pub since_take : ℕ → List Entry → List Entry
since_take i [] = []
since_take i (e ∷ es) = if has_take i es then since_take i es else (if is_take i e.call then es else e ∷ es)

-- the reasons with which the opening seats a task, if it is to be run at the start
abbrev pub first_reasons : Bool → ℕ
first_reasons true = init
first_reasons false = 0

-- the union of the reasons of all wakes of task i in the past after its last take, or after the
-- opening where there is none; in this second case with the reason init for an init task
abbrev pub reasons_since : (ℕ → Bool) → ℕ → List Entry → ℕ
reasons_since is_init i past =
    bit_or (if has_take i past then 0 else first_reasons (is_init i)) (reasons_in i (since_take i past))

-- whether task i was killed in the past after its last take, or after the opening
abbrev pub killed_since : ℕ → List Entry → Bool
killed_since i past = has_kill i (since_take i past)

-- the reply of a take has these reasons and this killed flag
abbrev pub TellsSeen : ℕ → Bool → Seen → Type 0
TellsSeen n b views.Gone = ⊥
TellsSeen n b (views.Live stand pending killed takes) = (pending ≡ n) × (killed ≡ b)

-- the same, of the whole reply
abbrev pub Tells : ℕ → Bool → Reply → Type 0
Tells n b (replies.Task seen) = TellsSeen n b seen
Tells n b (replies.Group bits) = ⊥
Tells n b replies.Done = ⊥

-- each take in the history has the reasons since the task's previous take, and the killed flag
-- exactly where a kill came since then
abbrev pub TakesTell : (ℕ → Bool) → List Entry → Type 0
TakesTell is_init es =
    (past : List Entry) (e : Entry) (more : List Entry) (i : ℕ) → es ≡ past ++ e ∷ more → is_take i e.call ≡ true → Tells (reasons_since is_init i past) (killed_since i past) e.reply

-- how the opening finds a task: seated in a box where it is an init task, else at rest
abbrev pub OpensAs : Bool → TaskState → Type 0
OpensAs true t = (b : ℕ) × (t ≡ seated b resting)
OpensAs false t = t ≡ resting

-- the state is an opening with these init tasks
abbrev pub IsOpening : (ℕ → Bool) → State → Type 0
IsOpening is_init s = (i : ℕ) → OpensAs (is_init i) (task_at s i)
