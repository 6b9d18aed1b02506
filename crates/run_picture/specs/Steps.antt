-- What an entry means for the runs of tasks (docs/PICTURES.md, "Bars").
use Rattle.std.specs.Prelude.{ℕ, ◌==◌, ◌&&◌, Bool, true, false, if◌then◌else◌, nat_le, min}
use Rattle.sched_base.specs.declared.names.CallerId.{CallerId}
use Rattle.task_machine.specs.declared.task.Stand.TheVariants as stands
use Rattle.task_machine.specs.declared.task.Seen.{Seen}
use Rattle.task_machine.specs.declared.task.Seen.TheVariants as seens
use Rattle.task_machine.specs.declared.calls.Call.{Call}
use Rattle.task_machine.specs.declared.calls.Call.TheVariants as calls
use Rattle.task_machine.specs.declared.calls.Reply.{Reply}
use Rattle.task_machine.specs.declared.calls.Reply.TheVariants as replies
use Rattle.task_machine.specs.declared.calls.Entry.{Entry}
use Rattle.run_picture.specs.declared.bars.Rounds.{Rounds}
use Rattle.run_picture.specs.declared.steps.Step.{Step}
use Rattle.run_picture.specs.declared.steps.Step.TheVariants.{Takes, Raises, Drops, Retires, Goes}

-- the lane of a caller: its own for the first seventeen, and one for all others
abbrev pub lane_of : CallerId → ℕ
lane_of caller = min caller.0 17

-- whether a call found its task at rest
abbrev pub is_rest : Seen → Bool
is_rest seens.Gone = false
is_rest (seens.Live stands.Rest pending killed takes) = true
is_rest (seens.Live stands.Queued pending killed takes) = false
is_rest (seens.Live stands.Runs pending killed takes) = false

abbrev pub has_seen_rest : Reply → Bool
has_seen_rest (replies.Task seen) = is_rest seen
has_seen_rest (replies.Group mask) = false
has_seen_rest replies.Done = false

-- whether a call found its task killed
abbrev pub has_seen_killed : Reply → Bool
has_seen_killed (replies.Task seens.Gone) = false
has_seen_killed (replies.Task (seens.Live stand pending killed takes)) = killed
has_seen_killed (replies.Group mask) = false
has_seen_killed replies.Done = false

-- the reasons that a call found its task with
abbrev pub reasons_in : Reply → ℕ
reasons_in (replies.Task seens.Gone) = 0
reasons_in (replies.Task (seens.Live stand pending killed takes)) = pending
reasons_in (replies.Group mask) = 0
reasons_in replies.Done = 0

-- how often a call found its task taken
abbrev pub takes_in : Reply → ℕ
takes_in (replies.Task seens.Gone) = 0
takes_in (replies.Task (seens.Live stand pending killed takes)) = takes
takes_in (replies.Group mask) = 0
takes_in replies.Done = 0

-- what a call with its reply does to a run of its caller, or to a task at rest
abbrev pub step_by : Call → Reply → Step
step_by (calls.Take i) reply = Takes i
step_by (calls.Wake i reasons) reply = if has_seen_rest reply then Raises i else Goes
step_by (calls.Kill i) reply = if has_seen_rest reply then Raises i else Goes
step_by (calls.DropRun i) reply = if has_seen_killed reply then Goes else Drops
step_by (calls.Retire i) reply = Retires
step_by (calls.Post i box) reply = Goes
step_by (calls.Get group) reply = Goes
step_by (calls.Draw i) reply = Goes

abbrev pub step_of : Entry → Step
step_of e = step_by e.call e.reply

-- whether a round is shown
abbrev pub is_shown : Rounds → ℕ → Bool
is_shown rounds round = nat_le rounds.first round && nat_le round rounds.last
