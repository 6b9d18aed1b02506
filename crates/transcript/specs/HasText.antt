-- Which entries and lines have a text (docs/TRANSCRIPT.md, "What has a text").
use Rattle.std.specs.Prelude.{◌<◌, ◌^◌}
use Rattle.transcript.specs.Types.{Seen, Call, Reply, Entry, Line}
use Rattle.task_machine.specs.declared.task.Seen.TheVariants as seen
use Rattle.task_machine.specs.declared.calls.Call.TheVariants as call
use Rattle.task_machine.specs.declared.calls.Reply.TheVariants as reply
use Rattle.transcript.specs.declared.lines.Line.TheVariants as line

-- the takes that a call saw are below 2 ^ 48
abbrev pub HasTextSeen : Seen → Type 0
HasTextSeen seen.Gone = Unit {0}
HasTextSeen (seen.Live s pending killed takes) = takes < 2 ^ 48

-- the answer tells of a task
abbrev pub TellsTask : Reply → Type 0
TellsTask (reply.Task s) = HasTextSeen s
TellsTask (reply.Group mask) = ⊥
TellsTask reply.Done = ⊥

-- the answer tells which tasks of a group were taken
abbrev pub TellsGroup : Reply → Type 0
TellsGroup (reply.Task s) = ⊥
TellsGroup (reply.Group mask) = Unit {0}
TellsGroup reply.Done = ⊥

-- the answer tells nothing
abbrev pub TellsNothing : Reply → Type 0
TellsNothing (reply.Task s) = ⊥
TellsNothing (reply.Group mask) = ⊥
TellsNothing reply.Done = Unit {0}

-- the answer is of the kind that the call has, and a wake has a reason
abbrev pub HasTextCall : Call → Reply → Type 0
HasTextCall (call.Wake i reasons) r = (0 < reasons) × TellsTask r
HasTextCall (call.Kill i) r = TellsTask r
HasTextCall (call.Post i box) r = TellsNothing r
HasTextCall (call.Get group) r = TellsGroup r
HasTextCall (call.Draw i) r = TellsNothing r
HasTextCall (call.Take i) r = TellsTask r
HasTextCall (call.DropRun i) r = TellsTask r
HasTextCall (call.Retire i) r = TellsTask r

-- an entry that has a text
abbrev pub HasTextEntry : Entry → Type 0
HasTextEntry e = HasTextCall e.call e.reply

-- the numbers of an answer are those of its type
abbrev pub FitsReply : Reply → Type 0
FitsReply (reply.Task seen.Gone) = Unit {0}
FitsReply (reply.Task (seen.Live s pending killed takes)) = pending < 128
FitsReply (reply.Group mask) = mask < 2 ^ 64
FitsReply reply.Done = Unit {0}

-- the numbers of a call are those of its type
abbrev pub FitsCall : Call → Type 0
FitsCall (call.Wake i reasons) = (i.0 < 2 ^ 32) × (reasons < 128)
FitsCall (call.Kill i) = i.0 < 2 ^ 32
FitsCall (call.Post i box) = (i.0 < 2 ^ 32) × (box < 2 ^ 32)
FitsCall (call.Get group) = group < 2 ^ 32
FitsCall (call.Draw i) = i.0 < 2 ^ 32
FitsCall (call.Take i) = i.0 < 2 ^ 32
FitsCall (call.DropRun i) = i.0 < 2 ^ 32
FitsCall (call.Retire i) = i.0 < 2 ^ 32

-- the numbers of an entry are those of its type
abbrev pub FitsEntry : Entry → Type 0
FitsEntry e = (e.caller.0 < 2 ^ 32) × FitsCall e.call × FitsReply e.reply

-- a line that has a text, with the numbers of its type
abbrev pub HasTextLine : Line → Type 0
HasTextLine (line.Round number tick) = (number < 2 ^ 32) × (tick < 2 ^ 32)
HasTextLine (line.Entry e) = FitsEntry e × HasTextEntry e
HasTextLine (line.End rest last) = last < 2 ^ 32
