use Rattle.task_machine.proofs.Events.{Allowed-split, Allowed-joined, task_at-stepped}
use Rattle.task_machine.proofs.laws.entries_are_events.Goals as goal

pub returns : goal.returns
returns c = record { split = Allowed-split; joined = Allowed-joined; task_after = task_at-stepped }
