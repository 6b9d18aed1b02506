use Rattle.task_machine.proofs.Events.{Legal-split, Legal-joined, task_at-led}
use Rattle.task_machine.proofs.laws.histories_are_by_task.Goals as goal

pub returns : goal.returns
returns c = record { split = Legal-split; joined = Legal-joined; task_after = task_at-led }
