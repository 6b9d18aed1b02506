use Rattle.task_machine.proofs.Histories.{History-one_end}
use Rattle.task_machine.proofs.laws.histories_have_one_end.Goals as goal

pub returns : goal.returns
returns c = History-one_end
