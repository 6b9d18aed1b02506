use Rattle.task_machine.proofs.Validity.{Step-valid}
use Rattle.task_machine.proofs.laws.steps_keep_validity.Goals as goal

pub returns : goal.returns
returns c = Step-valid
