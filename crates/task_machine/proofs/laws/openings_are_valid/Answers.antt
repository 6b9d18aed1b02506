use Rattle.task_machine.proofs.Validity.{opening-valid}
use Rattle.task_machine.proofs.laws.openings_are_valid.Goals as goal

pub returns : goal.returns
returns c = opening-valid
