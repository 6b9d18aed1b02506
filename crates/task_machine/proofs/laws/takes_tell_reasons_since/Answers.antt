use Rattle.task_machine.proofs.Reasons.{TakesTell-legal}
use Rattle.task_machine.proofs.laws.takes_tell_reasons_since.Goals as goal

pub returns : goal.returns
returns c = TakesTell-legal
