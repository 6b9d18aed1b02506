use Rattle.task_machine.proofs.Replies.{Refused-not_allowed, Refused-one_cause}
use Rattle.task_machine.proofs.laws.refusals_are_exact.Goals as goal

pub returns : goal.returns
returns c = λ s e n r. (Refused-not_allowed s e n r, λ m q. Refused-one_cause s e m n q r)
