use Rattle.task_machine.proofs.Validity.{seating-valid, dealt-valid}
use Rattle.task_machine.proofs.laws.seats_and_deals_keep_validity.Goals as goal

pub returns : goal.returns
returns c = λ s i b v. (seating-valid s i b v, λ d e. dealt-valid s i d b e v)
