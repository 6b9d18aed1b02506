use Rattle.task_machine.proofs.Own.{own-led}
use Rattle.task_machine.proofs.laws.own_calls_tell_places.Goals as goal

pub returns : goal.returns
returns c = own-led
