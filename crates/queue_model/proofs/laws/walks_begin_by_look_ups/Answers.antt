use Rattle.queue_model.proofs.Walk.{first_walked}
use Rattle.queue_model.proofs.laws.walks_begin_by_look_ups.Goals as goal

pub returns : goal.returns
returns c = first_walked
