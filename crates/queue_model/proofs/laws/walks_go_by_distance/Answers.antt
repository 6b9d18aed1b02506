use Rattle.queue_model.proofs.Walk.{walked_by_distance}
use Rattle.queue_model.proofs.laws.walks_go_by_distance.Goals as goal

pub returns : goal.returns
returns c = walked_by_distance
