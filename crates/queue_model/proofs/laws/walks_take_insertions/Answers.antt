use Rattle.queue_model.proofs.Window.{walks_take}
use Rattle.queue_model.proofs.laws.walks_take_insertions.Goals as goal

pub returns : goal.returns
returns c = walks_take
