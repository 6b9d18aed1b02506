use Rattle.queue_model.proofs.Window.{walks_stay}
use Rattle.queue_model.proofs.laws.walks_stay_in_the_window.Goals as goal

pub returns : goal.returns
returns c = walks_stay
