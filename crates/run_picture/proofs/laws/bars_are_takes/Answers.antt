use Rattle.run_picture.proofs.Taken.{bars_are_takes}
use Rattle.run_picture.proofs.laws.bars_are_takes.Goals as goal

pub returns : goal.returns
returns c = bars_are_takes
