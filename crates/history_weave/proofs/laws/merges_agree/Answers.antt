use Rattle.history_weave.proofs.Merges.{IsMerge-one_end}
use Rattle.history_weave.proofs.laws.merges_agree.Goals as goal

pub returns : goal.returns
returns c = IsMerge-one_end
