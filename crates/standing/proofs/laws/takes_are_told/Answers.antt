use Rattle.standing.proofs.Lawful.{takes_all}
use Rattle.standing.proofs.laws.takes_are_told.Goals as goal

pub returns : goal.returns
returns c = takes_all
