use Rattle.standing.proofs.Lawful.{runs_firm}
use Rattle.standing.proofs.laws.runs_stand_firm.Goals as goal

pub returns : goal.returns
returns c = runs_firm
