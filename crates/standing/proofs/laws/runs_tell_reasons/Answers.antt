use Rattle.standing.proofs.Lawful.{reasons_all}
use Rattle.standing.proofs.laws.runs_tell_reasons.Goals as goal

pub returns : goal.returns
returns c = reasons_all
