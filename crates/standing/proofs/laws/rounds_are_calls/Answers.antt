use Rattle.standing.proofs.Lawful.{rounds_are}
use Rattle.standing.proofs.laws.rounds_are_calls.Goals as goal

pub returns : goal.returns
returns c = rounds_are
