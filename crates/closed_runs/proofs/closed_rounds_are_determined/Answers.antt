use Rattle.closed_runs.proofs.Rounds.{rounds_alike}
use Rattle.closed_runs.proofs.closed_rounds_are_determined.Goals as goal

pub returns : goal.returns
returns c = rounds_alike
