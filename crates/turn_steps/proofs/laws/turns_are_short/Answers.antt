use Rattle.turn_steps.proofs.Hears.{turns_short}
use Rattle.turn_steps.proofs.laws.turns_are_short.Goals as goal

pub returns : goal.returns
returns c = turns_short
