use Rattle.turn_steps.proofs.Turns.{turns}
use Rattle.turn_steps.proofs.laws.turns_are_rests.Goals as goal

pub returns : goal.returns
returns c = turns
