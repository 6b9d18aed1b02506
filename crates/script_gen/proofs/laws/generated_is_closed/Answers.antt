use Rattle.script_gen.proofs.Closed.{script_is_closed}
use Rattle.script_gen.proofs.laws.generated_is_closed.Goals as goal

pub returns : goal.returns
returns c = script_is_closed
