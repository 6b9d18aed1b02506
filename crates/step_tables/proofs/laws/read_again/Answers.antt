use Rattle.step_tables.proofs.TextAgain.{text_again}
use Rattle.step_tables.proofs.laws.read_again.Goals as goal

pub returns : goal.returns
returns c = text_again
