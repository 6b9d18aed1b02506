use Rattle.step_tables.proofs.Length.{read_back}
use Rattle.step_tables.proofs.laws.read_back.Goals as goal

pub returns : goal.returns
returns c = read_back
