use Rattle.step_tables.proofs.Length.{whole_text}
use Rattle.step_tables.proofs.laws.whole.Goals as goal

pub returns : goal.returns
returns c = whole_text
