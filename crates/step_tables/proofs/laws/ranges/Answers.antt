use Rattle.step_tables.proofs.RangeLaws.{range_of_sound}
use Rattle.step_tables.proofs.laws.ranges.Goals as goal

pub returns : goal.returns
returns c = range_of_sound
