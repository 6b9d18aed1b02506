use Rattle.eb_arena.proofs.Unique.{stand_once}
use Rattle.eb_arena.proofs.laws.entries_stand_once.Goals as goal

pub returns : goal.returns
returns c = stand_once
