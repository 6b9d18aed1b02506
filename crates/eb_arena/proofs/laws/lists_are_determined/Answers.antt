use Rattle.eb_arena.proofs.Unique.{determined}
use Rattle.eb_arena.proofs.laws.lists_are_determined.Goals as goal

pub returns : goal.returns
returns c = determined
