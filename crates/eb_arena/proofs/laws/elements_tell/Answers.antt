use Rattle.eb_arena.proofs.Unique.{tells}
use Rattle.eb_arena.proofs.laws.elements_tell.Goals as goal

pub returns : goal.returns
returns c = tells
