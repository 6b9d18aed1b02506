use Rattle.eb_arena.proofs.Rising.{ordered}
use Rattle.eb_arena.proofs.laws.lists_are_ordered.Goals as goal

pub returns : goal.returns
returns c = ordered
