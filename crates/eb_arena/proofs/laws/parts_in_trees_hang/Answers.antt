use Rattle.eb_arena.proofs.Unique.{parts_hang}
use Rattle.eb_arena.proofs.laws.parts_in_trees_hang.Goals as goal

pub returns : goal.returns
returns c = parts_hang
