use Rattle.eb_arena.proofs.Unique.{nodes_once}
use Rattle.eb_arena.proofs.laws.nodes_stand_once.Goals as goal

pub returns : goal.returns
returns c = nodes_once
