use Rattle.eb_arena.proofs.Frame.{moved}
use Rattle.eb_arena.proofs.laws.parts_move_whole.Goals as goal

pub returns : goal.returns
returns c = moved
