use Rattle.eb_arena.proofs.Frame.{kept}
use Rattle.eb_arena.proofs.laws.changes_elsewhere_keep.Goals as goal

pub returns : goal.returns
returns c = kept
