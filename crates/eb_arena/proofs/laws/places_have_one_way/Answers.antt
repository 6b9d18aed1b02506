use Rattle.eb_arena.proofs.Unique.{one_way}
use Rattle.eb_arena.proofs.laws.places_have_one_way.Goals as goal

pub returns : goal.returns
returns c = one_way
