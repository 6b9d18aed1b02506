use Rattle.std.proofs.Common.{subst}
use Rattle.eb32_core.specs.Forest.{Grove, AreShort}
use Rattle.eb32_core.proofs.Groves.{are_short}
use Rattle.eb32_core.proofs.forest.Forest.stay_short.Goals as goal

pub returns : goal.returns
returns c =
    let f : Grove = record { parts = c.self.inside.arena; made = c.self.inside.made.items } in
    subst AreShort c.self.view_is (are_short f c.self.invariant)
