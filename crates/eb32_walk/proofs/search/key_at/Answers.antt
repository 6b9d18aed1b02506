use Rattle.std.proofs.Common.{◌<◌, length, subst, sym}
use Rattle.eb32_walk.proofs.Down.{some_target}
use Rattle.eb32_walk.proofs.Finding.{tree_fits}
use Rattle.eb32_walk.proofs.search.key_at.Goals as goal

pub index-requires : goal.index-requires
index-requires c = some_target _ _ c.requires

pub element-requires : goal.element-requires
element-requires c = subst (λ n. n < length c.args.arena.now.elements) (sym c.index.ensures) (tree_fits _ _ c.requires)
