use Rattle.std.proofs.Common.{sym, subst}
use Rattle.eb32_core.specs.Removal.{Uproots}
use Rattle.eb32_core.proofs.Cost.{clear_few}
use Rattle.eb32_core.proofs.UprootClear.{cleared_by, clears, place_exists, place_left}
use Rattle.eb32_core.proofs.removal.clear.Goals as goal

pub put_link-requires-clause-exists : goal.put_link-requires-clause-exists
put_link-requires-clause-exists c = place_exists c.args.arena.now _ c.args.entry _ _ c.requires.shape c.requires.in_tree c.element-up.ensures c.hang.ensures

pub put_link-requires-clause-left : goal.put_link-requires-clause-left
put_link-requires-clause-left c = place_left c.args.arena.now _ c.args.entry _ _ c.requires.shape c.requires.in_tree c.element-up.ensures c.hang.ensures

pub returns-clause-uproots : goal.returns-clause-uproots
returns-clause-uproots c =
    subst (λ z. Uproots c.args.arena.now z c.args.entry) (sym (cleared_by c.args.arena.now _ _ c.args.entry _ _ c.element-up.ensures c.leaf.ensures c.hang.ensures c.put_link.ensures)) (clears c.args.arena.now c.args.entry c.requires.alone)

pub returns-clause-few : goal.returns-clause-few
returns-clause-few c = clear_few _ _ _ _ _ _ _ _ c.leaf.ensures c.hang.ensures c.put_link.ensures
