use Rattle.std.proofs.Common.{refl}
use Rattle.eb32_core.proofs.Cost.{unlink_few}
use Rattle.eb32_core.proofs.UnlinkReads.{reads, may_write, counts_same, counts_hung, part_stays, place_stays, place_left, read_unlinks, read_own}
use Rattle.eb32_core.proofs.unlinking.unlink.Goals as goal

pub hang-requires-3-clause-some : goal.hang-requires-3-clause-some
hang-requires-3-clause-some g c = (may_write (reads c.requires.shape c.requires.in_tree c.requires.below_node c.element-up.ensures c.index-freed.ensures c.beside-sibling.ensures c.above-above.ensures)).some

pub hang-requires-3-clause-exists : goal.hang-requires-3-clause-exists
hang-requires-3-clause-exists g c = part_stays c.beside-sibling.result (counts_hung _ _ (counts_hung _ _ (counts_same c.args.arena.now) c.hang.ensures) c.hang-2.ensures) (may_write (reads c.requires.shape c.requires.in_tree c.requires.below_node c.element-up.ensures c.index-freed.ensures c.beside-sibling.ensures c.above-above.ensures)).exists

pub put_link-requires-clause-some : goal.put_link-requires-clause-some
put_link-requires-clause-some g c = (may_write (reads c.requires.shape c.requires.in_tree c.requires.below_node c.element-up.ensures c.index-freed.ensures c.beside-sibling.ensures c.above-above.ensures)).above_some

pub put_link-requires-clause-exists : goal.put_link-requires-clause-exists
put_link-requires-clause-exists g c = place_stays c.above-above.result (counts_hung _ _ (counts_hung _ _ (counts_hung _ _ (counts_same c.args.arena.now) c.hang.ensures) c.hang-2.ensures) c.hang-3.ensures) (may_write (reads c.requires.shape c.requires.in_tree c.requires.below_node c.element-up.ensures c.index-freed.ensures c.beside-sibling.ensures c.above-above.ensures)).above_exists

pub put_link-requires-clause-left : goal.put_link-requires-clause-left
put_link-requires-clause-left g c = place_left c.above-above.result (counts_hung _ _ (counts_hung _ _ (counts_hung _ _ (counts_same c.args.arena.now) c.hang.ensures) c.hang-2.ensures) c.hang-3.ensures) (may_write (reads c.requires.shape c.requires.in_tree c.requires.below_node c.element-up.ensures c.index-freed.ensures c.beside-sibling.ensures c.above-above.ensures)).above_left

pub returns-clause-unlinks : goal.returns-clause-unlinks
returns-clause-unlinks g c =
    read_unlinks (reads c.requires.shape c.requires.in_tree c.requires.below_node c.element-up.ensures c.index-freed.ensures c.beside-sibling.ensures c.above-above.ensures) (record { none_is = refl; leaf_is = c.leaf.ensures; top_is = c.node.ensures; first = c.hang.ensures; second = c.hang-2.ensures; third = c.hang-3.ensures; fourth = c.put_link.ensures })

pub returns-clause-own : goal.returns-clause-own
returns-clause-own g c =
    read_own (reads c.requires.shape c.requires.in_tree c.requires.below_node c.element-up.ensures c.index-freed.ensures c.beside-sibling.ensures c.above-above.ensures) (record { none_is = refl; leaf_is = c.leaf.ensures; top_is = c.node.ensures; first = c.hang.ensures; second = c.hang-2.ensures; third = c.hang-3.ensures; fourth = c.put_link.ensures })

pub returns-clause-few : goal.returns-clause-few
returns-clause-few g c =
    unlink_few _ _ _ _ _ _ _ _ _ _ _ _ (record { none_is = refl; leaf_is = c.leaf.ensures; top_is = c.node.ensures; first = c.hang.ensures; second = c.hang-2.ensures; third = c.hang-3.ensures; fourth = c.put_link.ensures })
