use Rattle.std.proofs.Common.{◌≡◌, ◌<◌, length, sym, ap, ◌∙◌, subst}
use Rattle.eb_arena.specs.Links.{index_of}
use Rattle.eb_dups.proofs.Moves.{hung_count}
use Rattle.eb32_core.specs.Removal.{Replaces}
use Rattle.eb32_core.proofs.Cost.{replace_few}
use Rattle.eb32_core.proofs.ReplaceWrites.{moved, replaced, written, written_place, written_left, linked_is}
use Rattle.eb32_core.proofs.ReplaceShape.{may_replaceable, replaces}
use Rattle.eb32_core.proofs.replacing.replace.Goals as goal

pub hang-requires-clause-some : goal.hang-requires-clause-some
hang-requires-clause-some g c = λ k. (may_replaceable _ _ _ c.requires.may c.requires.used).left_some (ap (λ m. m.left) (sym c.element-node.ensures) ∙ k)

pub hang-requires-clause-exists : goal.hang-requires-clause-exists
hang-requires-clause-exists g c =
    subst (λ m. index_of m.left < length c.args.arena.now.elements) (sym c.element-node.ensures) (may_replaceable _ _ _ c.requires.may c.requires.used).left_exists

pub hang-requires-2-clause-some : goal.hang-requires-2-clause-some
hang-requires-2-clause-some g c = λ k. (may_replaceable _ _ _ c.requires.may c.requires.used).right_some (ap (λ m. m.right) (sym c.element-node.ensures) ∙ k)

pub hang-requires-2-clause-exists : goal.hang-requires-2-clause-exists
hang-requires-2-clause-exists g c =
    let n : length c.hang.new.self.elements ≡ length c.args.arena.now.elements = ap (λ m. length m.elements) c.hang.ensures ∙ (hung_count c.args.arena.now c.element-node.result.left c.new.result).0 in
    subst (λ m. index_of c.element-node.result.right < m) (sym n) (subst (λ m. index_of m.right < length c.args.arena.now.elements) (sym c.element-node.ensures) (may_replaceable _ _ _ c.requires.may c.requires.used).right_exists)

pub put_link-requires-clause-exists : goal.put_link-requires-clause-exists
put_link-requires-clause-exists g c =
    written_place c.args.arena.now _ _ _ c.set_same_key.new.self c.args.entry c.args.heir c.element-node.result c.element-own.result _ _ _ (may_replaceable _ _ _ c.requires.may c.requires.used) c.element-node.ensures c.new.ensures c.hang.ensures c.new-2.ensures c.hang-2.ensures c.node.ensures c.hang-3.ensures c.element-own.ensures c.set_same_key.ensures

pub put_link-requires-clause-left : goal.put_link-requires-clause-left
put_link-requires-clause-left g c =
    written_left c.args.arena.now c.set_same_key.new.self c.args.entry c.args.heir c.element-node.result (may_replaceable _ _ _ c.requires.may c.requires.used) c.element-node.ensures (written c.args.arena.now _ _ _ c.set_same_key.new.self c.args.entry c.args.heir c.element-node.result c.element-own.result _ _ _ c.element-node.ensures c.new.ensures c.hang.ensures c.new-2.ensures c.hang-2.ensures c.node.ensures c.hang-3.ensures c.element-own.ensures c.set_same_key.ensures)

pub returns-clause-replaces : goal.returns-clause-replaces
returns-clause-replaces g c =
    let w : c.set_same_key.new.self ≡ moved c.args.arena.now c.args.entry c.args.heir = written c.args.arena.now _ _ _ c.set_same_key.new.self c.args.entry c.args.heir c.element-node.result c.element-own.result _ _ _ c.element-node.ensures c.new.ensures c.hang.ensures c.new-2.ensures c.hang-2.ensures c.node.ensures c.hang-3.ensures c.element-own.ensures c.set_same_key.ensures in
    let e : c.put_link.new.self ≡ replaced c.args.arena.now c.args.entry c.args.heir = c.put_link.ensures ∙ linked_is c.args.arena.now _ c.args.entry c.args.heir _ _ c.element-node.ensures c.node-2.ensures w in
    subst (λ z. Replaces c.args.arena.now z c.args.entry c.args.heir) (sym e) (replaces c.args.arena.now c.args.entry c.args.heir c.requires.used)

pub returns-clause-few : goal.returns-clause-few
returns-clause-few g c =
    replace_few c.args.arena.now _ _ _ c.set_same_key.new.self c.put_link.new.self c.args.entry c.args.heir _ _ _ _ _ _ _ _ _ c.hang.ensures c.hang-2.ensures c.node.ensures c.hang-3.ensures c.set_same_key.ensures c.put_link.ensures
