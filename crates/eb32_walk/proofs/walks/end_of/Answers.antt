use Rattle.std.proofs.Common.{sym, ap, ◌∙◌, subst}
use Rattle.eb_arena.specs.Shape.{list_below}
use Rattle.eb32_walk.specs.Ends.{IsTree, end_entry}
use Rattle.eb32_walk.proofs.Entries.{root_tree, empty_end, nothing_is, something_is}
use Rattle.eb32_walk.proofs.walks.end_of.Goals as goal

pub returns-then-is_none-clause-answer : goal.returns-then-is_none-clause-answer
returns-then-is_none-clause-answer c =
    sym (empty_end c.args.arena.now c.args.root c.args.side (sym c.root-link.ensures ∙ nothing_is _ _ c.is_none.ensures c.if-is_none.true))

pub end_below-requires : goal.end_below-requires
end_below-requires c =
    subst (IsTree c.args.arena.now) (sym c.root-link.ensures) (root_tree c.args.arena.now c.args.root c.requires.shape c.requires.exists (λ e. something_is _ _ c.is_none.ensures c.if-is_none.false (c.root-link.ensures ∙ e)))

pub returns-clause-answer : goal.returns-clause-answer
returns-clause-answer c =
    sym (ap (λ t. end_entry c.args.side (list_below c.args.arena.now t)) (sym c.root-link.ensures) ∙ c.end_below.ensures.answer)
