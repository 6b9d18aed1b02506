use Rattle.std.proofs.Common.{sym, ◌∙◌}
use Rattle.eb32_walk.proofs.Finding.{found_tree, lookup_yes, lookup_no}
use Rattle.eb32_walk.proofs.search.lookup.Goals as goal

pub key_at-requires : goal.key_at-requires
key_at-requires c = found_tree c.args.arena.now c.args.root c.args.key c.in_ok-part.part c.in_ok-part.ensures.found

pub end_below-requires : goal.end_below-requires
end_below-requires c = found_tree c.args.arena.now c.args.root c.args.key c.in_ok-part.part c.in_ok-part.ensures.found

pub returns-then-key_at-key-clause-answer : goal.returns-then-key_at-key-clause-answer
returns-then-key_at-key-clause-answer c =
    lookup_yes c.args.arena.now c.args.root c.args.key c.in_ok-part.part c.end_below.result c.in_ok-part.ensures.found (sym c.key_at.ensures ∙ c.if-key_at-key.true) c.end_below.ensures.answer

pub returns-else-key_at-key-clause-answer : goal.returns-else-key_at-key-clause-answer
returns-else-key_at-key-clause-answer c =
    lookup_no c.args.arena.now c.args.root c.args.key c.in_ok-part.part c.in_ok-part.ensures.found (λ e. c.if-key_at-key.false (c.key_at.ensures ∙ e))
