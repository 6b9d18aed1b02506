use Rattle.std.proofs.Common.{sym, ap, subst}
use Rattle.eb32_walk.specs.Ends.{IsPlace}
use Rattle.eb32_walk.proofs.Entries.{entry_place, before_entry}
use Rattle.eb32_walk.proofs.walks.prev.Goals as goal

pub neighbour-requires : goal.neighbour-requires
neighbour-requires c =
    subst (IsPlace c.args.arena.now) (ap (λ e. e.leaf_p) (sym c.element.ensures)) (entry_place c.args.arena.now c.args.entry c.requires.shape c.requires.in_tree)

pub returns-clause-answer : goal.returns-clause-answer
returns-clause-answer c =
    before_entry c.args.arena.now c.args.entry c.neighbour.result c.requires.shape (λ q w t h p. c.neighbour.ensures.answer q w t (rw c.element.ensures h) p)
