use Rattle.std.proofs.Common.{ap, ◌∙◌}
use Rattle.eb32_walk.proofs.Entries.{next_same, next_other, next_no_dup}
use Rattle.eb32_walk.proofs.walks.next_dup.Goals as goal

pub returns-in_err-found-clause-answer : goal.returns-in_err-found-clause-answer
returns-in_err-found-clause-answer c q k xs ys f is =
    c.from_residual.ensures ∙ next_no_dup c.args.arena.now c.args.entry c.in_err-found.ensures.answer q k xs ys f is

pub returns-then-element-clause-answer : goal.returns-then-element-clause-answer
returns-then-element-clause-answer c =
    next_same c.args.arena.now c.args.entry c.in_ok-found.found _ _ c.requires.shape c.in_ok-found.ensures.answer (ap (λ e. e.key) c.element.ensures) (ap (λ e. e.key) c.element-2.ensures) c.if-element.true

pub returns-else-element-clause-answer : goal.returns-else-element-clause-answer
returns-else-element-clause-answer c =
    next_other c.args.arena.now c.args.entry c.in_ok-found.found _ _ c.requires.shape c.in_ok-found.ensures.answer (ap (λ e. e.key) c.element.ensures) (ap (λ e. e.key) c.element-2.ensures) c.if-element.false
