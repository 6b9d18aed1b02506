use Rattle.std.proofs.Common.{ap, ◌∙◌}
use Rattle.std.proofs.lemmas.List.{set-set}
use Rattle.eb_arena.specs.Parts.{with_element}
use Rattle.eb_arena.proofs.arena.Arena.set.Goals as goal

pub returns : goal.returns
returns c =
    c.set_same_key.ensures
    ∙ (ap (λ a. with_element a c.args.index c.args.element) c.set_key.ensures
    ∙ ap (λ es. record c.args.self.now { elements = es }) (set-set c.args.self.now.elements c.args.index _ c.args.element))
