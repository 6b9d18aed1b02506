use Rattle.std.proofs.Common.{◌<◌, length, ap, ◌∙◌, subst, arith}
use Rattle.eb_arena.specs.Shape.{HasShape}
use Rattle.eb32_core.proofs.Standing.{Stood, root_counted}
use Rattle.eb32_core.proofs.tests.keeps_two_roots_apart.Goals as goal

pub asked-requires : goal.asked-requires
asked-requires g c =
    let s : Stood c.toggle_all.new.forest = record { counts = c.arena.ensures.counts; shape = subst HasShape c.arena.ensures.same c.arena.ensures.shape } in
    let two : 1 < c.roots.result = omega arith in
    root_counted _ _ _ s (c.roots.ensures.count ∙ ap (λ a. length a.links) c.arena.ensures.same) two
