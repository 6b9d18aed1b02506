use Rattle.std.proofs.Common.{◌<◌, length, sym, ap, ◌∙◌, subst}
use Rattle.sched_base.specs.KeyedList.{first_entry}
use Rattle.eb_arena.specs.Shape.{HasShape, list_of}
use Rattle.eb32_core.proofs.Standing.{Stood, root_fits, first_is}
use Rattle.eb32_core.proofs.keyed.ForestKeyedLists.first.Goals as goal

pub first-requires-clause-exists : goal.first-requires-clause-exists
first-requires-clause-exists c =
    let s : Stood c.args.self.now = record { counts = c.arena.ensures.counts; shape = subst HasShape c.arena.ensures.same c.arena.ensures.shape } in
    subst (λ a. c.args.root < length a.links) (sym c.arena.ensures.same) (root_fits _ _ s c.requires)

pub returns : goal.returns
returns c =
    let s : Stood c.args.self.now = record { counts = c.arena.ensures.counts; shape = subst HasShape c.arena.ensures.same c.arena.ensures.shape } in
    first_is _ _ _ s c.requires (c.first.ensures.answer ∙ ap (λ a. first_entry (list_of a c.args.root)) c.arena.ensures.same)
