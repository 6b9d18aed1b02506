use Rattle.std.proofs.Common.{◌<◌, length, filter, sym, ap, ◌∙◌, subst}
use Rattle.std.specs.Prelude.{nat_le}
use Rattle.sched_base.specs.KeyedList.{first_entry}
use Rattle.eb_arena.specs.Shape.{HasShape, list_of}
use Rattle.eb32_core.proofs.Standing.{Stood, root_fits, from_is}
use Rattle.eb32_core.proofs.keyed.ForestKeyedLists.lookup_ge.Goals as goal

pub lookup_ge-requires-clause-exists : goal.lookup_ge-requires-clause-exists
lookup_ge-requires-clause-exists c =
    let s : Stood c.args.self.now = record { counts = c.arena.ensures.counts; shape = subst HasShape c.arena.ensures.same c.arena.ensures.shape } in
    subst (λ a. c.args.root < length a.links) (sym c.arena.ensures.same) (root_fits _ _ s c.requires)

pub returns : goal.returns
returns c =
    let s : Stood c.args.self.now = record { counts = c.arena.ensures.counts; shape = subst HasShape c.arena.ensures.same c.arena.ensures.shape } in
    from_is _ _ _ _ s c.requires (c.lookup_ge.ensures.answer ∙ ap (λ a. first_entry (filter (λ x. nat_le c.args.key x.key) (list_of a c.args.root))) c.arena.ensures.same)
