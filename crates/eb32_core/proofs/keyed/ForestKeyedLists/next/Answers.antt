use Rattle.std.proofs.Common.{◌≡◌, sym, subst}
use Rattle.sched_base.specs.KeyedList.{first_entry}
use Rattle.eb_arena.specs.Shape.{HasShape}
use Rattle.eb32_walk.specs.Ends.{IsIn, AtEntry}
use Rattle.eb32_core.proofs.Standing.{Stood, placed_in, next_is}
use Rattle.eb32_core.proofs.keyed.ForestKeyedLists.next.Goals as goal

pub next-requires-clause-in_tree : goal.next-requires-clause-in_tree
next-requires-clause-in_tree c =
    let s : Stood c.args.self.now = record { counts = c.arena.ensures.counts; shape = subst HasShape c.arena.ensures.same c.arena.ensures.shape } in
    subst (λ a. IsIn a c.args.entry) (sym c.arena.ensures.same) (placed_in _ _ s c.requires)

pub returns : goal.returns
returns c =
    let s : Stood c.args.self.now = record { counts = c.arena.ensures.counts; shape = subst HasShape c.arena.ensures.same c.arena.ensures.shape } in
    next_is _ _ _ s (subst (λ a. AtEntry a c.args.entry (λ xs k ys. c.next.result ≡ first_entry ys)) c.arena.ensures.same c.next.ensures.answer)
