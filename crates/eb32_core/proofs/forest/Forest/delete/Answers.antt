use Rattle.std.proofs.Common.{◌≡◌, ℕ, ◌+◌, length, sym, ap, subst, ◌∙◌, arith}
use Rattle.sched_base.specs.KeyedList.{StandsIn, IsPlaced, deleted_from}
use Rattle.eb32_core.specs.Forest.{Grove, InTrees, Lost, seen_of}
use Rattle.eb32_core.specs.Removal.{visits_of}
use Rattle.eb32_core.proofs.UprootShape.{visits_few}
use Rattle.eb32_core.proofs.Standing.{tended, placed_in}
use Rattle.eb32_core.proofs.Leaving.{left_tended, left_seen, lost}
use Rattle.eb32_core.proofs.forest.Forest.delete.Goals as goal

pub uproot-requires-clause-in_tree : goal.uproot-requires-clause-in_tree
uproot-requires-clause-in_tree g c =
    let f : Grove = record { parts = c.self.inside.arena; made = c.self.inside.made.items } in
    placed_in f c.args.entry (tended f c.self.invariant) (subst (λ x. IsPlaced c.args.entry (seen_of x)) (sym c.self.view_is) c.requires)

pub invariant_of-self : goal.invariant_of-self
invariant_of-self g c =
    let f : Grove = record { parts = c.self.inside.arena; made = c.self.inside.made.items } in
    left_tended f c.uproot.new.arena c.args.entry c.self.invariant (subst (λ x. IsPlaced c.args.entry (seen_of x)) (sym c.self.view_is) c.requires) c.uproot.ensures.uproots

pub returns-clause-deletes : goal.returns-clause-deletes
returns-clause-deletes g c =
    let f : Grove = record { parts = c.self.inside.arena; made = c.self.inside.made.items } in
    subst (λ x. (root : ℕ) → StandsIn root c.args.entry (seen_of x) → seen_of (record { parts = c.uproot.new.arena; made = f.made }) ≡ deleted_from root c.args.entry (seen_of x)) c.self.view_is (left_seen f c.uproot.new.arena c.args.entry c.self.invariant c.uproot.ensures.uproots)

pub returns-clause-trees : goal.returns-clause-trees
returns-clause-trees g c =
    let f : Grove = record { parts = c.self.inside.arena; made = c.self.inside.made.items } in
    subst (λ x. (root : ℕ) → StandsIn root c.args.entry (seen_of x) → InTrees x.parts c.uproot.new.arena (Lost (length x.parts.links) root c.args.entry)) c.self.view_is (λ root h. lost f c.uproot.new.arena c.args.entry c.self.invariant c.uproot.ensures.uproots root h)

pub returns-clause-visits : goal.returns-clause-visits
returns-clause-visits g c = c.uproot.ensures.visits ∙ ap (λ x. c.args.steps.now + visits_of x.parts c.args.entry) c.self.view_is

pub returns-clause-steps : goal.returns-clause-steps
returns-clause-steps g c = omega (arith, c.uproot.ensures.visits, visits_few c.self.inside.arena c.args.entry)
