use Rattle.std.proofs.Common.{◌≡◌, ℕ, Some, sym, ap, subst}
use Rattle.sched_base.specs.KeyedList.{IsPlaced, StandsIn, root_at, key_of_entry}
use Rattle.eb32_core.specs.Forest.{Grove, seen_of}
use Rattle.eb32_core.proofs.Standing.{tended, placed_in, key_is}
use Rattle.eb32_core.proofs.forest.Forest.key_of.Goals as goal

pub element-requires : goal.element-requires
element-requires c =
    let f : Grove = record { parts = c.self.inside.arena; made = c.self.inside.made.items } in
    let v : f ≡ c.args.self.now = c.self.view_is in
    (placed_in f c.args.entry (tended f c.self.invariant) (subst (λ x. IsPlaced c.args.entry (seen_of x)) (sym v) c.requires)).0

pub returns : goal.returns
returns c =
    let f : Grove = record { parts = c.self.inside.arena; made = c.self.inside.made.items } in
    let v : f ≡ c.args.self.now = c.self.view_is in
    subst (λ x. (root : ℕ) → StandsIn root c.args.entry (seen_of x) → key_of_entry c.args.entry (root_at root (seen_of x)).items ≡ Some c.element.result.key) v (key_is f c.args.entry _ (tended f c.self.invariant) (ap (λ x. x.key) c.element.ensures))
