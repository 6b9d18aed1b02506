use Rattle.std.proofs.Common.{◌≡◌, ℕ, None, Some, refl, sym, ap, ◌∙◌, subst, arith}
use Rattle.sched_base.specs.KeyedList.{StandsIn}
use Rattle.eb_arena.specs.Links.{is_nowhere}
use Rattle.eb32_core.specs.Forest.{Grove, seen_of}
use Rattle.eb32_walk.specs.Ends.{IsIn}
use Rattle.eb32_core.proofs.Standing.{tended, stands, out, nowhere_is, only, free_is}
use Rattle.eb32_core.proofs.forest.Forest.is_in.Goals as goal
use Rattle.eb32_core.proofs.forest.Forest.is_in.Goals.{then-entry-entries-via-then-entry-entries, then-entry-entries-via-else-entry-entries+then-is_none}

pub returns-then-entry-entries-clause-one : goal.returns-then-entry-entries-clause-one
returns-then-entry-entries-clause-one c =
    let f : Grove = record { parts = c.self.inside.arena; made = c.self.inside.made.items } in
    let v : f ≡ c.args.self.now = c.self.view_is in
    let away : IsIn f.parts c.args.entry → ⊥ = λ i. elim c.then-entry-entries.branch [
      | then-entry-entries-via-then-entry-entries w ↦ absurd (let x = i.0 in omega (arith, w.if-entry-entries.true, c.entries.ensures.count))
      | then-entry-entries-via-else-entry-entries+then-is_none w ↦ i.1 (nowhere_is _ (sym (w.is_none.ensures ∙ ap (λ x. is_nowhere x.leaf_p) w.element.ensures) ∙ w.if-is_none.true))
    ] in
    subst (λ x. (root : ℕ) → StandsIn root c.args.entry (seen_of x) → None ≡ Some root) v (out f c.args.entry (tended f c.self.invariant) away)

pub returns-clause-found : goal.returns-clause-found
returns-clause-found c =
    let f : Grove = record { parts = c.self.inside.arena; made = c.self.inside.made.items } in
    let v : f ≡ c.args.self.now = c.self.view_is in
    subst (λ x. StandsIn c.root_above.result c.args.entry (seen_of x)) v (stands f _ _ (tended f c.self.invariant) c.root_above.ensures.exists c.root_above.ensures.held)

pub returns-clause-one : goal.returns-clause-one
returns-clause-one c =
    let f : Grove = record { parts = c.self.inside.arena; made = c.self.inside.made.items } in
    let v : f ≡ c.args.self.now = c.self.view_is in
    subst (λ x. (root : ℕ) → StandsIn root c.args.entry (seen_of x) → Some c.root_above.result ≡ Some root) v (only f _ _ (tended f c.self.invariant) c.root_above.ensures.exists c.root_above.ensures.held)

pub returns-then-entry-entries-clause-free : goal.returns-then-entry-entries-clause-free
returns-then-entry-entries-clause-free c = free_is (seen_of c.args.self.now) c.args.entry None (returns-then-entry-entries-clause-one c) refl
