use Rattle.std.proofs.Common.{◌≡◌, ◌≢◌, ℕ, ◌<◌, length, sym, ap, ◌∙◌, subst}
use Rattle.sched_base.specs.KeyedList.{root_at, StandsIn, IsPlaced}
use Rattle.eb_arena.specs.declared.links.Place.TheVariants.{Nowhere}
use Rattle.eb_arena.specs.Parts.{element_at}
use Rattle.eb_arena.specs.Shape.{list_of}
use Rattle.eb32_walk.specs.Ends.{IsIn}
use Rattle.eb32_core.specs.Forest.{Grove, seen_of}
use Rattle.eb32_core.proofs.Standing.{tended, entries_are, roots_counted, items_are, placed_in}
use Rattle.eb32_core.proofs.forest.Forest.arena.Goals as goal

pub returns-clause-roots : goal.returns-clause-roots
returns-clause-roots c =
    let f : Grove = record { parts = c.self.inside.arena; made = c.self.inside.made.items } in
    subst (λ x. length (seen_of x).roots ≡ length f.parts.links) c.self.view_is (roots_counted f (tended f c.self.invariant))

pub returns-clause-entries : goal.returns-clause-entries
returns-clause-entries c =
    let f : Grove = record { parts = c.self.inside.arena; made = c.self.inside.made.items } in
    subst (λ x. (seen_of x).entries ≡ length f.parts.elements) c.self.view_is (entries_are f)

pub returns-clause-lists : goal.returns-clause-lists
returns-clause-lists c =
    let f : Grove = record { parts = c.self.inside.arena; made = c.self.inside.made.items } in
    subst (λ x. (root : ℕ) → root < length f.parts.links → (root_at root (seen_of x)).items ≡ list_of f.parts root) c.self.view_is (λ root h. items_are f root (tended f c.self.invariant) h)

pub returns-clause-placed : goal.returns-clause-placed
returns-clause-placed c =
    let f : Grove = record { parts = c.self.inside.arena; made = c.self.inside.made.items } in
    subst (λ x. (entry : ℕ) → IsPlaced entry (seen_of x) → IsIn f.parts entry) c.self.view_is (λ entry h. placed_in f entry (tended f c.self.invariant) h)

pub returns-clause-exists : goal.returns-clause-exists
returns-clause-exists c =
    let f : Grove = record { parts = c.self.inside.arena; made = c.self.inside.made.items } in
    subst (λ x. (root entry : ℕ) → StandsIn root entry (seen_of x) → entry < length f.parts.elements) c.self.view_is (λ root entry h. (placed_in f entry (tended f c.self.invariant) (root, h)).0)

pub returns-clause-hangs : goal.returns-clause-hangs
returns-clause-hangs c =
    let f : Grove = record { parts = c.self.inside.arena; made = c.self.inside.made.items } in
    subst (λ x. (root entry : ℕ) → StandsIn root entry (seen_of x) → (element_at f.parts entry).leaf_p ≢ Nowhere) c.self.view_is (λ root entry h. (placed_in f entry (tended f c.self.invariant) (root, h)).1)
