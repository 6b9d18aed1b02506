-- What is known of the part where a descent ended.
use Rattle.std.proofs.Common.{◌≡◌, ℕ, ◌+◌, ◌<◌, ◌≤◌, length, sym, ◌∙◌, subst}
use Rattle.eb_arena.specs.declared.links.Side.TheVariants as sides
use Rattle.eb_arena.specs.declared.links.Target.{Target}
use Rattle.eb_arena.specs.declared.links.Target.TheVariants as targets
use Rattle.eb_arena.specs.declared.links.Place.TheVariants as places
use Rattle.eb_arena.specs.Links.{index_of, place_index, place_side}
use Rattle.eb_arena.specs.Parts.{Parts, up_of}
use Rattle.eb_arena.specs.Shape.{Hangs}
use Rattle.eb_arena.proofs.Unique.{leads_somewhere, nothing_stands}
use Rattle.eb_dups.proofs.Ending.{up_of_is, place_bound}
use Rattle.eb_dups.proofs.Descent.{index_fits}
use Rattle.eb_dups.proofs.LeftOfRoot.{left_of_root}
use Rattle.eb32_core.specs.Landing.{IsLanding}

pub land_some : (a : Parts) (q key : ℕ) (part : Target) → IsLanding a q key part → part ≡ targets.Nothing → ⊥
land_some a q key part l e = nothing_stands a l.narrow.place l.narrow.tree (subst (λ y. Hangs a y l.narrow.place l.narrow.tree) e l.narrow.stands)

pub land_fits : (a : Parts) (q key : ℕ) (part : Target) → IsLanding a q key part → index_of part < length a.elements
land_fits a q key part l = index_fits a part l.narrow.place l.narrow.tree l.narrow.stands

pub land_hangs : (a : Parts) (q key : ℕ) (part : Target) → IsLanding a q key part → up_of a part ≡ places.Nowhere → ⊥
land_hangs a q key part l e = leads_somewhere a q l.narrow.place l.narrow.way l.narrow.leads (sym (up_of_is a part l.narrow.place l.narrow.tree l.narrow.stands) ∙ e)

pub land_place : (a : Parts) (q key : ℕ) (part : Target) → IsLanding a q key part → q < length a.links → place_index (up_of a part) < length a.elements + length a.links
land_place a q key part l f = subst (λ o. place_index o < length a.elements + length a.links) (sym (up_of_is a part l.narrow.place l.narrow.tree l.narrow.stands)) (place_bound a q l.narrow.place l.narrow.way l.narrow.leads f)

pub land_left : (a : Parts) (q key : ℕ) (part : Target) → IsLanding a q key part → length a.elements ≤ place_index (up_of a part) → place_side (up_of a part) ≡ sides.Left
land_left a q key part l =
    subst (λ o. length a.elements ≤ place_index o → place_side o ≡ sides.Left) (sym (up_of_is a part l.narrow.place l.narrow.tree l.narrow.stands)) (left_of_root a q l.narrow.place l.narrow.way l.narrow.leads)
