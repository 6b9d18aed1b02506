-- A place of a tree that is at no node is the left side of a root.
use Rattle.std.proofs.Common.{◌≡◌, ℕ, ◌<◌, ◌≤◌, List, [], ◌∷◌, length, ap, arith}
use Rattle.eb_arena.specs.declared.links.Side.TheVariants as sides
use Rattle.eb_arena.specs.declared.links.Place.{Place}
use Rattle.eb_arena.specs.Links.{place_index, place_side}
use Rattle.eb_arena.specs.Parts.{Parts}
use Rattle.eb_arena.specs.Way.{Step, from_left, from_right, Leads}

pub left_of_root : (a : Parts) (q : ℕ) (place : Place) (w : List Step) → Leads a q place w → length a.elements ≤ place_index place → place_side place ≡ sides.Left
left_of_root a q place [] h f = ap place_side h
left_of_root a q place (from_left i b r ∷ w) h f = ap place_side h.0
left_of_root a q place (from_right i b l ∷ w) h f =
    let x : place_index place ≡ i = ap place_index h.0 in
    let y : i < length a.elements = h.1 in
    absurd (omega (arith, x, y, f))
