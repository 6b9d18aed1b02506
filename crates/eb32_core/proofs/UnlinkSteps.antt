-- A step of a way from a side of a node, and the tree that it makes of what hangs there.
use Rattle.std.proofs.Common.{◌≡◌, ℕ, ◌<◌, inl, inr, List, ◌∷◌, length, refl}
use Rattle.std.specs.Prelude.{ℤ}
use Rattle.eb_arena.specs.declared.links.Side.{Side}
use Rattle.eb_arena.specs.declared.links.Side.TheVariants as sides
use Rattle.eb_arena.specs.declared.links.Target.{Target}
use Rattle.eb_arena.specs.declared.links.Target.TheVariants as targets
use Rattle.eb_arena.specs.declared.links.Place.{Place}
use Rattle.eb_arena.specs.declared.links.Place.TheVariants as places
use Rattle.eb_arena.specs.declared.element.Element.{Element}
use Rattle.eb_arena.specs.Links.{opposite}
use Rattle.eb_arena.specs.Parts.{Parts, element_at, child, with_child}
use Rattle.eb_arena.specs.Shape.{Tree, Hangs, HasLeaf, HasNode}
use Rattle.eb_arena.specs.Way.{Step, from_left, from_right, fill, Leads}
use Rattle.eb_dups.proofs.Distinct.{NoShare, Distinct}
use Rattle.eb32_core.specs.Removal.{step, paired}

pub pair_near_leaf : (side : Side) (i x : ℕ) (b : ℤ) (t u : Tree) → HasLeaf x t → HasLeaf x (paired side i b t u)
pair_near_leaf sides.Left i x b t u h = inl h
pair_near_leaf sides.Right i x b t u h = inr h

pub pair_far_leaf : (side : Side) (i x : ℕ) (b : ℤ) (t u : Tree) → HasLeaf x u → HasLeaf x (paired side i b t u)
pair_far_leaf sides.Left i x b t u h = inr h
pair_far_leaf sides.Right i x b t u h = inl h

pub pair_near_node : (side : Side) (i x : ℕ) (b : ℤ) (t u : Tree) → HasNode x t → HasNode x (paired side i b t u)
pair_near_node sides.Left i x b t u h = inr (inl h)
pair_near_node sides.Right i x b t u h = inr (inr h)

pub pair_far_node : (side : Side) (i x : ℕ) (b : ℤ) (t u : Tree) → HasNode x u → HasNode x (paired side i b t u)
pair_far_node sides.Left i x b t u h = inr (inr h)
pair_far_node sides.Right i x b t u h = inr (inl h)

pub pair_top : (side : Side) (i x : ℕ) (b : ℤ) (t u : Tree) → x ≡ i → HasNode x (paired side i b t u)
pair_top sides.Left i x b t u h = inl h
pair_top sides.Right i x b t u h = inl h

-- nothing is twice in a node with its two sides
pub record Apart (i : ℕ) (t u : Tree) : Type 0 where
  pub share : NoShare t u
  pub near : HasNode i t → ⊥
  pub far : HasNode i u → ⊥
  pub near_distinct : Distinct t
  pub far_distinct : Distinct u

pub pair_apart : (side : Side) (i : ℕ) (b : ℤ) (t u : Tree) → Distinct (paired side i b t u) → Apart i t u
pair_apart sides.Left i b t u d = record { share = d.0; near = d.1; far = d.2; near_distinct = d.3; far_distinct = d.4 }
pair_apart sides.Right i b t u d = record { share = record { leaves = λ x h g. d.0.leaves x g h; nodes = λ x h g. d.0.nodes x g h }; near = d.2; far = d.1; near_distinct = d.4; far_distinct = d.3 }

-- what the element of a node says of its two sides
pub record PairStands (a : Parts) (side : Side) (i : ℕ) (b : ℤ) (t u : Tree) (target : Target) (place : Place) : Type 0 where
  pub is : target ≡ targets.Node i
  pub fits : i < length a.elements
  pub hangs : (element_at a i).node_p ≡ place
  pub bit : (element_at a i).bit ≡ b
  pub near : Hangs a (child side (element_at a i)) (places.Under i side) t
  pub far : Hangs a (child (opposite side) (element_at a i)) (places.Under i (opposite side)) u

pub pair_stands : (a : Parts) (side : Side) (i : ℕ) (b : ℤ) (t u : Tree) (target : Target) (place : Place) → Hangs a target place (paired side i b t u) → PairStands a side i b t u target place
pair_stands a sides.Left i b t u target place s = record { is = s.0; fits = s.1; hangs = s.2; bit = s.3; near = s.4; far = s.5 }
pair_stands a sides.Right i b t u target place s = record { is = s.0; fits = s.1; hangs = s.2; bit = s.3; near = s.5; far = s.4 }

pub stands_pair : (a : Parts) (side : Side) (i : ℕ) (b : ℤ) (t u : Tree) (target : Target) (place : Place) → PairStands a side i b t u target place → Hangs a target place (paired side i b t u)
stands_pair a sides.Left i b t u target place s = (s.is, s.fits, s.hangs, s.bit, s.near, s.far)
stands_pair a sides.Right i b t u target place s = (s.is, s.fits, s.hangs, s.bit, s.far, s.near)

-- where a step starts
pub record StepLeads (a : Parts) (q : ℕ) (side : Side) (i : ℕ) (b : ℤ) (u : Tree) (w : List Step) (place : Place) : Type 0 where
  pub place_is : place ≡ places.Under i side
  pub fits : i < length a.elements
  pub bit : (element_at a i).bit ≡ b
  pub far : Hangs a (child (opposite side) (element_at a i)) (places.Under i (opposite side)) u
  pub up : Leads a q (element_at a i).node_p w

pub step_leads : (a : Parts) (q : ℕ) (side : Side) (i : ℕ) (b : ℤ) (u : Tree) (w : List Step) (place : Place) → Leads a q place (step side i b u ∷ w) → StepLeads a q side i b u w place
step_leads a q sides.Left i b u w place l = record { place_is = l.0; fits = l.1; bit = l.2; far = l.3; up = l.4 }
step_leads a q sides.Right i b u w place l = record { place_is = l.0; fits = l.1; bit = l.2; far = l.3; up = l.4 }

-- an element with another part at a side of its node
pub record Rechild (side : Side) (t : Target) (d : Element) : Type 0 where
  pub leaf_p : (with_child side t d).leaf_p ≡ d.leaf_p
  pub key : (with_child side t d).key ≡ d.key
  pub node_p : (with_child side t d).node_p ≡ d.node_p
  pub bit : (with_child side t d).bit ≡ d.bit
  pub near : child side (with_child side t d) ≡ t
  pub far : child (opposite side) (with_child side t d) ≡ child (opposite side) d

pub rechild : (side : Side) (t : Target) (d : Element) → Rechild side t d
rechild sides.Left t d = record { leaf_p = refl; key = refl; node_p = refl; bit = refl; near = refl; far = refl }
rechild sides.Right t d = record { leaf_p = refl; key = refl; node_p = refl; bit = refl; near = refl; far = refl }
