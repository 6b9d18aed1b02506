-- What holds of every arena that has the shape (docs/TREES.md, "Laws").
use Rattle.std.specs.Prelude.{◌≡◌, ◌≢◌, ℕ, ◌<◌, List, ◌∷◌, ◌++◌, length, ℤ, Option, Some}
use Rattle.sched_base.specs.KeyedList.{KeyedItem, IsRising}
use Rattle.eb_arena.specs.declared.links.Side.TheVariants as sides
use Rattle.eb_arena.specs.declared.links.Target.{Target}
use Rattle.eb_arena.specs.declared.links.Target.TheVariants as targets
use Rattle.eb_arena.specs.declared.links.Place.{Place}
use Rattle.eb_arena.specs.declared.links.Place.TheVariants as places
use Rattle.eb_arena.specs.Parts.{Parts, element_at, hung}
use Rattle.eb_arena.specs.Shape.{Tree, tip, fork, items_of, Hangs, Shape, HasShape, InSome, HasLeaf, HasNode, list_of}
use Rattle.eb_arena.specs.Way.{Step, plug, Leads}

-- what the element of a leaf tells of the tree
pub record LeafTells (a : Parts) (place : Place) (i : ℕ) (t : Tree) : Type 0 where
  pub fits : i < length a.elements
  pub tree_is : t ≡ tip i (element_at a i).key
  pub hangs : (element_at a i).leaf_p ≡ place

-- what the element of a node tells of the tree
pub record NodeTells (a : Parts) (place : Place) (i : ℕ) (t : Tree) : Type 0 where
  pub fits : i < length a.elements
  pub left : Tree
  pub right : Tree
  pub tree_is : t ≡ fork i (element_at a i).bit left right
  pub hangs : (element_at a i).node_p ≡ place
  pub left_stands : Hangs a (element_at a i).left (places.Under i sides.Left) left
  pub right_stands : Hangs a (element_at a i).right (places.Under i sides.Right) right

-- reading one element tells the upper part of the tree that it is
abbrev pub ElementsTell : Type 0
ElementsTell =
    (a : Parts) (place : Place) (i : ℕ) (t : Tree) → (Hangs a (targets.Leaf i) place t → LeafTells a place i t) × (Hangs a (targets.Node i) place t → NodeTells a place i t)

-- the arena determines its trees, and a root's list is that of its tree
abbrev pub ListsAreDetermined : Type 0
ListsAreDetermined =
    (a : Parts) (ts us : ℕ → Option Tree) → Shape a ts → Shape a us → (q : ℕ) → q < length a.links → (ts q ≡ us q) × (list_of a q ≡ items_of (ts q))

-- the leaf of an entry is the same in both arenas
pub record SameLeaf (a z : Parts) (i : ℕ) : Type 0 where
  pub leaf_p : (element_at z i).leaf_p ≡ (element_at a i).leaf_p
  pub key : (element_at z i).key ≡ (element_at a i).key

-- the node is the same in both arenas
pub record SameNode (a z : Parts) (i : ℕ) : Type 0 where
  pub node_p : (element_at z i).node_p ≡ (element_at a i).node_p
  pub bit : (element_at z i).bit ≡ (element_at a i).bit
  pub left : (element_at z i).left ≡ (element_at a i).left
  pub right : (element_at z i).right ≡ (element_at a i).right

-- the leaves and nodes of the tree are the same in both arenas
abbrev pub SameOn : Parts → Parts → Tree → Type 0
SameOn a z (tip entry key) = SameLeaf a z entry
SameOn a z (fork i b l r) = SameNode a z i × SameOn a z l × SameOn a z r

-- a change of what is not in a tree leaves the tree as it was
abbrev pub ChangesElsewhereKeep : Type 0
ChangesElsewhereKeep =
    (a z : Parts) (target : Target) (place : Place) (t : Tree) → length z.elements ≡ length a.elements → SameOn a z t → Hangs a target place t → Hangs z target place t

-- a part whose link up is rewritten moves whole
abbrev pub PartsMoveWhole : Type 0
PartsMoveWhole =
    (a : Parts) (target : Target) (place next : Place) (t : Tree) → Hangs a target place t → Hangs (hung a target next) target next t

-- from one place one way leads up, to one root
abbrev pub PlacesHaveOneWay : Type 0
PlacesHaveOneWay =
    (a : Parts) (q r : ℕ) (place : Place) (w v : List Step) → Leads a q place w → Leads a r place v → (q ≡ r) × (w ≡ v)

-- two positions of an entry in the lists of two roots are one
pub record OnePosition (q r k m : ℕ) (xs ys us vs : List KeyedItem) : Type 0 where
  pub root : q ≡ r
  pub key : k ≡ m
  pub front : xs ≡ us
  pub back : ys ≡ vs

-- an entry stands at one position of one root's list
abbrev pub EntriesStandOnce : Type 0
EntriesStandOnce =
    (a : Parts) (q r e k m : ℕ) (xs ys us vs : List KeyedItem) → HasShape a → q < length a.links → r < length a.links → list_of a q ≡ xs ++ record { key = k; entry = e } ∷ ys → list_of a r ≡ us ++ record { key = m; entry = e } ∷ vs → OnePosition q r k m xs ys us vs

-- a node stands at one place of one root's tree
abbrev pub NodesStandOnce : Type 0
NodesStandOnce =
    (a : Parts) (ts : ℕ → Option Tree) (q r i : ℕ) (b c : ℤ) (w v : List Step) (left right low high : Tree) → Shape a ts → q < length a.links → r < length a.links → ts q ≡ Some (plug w (fork i b left right)) → ts r ≡ Some (plug v (fork i c low high)) → (q ≡ r) × (w ≡ v)

-- what is in a tree has a link up
abbrev pub PartsInTreesHang : Type 0
PartsInTreesHang =
    (a : Parts) (ts : ℕ → Option Tree) → Shape a ts → (i : ℕ) → (InSome a ts (HasLeaf i) → (element_at a i).leaf_p ≢ places.Nowhere) × (InSome a ts (HasNode i) → (element_at a i).node_p ≢ places.Nowhere)

-- keys never fall along a root's list
abbrev pub ListsAreOrdered : Type 0
ListsAreOrdered = (a : Parts) (q : ℕ) → HasShape a → q < length a.links → IsRising (list_of a q)
