-- When the roots of an arena are trees, and which list each root stands for (docs/TREES.md, "The shape").
use Rattle.std.specs.Prelude.{◌≡◌, ◌≢◌, ℕ, zero, suc, ◌+◌, ◌*◌, ◌/◌, ◌^◌, ◌<◌, ℤ, pos, negsuc, List, [], ◌∷◌, ◌++◌, length, ◌⊎◌, Option, Some, None}
use Rattle.std.specs.Option.{IsSomeAnd}
use Rattle.sched_base.specs.KeyedList.{KeyedItem}
use Rattle.eb_arena.specs.declared.links.Side.TheVariants as sides
use Rattle.eb_arena.specs.declared.links.Target.{Target}
use Rattle.eb_arena.specs.declared.links.Target.TheVariants as targets
use Rattle.eb_arena.specs.declared.links.Place.{Place}
use Rattle.eb_arena.specs.declared.links.Place.TheVariants as places
use Rattle.eb_arena.specs.Parts.{Parts, element_at, link_at}

-- a tree by itself: a leaf with its entry and key, or a node with its index, its bit and two sides
pub data Tree : Type 0 where
  tip : (entry key : ℕ) → Tree
  fork : (index : ℕ) (bit : ℤ) (left right : Tree) → Tree

-- its items in order: those of the left side, and then those of the right side
abbrev pub items : Tree → List KeyedItem
items (tip entry key) = record { key = key; entry = entry } ∷ []
items (fork i b l r) = items l ++ items r

-- each key in the tree is as P says
abbrev pub Keys : (ℕ → Type 0) → Tree → Type 0
Keys P (tip entry key) = P key
Keys P (fork i b l r) = Keys P l × Keys P r

-- each key in the list is as P says
abbrev pub AllKeys : (ℕ → Type 0) → List KeyedItem → Type 0
AllKeys P [] = Unit {0}
AllKeys P (x ∷ xs) = P x.key × AllKeys P xs

-- the entry has a leaf in the tree
abbrev pub HasLeaf : ℕ → Tree → Type 0
HasLeaf e (tip entry key) = e ≡ entry
HasLeaf e (fork i b l r) = HasLeaf e l ⊎ HasLeaf e r

-- the node with this index is in the tree
abbrev pub HasNode : ℕ → Tree → Type 0
HasNode n (tip entry key) = ⊥
HasNode n (fork i b l r) = (n ≡ i) ⊎ (HasNode n l ⊎ HasNode n r)

-- a bit of a node: one of a key's 32 bits, or a negative number of 16 bits
abbrev pub IsBit : ℤ → Type 0
IsBit (pos b) = b < 32
IsBit (negsuc n) = n < 32768

-- if it is a node, its bit is negative and greater than negsuc n
abbrev pub IsBelow : ℕ → Tree → Type 0
IsBelow n (tip entry key) = Unit {0}
IsBelow n (fork i (pos b) l r) = ⊥
IsBelow n (fork i (negsuc m) l r) = m < n

-- bit b is the highest in which keys differ, 0 on the left and 1 on the right: what is above it is q in all
pub record DividesAt (b : ℕ) (l r : Tree) : Type 0 where
  pub q : ℕ
  pub left : Keys (λ k. k / 2 ^ b ≡ 2 * q) l
  pub right : Keys (λ k. k / 2 ^ b ≡ 2 * q + 1) r

-- all keys are k, and nodes directly below have a greater negative bit
pub record Equals (n : ℕ) (l r : Tree) : Type 0 where
  pub k : ℕ
  pub left : Keys (λ x. x ≡ k) l
  pub right : Keys (λ x. x ≡ k) r
  pub left_below : IsBelow n l
  pub right_below : IsBelow n r

-- what a node's bit says of its two sides
abbrev pub Divides : ℤ → Tree → Tree → Type 0
Divides (pos b) l r = DividesAt b l r
Divides (negsuc n) l r = Equals n l r

-- each node is above the leaf of its own entry, and its bit is right for its sides
abbrev pub Split : Tree → Type 0
Split (tip entry key) = Unit {0}
Split (fork i b l r) = (HasLeaf i l ⊎ HasLeaf i r) × IsBit b × Divides b l r × Split l × Split r

-- the target is the tree: its elements say the same, and the part on top hangs at the place
abbrev pub Hangs : Parts → Target → Place → Tree → Type 0
Hangs a target place (tip entry key) =
    (target ≡ targets.Leaf entry) × (entry < length a.elements) × ((element_at a entry).leaf_p ≡ place) × ((element_at a entry).key ≡ key)
Hangs a target place (fork i b l r) =
    (target ≡ targets.Node i) × (i < length a.elements) × ((element_at a i).node_p ≡ place) × ((element_at a i).bit ≡ b)
    × Hangs a (element_at a i).left (places.Under i sides.Left) l × Hangs a (element_at a i).right (places.Under i sides.Right) r

-- what hangs on a root has this place
abbrev pub root_place : Parts → ℕ → Place
root_place a q = places.Under (length a.elements + q) sides.Left

-- what hangs on the root: no tree, or this one
abbrev pub IsRoot : Parts → ℕ → Option Tree → Type 0
IsRoot a q None = link_at a q ≡ targets.Nothing
IsRoot a q (Some t) = Hangs a (link_at a q) (root_place a q) t × Split t

-- some root's tree has what P says
abbrev pub InSome : Parts → (ℕ → Option Tree) → (Tree → Type 0) → Type 0
InSome a ts P = (q : ℕ) × (q < length a.links × IsSomeAnd (ts q) P)

-- each root is the tree that ts names, and what hangs in no tree has no link up
pub record Shape (a : Parts) (ts : ℕ → Option Tree) : Type 0 where
  pub fits : length a.links + length a.elements < 2147483647
  pub roots : (q : ℕ) → q < length a.links → IsRoot a q (ts q)
  pub leaves : (i : ℕ) → i < length a.elements → (element_at a i).leaf_p ≢ places.Nowhere → InSome a ts (HasLeaf i)
  pub nodes : (i : ℕ) → i < length a.elements → (element_at a i).node_p ≢ places.Nowhere → InSome a ts (HasNode i)

-- each root of the arena is a tree
abbrev pub HasShape : Parts → Type 0
HasShape a = (ts : ℕ → Option Tree) × Shape a ts

-- the items found below a target by following links at most so many levels down
abbrev pub below : ℕ → Parts → Target → List KeyedItem
below zero a target = []
below (suc n) a targets.Nothing = []
below (suc n) a (targets.Leaf i) = record { key = (element_at a i).key; entry = i } ∷ []
below (suc n) a (targets.Node i) = below n a (element_at a i).left ++ below n a (element_at a i).right

-- the items found below a target; no tree has more levels, since bits fall on the way down
abbrev pub list_below : Parts → Target → List KeyedItem
list_below = below 32801

-- the list that a root stands for
abbrev pub list_of : Parts → ℕ → List KeyedItem
list_of a q = list_below a (link_at a q)

-- the items of a root's tree
abbrev pub items_of : Option Tree → List KeyedItem
items_of None = []
items_of (Some t) = items t
