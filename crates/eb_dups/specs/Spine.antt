-- Trees of equal keys and their right spines (docs/TREES.md, "Equal keys").
use Rattle.std.specs.Prelude.{◌≡◌, ℕ, ◌+◌, ◌-◌, ◌^◌, ◌<◌, ◌==◌, if◌then◌else◌, pos, negsuc, unsigned_abs, List, [], ◌∷◌, ◌++◌, length, Option, Some}
use Rattle.eb_arena.specs.declared.links.Target.{Target}
use Rattle.eb_arena.specs.declared.links.Target.TheVariants as targets
use Rattle.eb_arena.specs.declared.links.Place.{Place}
use Rattle.eb_arena.specs.Parts.{Parts, element_at}
use Rattle.eb_arena.specs.Shape.{Tree, tip, fork, items, Keys, Hangs, Split, Shape}
use Rattle.eb_arena.specs.Way.{Step, from_left, from_right, plug, Leads}
use Rattle.eb_dups.specs.Grown.{Grows, with_tree}

-- a leaf or a node of equal keys
abbrev pub IsTwins : Tree → Type 0
IsTwins (tip e k) = Unit {0}
IsTwins (fork i (pos b) l r) = ⊥
IsTwins (fork i (negsuc n) l r) = Unit {0}

-- the spine value: the sum of 2 ^ (-bit - 1) over the node and those reached from it by right links
abbrev pub spine_value : Tree → ℕ
spine_value (tip e k) = 0
spine_value (fork i (pos b) l r) = 0
spine_value (fork i (negsuc n) l r) = 2 ^ n + spine_value r

-- how many nodes the right spine has
abbrev pub spine_length : Tree → ℕ
spine_length (tip e k) = 0
spine_length (fork i (pos b) l r) = 0
spine_length (fork i (negsuc n) l r) = spine_length r + 1

-- the key of the first leaf
abbrev pub first_key : Tree → ℕ
first_key (tip e k) = k
first_key (fork i b l r) = first_key l

-- the spine value of all of a key in a tree; 0 where the tree has none of it
abbrev pub spine_of : ℕ → Tree → ℕ
spine_of key (tip e k) = 0
spine_of key (fork i (pos b) l r) = spine_of key l + spine_of key r
spine_of key (fork i (negsuc n) l r) = if first_key l == key then 2 ^ n + spine_value r else 0

-- the depth of a tree of equal keys: minus the bit of its node, and 0 for a leaf
abbrev pub depth : Tree → ℕ
depth (tip e k) = 0
depth (fork i b l r) = unsigned_abs b

-- the depth that is read at a target
abbrev pub depth_of : Parts → Target → ℕ
depth_of a targets.Nothing = 0
depth_of a (targets.Leaf i) = 0
depth_of a (targets.Node i) = unsigned_abs (element_at a i).bit

-- the lowest node of the way branches at a bit of the keys
abbrev pub IsWhole : List Step → Type 0
IsWhole [] = Unit {0}
IsWhole (from_left i (pos b) r ∷ w) = Unit {0}
IsWhole (from_left i (negsuc n) r ∷ w) = ⊥
IsWhole (from_right i (pos b) l ∷ w) = Unit {0}
IsWhole (from_right i (negsuc n) l ∷ w) = ⊥

-- the head of all of a key in a root's tree
pub record KeyHead (a : Parts) (head : Target) (key : ℕ) : Type 0 where
  pub trees : ℕ → Option Tree
  pub root : ℕ
  pub way : List Step
  pub place : Place
  pub tree : Tree
  pub shape : Shape a trees
  pub exists : root < length a.links
  pub tree_is : trees root ≡ Some (plug way tree)
  pub leads : Leads a root place way
  pub stands : Hangs a head place tree
  pub whole : IsWhole way
  pub twins : IsTwins tree
  pub keys : Keys (λ x. x ≡ key) tree

-- the spine value of what stands there has room for one more
abbrev pub MayRise : Parts → Target → Type 0
MayRise a head = (place : Place) (tree : Tree) → Hangs a head place tree → spine_value tree < 2 ^ 63 - 1

-- the head of the key after an insertion: the entry's node where each depth of the spine was taken, and else the head as it was
abbrev pub head_after : Target → Tree → ℕ → Target
head_after head tree entry = if spine_value tree + 1 == 2 ^ depth tree then targets.Node entry else head

-- the tree of the key after an insertion: the entry stands at its end, its node is the new one, and the spine value rose by one
pub record TwinAdded (a z : Parts) (trees : ℕ → Option Tree) (root : ℕ) (way : List Step) (head : Target) (tree : Tree) (key entry : ℕ) : Type 0 where
  pub after : Tree
  pub grows : Grows tree entry key after
  pub elements : length z.elements ≡ length a.elements
  pub roots : length z.links ≡ length a.links
  pub shape : Shape z (with_tree trees root (Some (plug way after)))
  pub items_are : items after ≡ items tree ++ record { key = key; entry = entry } ∷ []
  pub spine : spine_value after ≡ spine_value tree + 1
  pub twins : IsTwins after
  pub keys : Keys (λ x. x ≡ key) after
  pub place : Place
  pub leads : Leads z root place way
  pub stands : Hangs z (head_after head tree entry) place after

-- the way of steps up along a right spine
abbrev pub IsSpine : List Step → Type 0
IsSpine [] = Unit {0}
IsSpine (from_left i b r ∷ d) = ⊥
IsSpine (from_right i (pos b) l ∷ d) = ⊥
IsSpine (from_right i (negsuc n) l ∷ d) = IsSpine d

-- between a tree and the node above it there is room for a depth
abbrev pub HasGap : List Step → Tree → Type 0
HasGap [] s = Unit {0}
HasGap (from_left i b r ∷ d) s = ⊥
HasGap (from_right i (pos b) l ∷ d) s = ⊥
HasGap (from_right i (negsuc n) l ∷ d) s = depth s < n

-- a target is a tree of equal keys
pub record IsTwinTree (a : Parts) (target : Target) : Type 0 where
  pub place : Place
  pub tree : Tree
  pub stands : Hangs a target place tree
  pub split : Split tree
  pub twins : IsTwins tree

-- the tree on a right spine above which a new node goes in: below it the depths fall by one each
pub record IsSlot (a : Parts) (head slot : Target) : Type 0 where
  pub place : Place
  pub tree : Tree
  pub stands : Hangs a head place tree
  pub split : Split tree
  pub steps : List Step
  pub part : Tree
  pub part_place : Place
  pub part_stands : Hangs a slot part_place part
  pub part_is : tree ≡ plug steps part
  pub spine : IsSpine steps
  pub leads : (q : ℕ) (w : List Step) → Leads a q place w → Leads a q part_place (steps ++ w)
  pub gap : HasGap steps part
  pub twins : IsTwins part
  pub full : spine_value part + 1 ≡ 2 ^ depth part
