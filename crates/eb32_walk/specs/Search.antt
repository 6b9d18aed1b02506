-- What a descent by key finds (docs/TREES.md, "Look-ups").
use Rattle.std.specs.Prelude.{◌+◌, ◌*◌, [], ◌∷◌, ◌≡◌, ℕ, ◌/◌, ◌%◌, ◌^◌, ◌<◌, ◌==◌, if◌then◌else◌, ℤ, pos, negsuc, List, ◌++◌, length, Option, Some, None}
use Rattle.eb_arena.specs.declared.links.Side.{Side}
use Rattle.eb_arena.specs.declared.links.Side.TheVariants as sides
use Rattle.eb_arena.specs.declared.links.Target.{Target}
use Rattle.eb_arena.specs.declared.links.Target.TheVariants as targets
use Rattle.eb_arena.specs.declared.links.Place.{Place}
use Rattle.eb_arena.specs.Links.{index_of}
use Rattle.eb_arena.specs.Parts.{Parts, element_at, link_at}
use Rattle.eb_arena.specs.Shape.{Tree, items, Keys, AllKeys, Hangs, Split, IsRoot, list_of}
use Rattle.eb_arena.specs.Way.{Step, from_left, from_right, plug, before, after, Leads}

-- the key of the entry whose leaf or node is the target
abbrev pub own_key : Parts → Target → ℕ
own_key a target = (element_at a (index_of target)).key

-- the side of a node, of its bit and the key of its entry, to which a key belongs; none where they differ above the bit
abbrev pub turn_of : ℕ → ℤ → ℕ → Option Side
turn_of own (pos b) key =
    if key / 2 ^ b / 2 == own / 2 ^ b / 2 then (if key / 2 ^ b % 2 == 0 then Some sides.Left else Some sides.Right) else None
turn_of own (negsuc n) key = None

-- a part of a root's tree, all of whose keys lie as its own key does, with only smaller keys before it and only greater ones after it
pub record IsFound (a : Parts) (root key : ℕ) (target : Target) : Type 0 where
  pub place : Place
  pub way : List Step
  pub tree : Tree
  pub leads : Leads a root place way
  pub stands : Hangs a target place tree
  pub split : Split (plug way tree)
  pub list_is : list_of a root ≡ before way ++ (items tree ++ after way)
  pub low : AllKeys (λ x. x < key) (before way)
  pub high : AllKeys (λ x. key < x) (after way)
  pub same : own_key a target ≡ key → Keys (λ x. x ≡ key) tree
  pub less : own_key a target < key → Keys (λ x. x < key) tree
  pub more : key < own_key a target → Keys (λ x. key < x) tree

-- the key agrees with each step of a way, and the steps are at bits of the keys
abbrev pub Fits : ℕ → List Step → Type 0
Fits key [] = Unit {0}
Fits key (from_left i (pos b) r ∷ w) = ((m : ℕ) × ((key / 2 ^ b ≡ 2 * m) × Keys (λ x. x / 2 ^ b ≡ 2 * m + 1) r)) × Fits key w
Fits key (from_left i (negsuc n) r ∷ w) = ⊥
Fits key (from_right i (pos b) l ∷ w) = ((m : ℕ) × ((key / 2 ^ b ≡ 2 * m + 1) × Keys (λ x. x / 2 ^ b ≡ 2 * m) l)) × Fits key w
Fits key (from_right i (negsuc n) l ∷ w) = ⊥

-- a part of a root's tree, with only smaller keys before it and only greater ones after it
pub record Narrow (a : Parts) (root key : ℕ) (target : Target) : Type 0 where
  pub place : Place
  pub way : List Step
  pub tree : Tree
  pub leads : Leads a root place way
  pub stands : Hangs a target place tree
  pub split : Split (plug way tree)
  pub list_is : list_of a root ≡ before way ++ (items tree ++ after way)
  pub low : AllKeys (λ x. x < key) (before way)
  pub high : AllKeys (λ x. key < x) (after way)
  pub fits : Fits key way
  pub whole : IsRoot a root (Some (plug way tree))

-- no node turns the key further down from here
abbrev pub Stops : Parts → ℕ → Target → Type 0
Stops a key targets.Nothing = ⊥
Stops a key (targets.Leaf i) = Unit {0}
Stops a key (targets.Node i) = turn_of (element_at a i).key (element_at a i).bit key ≡ None

-- a descent came to the part where the key turns no further down; it visited each node of the way and the part
pub record Reaches (a : Parts) (root key old new : ℕ) (target : Target) : Type 0 where
  pub narrow : Narrow a root key target
  pub stops : Stops a key target
  pub visits : new ≡ old + (length narrow.way + 1)

-- a root is empty, and nothing was visited
pub record IsBare (a : Parts) (root old new : ℕ) : Type 0 where
  pub empty : link_at a root ≡ targets.Nothing
  pub none : new ≡ old
