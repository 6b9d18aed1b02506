-- The forest: trees in one arena, and how many insertions were made into each (docs/TREES.md, "The forest").
use Rattle.std.specs.Prelude.{◌≡◌, ℕ, suc, ◌+◌, ◌^◌, ◌<◌, ◌≤◌, List, [], ◌∷◌, length, slice_index, Option, Some}
use Rattle.sched_base.specs.KeyedList.{KeyedList, KeyedRoots}
use Rattle.eb_arena.specs.Parts.{Parts}
use Rattle.eb_arena.specs.Shape.{Tree, Shape, list_of}
use Rattle.eb_arena.specs.Way.{Step, plug}
use Rattle.eb_dups.specs.Spine.{IsWhole, spine_length}
use Rattle.eb32_core.specs.Planted.{spine_in, SpinesIn, GrowsIn, Rises}
use Rattle.eb32_core.specs.Removal.{Loses}

-- the arena, and the insertions so far into each root
pub record Grove : Type 0 where
  pub parts : Parts
  pub made : List ℕ

-- the arena has the shape, and no spine value is above the insertions into its root
pub record IsTended (f : Grove) : Type 0 where
  pub counts : length f.made ≡ length f.parts.links
  pub trees : ℕ → Option Tree
  pub shape : Shape f.parts trees
  pub spines : (q : ℕ) → q < length f.parts.links → SpinesIn (slice_index f.made q) (trees q)

-- the keyed lists of the roots from a number on, each with its insertions
abbrev pub lists_from : Parts → ℕ → List ℕ → List KeyedList
lists_from a q [] = []
lists_from a q (m ∷ ms) = record { items = list_of a q; insertions = m } ∷ lists_from a (suc q) ms

-- the keyed lists of a forest
unfoldable pub seen_of : Grove → KeyedRoots
seen_of f = record { roots = lists_from f.parts 0 f.made; entries = length f.parts.elements }

-- what holds of the trees before and after; each arena determines its own
abbrev pub InTrees : Parts → Parts → ((ℕ → Option Tree) → (ℕ → Option Tree) → Type 0) → Type 0
InTrees a z P = (old new : ℕ → Option Tree) → Shape a old → Shape z new → P old new

-- the tree of a root has one entry more, and all other roots stay
pub record Gains (roots root entry key : ℕ) (old new : ℕ → Option Tree) : Type 0 where
  pub after : Tree
  pub after_is : new root ≡ Some after
  pub grows : GrowsIn (old root) entry key after
  pub rises : Rises (old root) (new root) key
  pub others : (other : ℕ) → other < roots → (other ≡ root → ⊥) → new other ≡ old other

-- the tree of a root has one entry less, no key's spine value rose, and all other roots stay
pub record Lost (roots root entry : ℕ) (old new : ℕ → Option Tree) : Type 0 where
  pub loses : Loses (old root) entry (new root)
  pub falls : (key : ℕ) → spine_in key (new root) ≤ spine_in key (old root)
  pub others : (other : ℕ) → other < roots → (other ≡ root → ⊥) → new other ≡ old other

-- an insertion visited at most 33 elements on the way down, and at most 1 + k of its key's right spine, where 2 ^ k is at most one more than the insertions so far
pub record IsBrief (made old new : ℕ) : Type 0 where
  pub outside : ℕ
  pub inside : ℕ
  pub k : ℕ
  pub all : new ≡ old + (outside + inside)
  pub way : outside ≤ 33
  pub power : 2 ^ k ≤ made + 1
  pub spine : inside ≤ 1 + k

-- the right spine of each key has at most k nodes, where 2 ^ k is at most one more than the insertions into the root
abbrev pub AreShort : Grove → Type 0
AreShort f =
    (trees : ℕ → Option Tree) (root : ℕ) (way : List Step) (tree : Tree) → Shape f.parts trees → root < length f.parts.links → trees root ≡ Some (plug way tree) → IsWhole way → 2 ^ spine_length tree ≤ slice_index f.made root + 1
