-- A root's tree without an entry (docs/TREES.md, "Deletion").
use Rattle.std.specs.Prelude.{◌≡◌, ◌≢◌, ℕ, ℤ, ◌+◌, ◌<◌, ◌≤◌, ◌==◌, ◌||◌, nat_lt, not, if◌then◌else◌, List, filter, length, Option, Some, None}
use Rattle.std.specs.Option.{IsSomeAnd}
use Rattle.sched_base.specs.KeyedList.{is_entry}
use Rattle.eb_arena.specs.declared.links.Side.{Side}
use Rattle.eb_arena.specs.declared.links.Side.TheVariants as sides
use Rattle.eb_arena.specs.declared.links.Place.TheVariants as places
use Rattle.eb_arena.specs.declared.element.Element.{Element}
use Rattle.eb_arena.specs.Links.{is_nowhere, place_index}
use Rattle.eb_arena.specs.Way.{Step, from_left, from_right, fill, plug}
use Rattle.eb_arena.specs.Parts.{Parts, element_at, link_at}
use Rattle.eb_arena.specs.Shape.{Tree, tip, fork, items, items_of, Hangs, Split, HasLeaf, HasNode, IsRoot, InSome, Shape, root_place}
use Rattle.eb_dups.specs.Grown.{with_tree}
use Rattle.eb_dups.specs.Spine.{spine_of}
use Rattle.eb32_core.specs.Planted.{spine_in}

-- the step up from a side of a node
abbrev pub step : Side → ℕ → ℤ → Tree → Step
step sides.Left i b u = from_left i b u
step sides.Right i b u = from_right i b u

-- a node with a tree at a side of it, and another tree at the other side
abbrev pub paired : Side → ℕ → ℤ → Tree → Tree → Tree
paired side i b t u = fill (step side i b u) t

-- the tree where one node has another index
abbrev pub renamed : ℕ → ℕ → Tree → Tree
renamed node heir (tip entry key) = tip entry key
renamed node heir (fork i b l r) = fork (if i == node then heir else i) b (renamed node heir l) (renamed node heir r)

-- the arena has the shape but for the entry's node in the tree of a root, which the unused node of the heir could replace
pub record IsLoose (a : Parts) (trees : ℕ → Option Tree) (root entry heir : ℕ) : Type 0 where
  pub fits : length a.links + length a.elements < 2147483647
  pub exists : root < length a.links
  pub tree : Tree
  pub tree_is : trees root ≡ Some tree
  pub stands : Hangs a (link_at a root) (root_place a root) tree
  pub split : Split (renamed entry heir tree)
  pub others : (q : ℕ) → q < length a.links → (q ≡ root → ⊥) → IsRoot a q (trees q)
  pub leaves : (i : ℕ) → i < length a.elements → (element_at a i).leaf_p ≢ places.Nowhere → InSome a trees (HasLeaf i)
  pub nodes : (i : ℕ) → i < length a.elements → (element_at a i).node_p ≢ places.Nowhere → InSome a trees (HasNode i)
  pub entry_exists : entry < length a.elements
  pub heir_exists : heir < length a.elements
  pub out : (element_at a entry).leaf_p ≡ places.Nowhere
  pub unused : (element_at a heir).node_p ≡ places.Nowhere

-- a tree lost an entry's leaf and the node above it: what is on the other side of this node took its place
pub record LosesPair (before : Option Tree) (entry freed : ℕ) (after : Tree) : Type 0 where
  pub way : List Step
  pub side : Side
  pub bit : ℤ
  pub key : ℕ
  pub other : Tree
  pub was : before ≡ Some (plug way (paired side freed bit (tip entry key) other))
  pub is : after ≡ plug way other

-- and the node that was freed took the place of the entry's own node, where that was still there
pub record LosesNode (before : Option Tree) (entry : ℕ) (after : Tree) : Type 0 where
  pub freed : ℕ
  pub between : Tree
  pub pair : LosesPair before entry freed between
  pub is : after ≡ renamed entry freed between

-- what is on a root lost an entry: its leaf was alone there, or it had a node above it
abbrev pub Loses : Option Tree → ℕ → Option Tree → Type 0
Loses before entry None = (key : ℕ) × (before ≡ Some (tip entry key))
Loses before entry (Some after) = LosesNode before entry after

-- an entry's leaf and the node above it were taken out of a root's tree
pub record Unlinked (a z : Parts) (trees : ℕ → Option Tree) (root entry freed : ℕ) : Type 0 where
  pub after : Tree
  pub elements : length z.elements ≡ length a.elements
  pub roots : length z.links ≡ length a.links
  pub loose : IsLoose z (with_tree trees root (Some after)) root entry freed
  pub items_are : items after ≡ filter (λ y. not (is_entry entry y)) (items_of (trees root))
  pub pair : LosesPair (trees root) entry freed after
  pub spines : (key : ℕ) → spine_of key after ≤ spine_in key (trees root)

-- the same in whichever root the entry stands
abbrev pub Unlinks : Parts → Parts → ℕ → ℕ → Type 0
Unlinks a z entry freed =
    (trees : ℕ → Option Tree) (root : ℕ) → Shape a trees → root < length a.links → IsSomeAnd (trees root) (HasLeaf entry) → Unlinked a z trees root entry freed

-- the heir's node may take the place of the entry's
abbrev pub MayReplace : Parts → ℕ → ℕ → Type 0
MayReplace a entry heir = (trees : ℕ → Option Tree) × ((root : ℕ) × IsLoose a trees root entry heir)

-- the heir's node took the place of the entry's
pub record Replaced (a z : Parts) (trees : ℕ → Option Tree) (root entry heir : ℕ) : Type 0 where
  pub elements : length z.elements ≡ length a.elements
  pub roots : length z.links ≡ length a.links
  pub shape : (tree : Tree) → trees root ≡ Some tree → Shape z (with_tree trees root (Some (renamed entry heir tree)))

-- the same for whichever trees are loose there
abbrev pub Replaces : Parts → Parts → ℕ → ℕ → Type 0
Replaces a z entry heir = (trees : ℕ → Option Tree) (root : ℕ) → IsLoose a trees root entry heir → Replaced a z trees root entry heir

-- the list of a root without the entry, and all other trees as they were
pub record Uprooted (a z : Parts) (trees : ℕ → Option Tree) (root entry : ℕ) : Type 0 where
  pub after : Option Tree
  pub elements : length z.elements ≡ length a.elements
  pub roots : length z.links ≡ length a.links
  pub shape : Shape z (with_tree trees root after)
  pub items_are : items_of after ≡ filter (λ y. not (is_entry entry y)) (items_of (trees root))
  pub loses : Loses (trees root) entry after
  pub spines : (key : ℕ) → spine_in key after ≤ spine_in key (trees root)

-- the same in whichever root the entry stands
abbrev pub Uproots : Parts → Parts → ℕ → Type 0
Uproots a z entry =
    (trees : ℕ → Option Tree) (root : ℕ) → Shape a trees → root < length a.links → IsSomeAnd (trees root) (HasLeaf entry) → Uprooted a z trees root entry

-- how many elements a deletion visits: the entry alone, where its leaf is alone on a root; else also the node above the leaf, its other side and what is above that node; and where the entry's own node is used elsewhere, also the freed node that takes its place, both sides of it, and what is above it
abbrev pub visits_of : Parts → ℕ → ℕ
visits_of a entry =
    let e : Element = element_at a entry in
    if nat_lt (place_index e.leaf_p) (length a.elements) then (if is_nowhere e.node_p || (place_index e.leaf_p == entry) then 4 else 8) else 1
