-- A root's tree with one more entry (docs/TREES.md, "Insertion").
use Rattle.std.specs.Prelude.{◌≡◌, ℕ, ◌+◌, ◌-◌, ◌^◌, ◌<◌, ◌≤◌, ◌==◌, nat_le, Bool, true, false, List, length, Option, Some, None}
use Rattle.std.specs.List.{list_any}
use Rattle.sched_base.specs.KeyedList.{KeyedItem, inserted}
use Rattle.eb_arena.specs.declared.links.Target.{Target}
use Rattle.eb_arena.specs.declared.links.Target.TheVariants as targets
use Rattle.eb_arena.specs.Parts.{Parts, element_at, link_at}
use Rattle.eb_arena.specs.Shape.{Tree, tip, items, items_of, Shape}
use Rattle.eb32_walk.specs.Search.{Narrow, own_key}
use Rattle.eb_dups.specs.Grown.{Grows, with_tree}
use Rattle.eb_dups.specs.Spine.{spine_of, spine_length}

-- the spine value of all of a key on a root; 0 where the root has none of it
abbrev pub spine_in : ℕ → Option Tree → ℕ
spine_in key None = 0
spine_in key (Some t) = spine_of key t

-- no key on a root has a spine value above m
abbrev pub SpinesIn : ℕ → Option Tree → Type 0
SpinesIn m o = (key : ℕ) → spine_in key o ≤ m

-- whether a key stands among some items
abbrev pub has_key : ℕ → List KeyedItem → Bool
has_key key xs = list_any (λ y. y.key == key) xs

-- the arena has the shape, and a root's spine values leave room for one more
pub record IsRoomy (a : Parts) (root : ℕ) : Type 0 where
  pub trees : ℕ → Option Tree
  pub shape : Shape a trees
  pub most : ℕ
  pub spines : SpinesIn most (trees root)
  pub room : most < 2 ^ 63 - 1

-- what is on a root grew by an entry: into an empty root its leaf went alone, and into a tree its own node too
abbrev pub GrowsIn : Option Tree → ℕ → ℕ → Tree → Type 0
GrowsIn None entry key after = after ≡ tip entry key
GrowsIn (Some before) entry key after = Grows before entry key after

-- the spine value of the key rose by one where the root had the key; all others stay
pub record Rises (before after : Option Tree) (key : ℕ) : Type 0 where
  pub same_key : has_key key (items_of before) ≡ true → spine_in key after ≡ spine_in key before + 1
  pub new_key : has_key key (items_of before) ≡ false → spine_in key after ≡ spine_in key before
  pub other_keys : (other : ℕ) → (other ≡ key → ⊥) → spine_in other after ≡ spine_in other before

-- the tree of a root has the entry behind all items of at most its key, and all other trees stay
pub record Planted (a z : Parts) (trees : ℕ → Option Tree) (root entry key : ℕ) : Type 0 where
  pub after : Tree
  pub elements : length z.elements ≡ length a.elements
  pub roots : length z.links ≡ length a.links
  pub shape : Shape z (with_tree trees root (Some after))
  pub items_are : items after ≡ inserted (λ y. nat_le y.key key) (record { key = key; entry = entry }) (items_of (trees root))
  pub grows : GrowsIn (trees root) entry key after
  pub rises : Rises (trees root) (Some after) key

-- an entry was planted under the key that its element has
abbrev pub Plants : Parts → Parts → ℕ → ℕ → Type 0
Plants a z root entry = (trees : ℕ → Option Tree) → Shape a trees → Planted a z trees root entry (element_at a entry).key

-- the way down for a key: its nodes and the part at its end are so many elements, and the right spine of the key so many more
pub record WayDown (a : Parts) (root key outside inside : ℕ) : Type 0 where
  pub target : Target
  pub narrow : Narrow a root key target
  pub way : outside ≡ length narrow.way + 1
  pub spine : own_key a target ≡ key → inside ≡ spine_length narrow.tree + 1
  pub branch : (own_key a target ≡ key → ⊥) → inside ≡ 0

-- what an insertion visits: the way down and the right spine of its key; nothing where the root is empty
pub record Visits (a : Parts) (root key old new : ℕ) : Type 0 where
  pub outside : ℕ
  pub inside : ℕ
  pub all : new ≡ old + (outside + inside)
  pub empty : link_at a root ≡ targets.Nothing → (outside ≡ 0) × (inside ≡ 0)
  pub down : (link_at a root ≡ targets.Nothing → ⊥) → WayDown a root key outside inside
