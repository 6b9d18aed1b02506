-- A tree that grew by one entry (docs/TREES.md, "Insertion").
use Rattle.std.specs.Prelude.{◌≡◌, ℕ, ℤ, List, ◌==◌, if◌then◌else◌, Option}
use Rattle.eb_arena.specs.declared.links.Side.{Side}
use Rattle.eb_arena.specs.declared.links.Side.TheVariants as sides
use Rattle.eb_arena.specs.declared.links.Target.{Target}
use Rattle.eb_arena.specs.declared.links.Target.TheVariants as targets
use Rattle.eb_arena.specs.declared.links.Place.{Place}
use Rattle.eb_arena.specs.declared.links.Place.TheVariants as places
use Rattle.eb_arena.specs.declared.element.Element.{Element}
use Rattle.eb_arena.specs.Links.{opposite}
use Rattle.eb_arena.specs.Parts.{Parts, element_at, with_element, hung, linked}
use Rattle.eb_arena.specs.Shape.{Tree, tip, fork}
use Rattle.eb_arena.specs.Way.{Step, plug}

-- a new node over a tree, with the new leaf at a side of it
abbrev pub grown : Side → ℕ → ℤ → ℕ → Tree → Tree
grown sides.Left entry bit key t = fork entry bit (tip entry key) t
grown sides.Right entry bit key t = fork entry bit t (tip entry key)

-- a tree grew by an entry: the entry's own node went in above one part of it, and the entry's leaf hangs at a side of that node
pub record Grows (before : Tree) (entry key : ℕ) (after : Tree) : Type 0 where
  pub way : List Step
  pub part : Tree
  pub side : Side
  pub bit : ℤ
  pub was : before ≡ plug way part
  pub is : after ≡ plug way (grown side entry bit key part)

-- the element of an entry whose node is put in above a part
abbrev pub grown_element : Target → Place → ℕ → Side → ℤ → ℕ → Element
grown_element part place entry sides.Left bit key =
    record { left = targets.Leaf entry; right = part; node_p = place; leaf_p = places.Under entry sides.Left; key = key; bit = bit }
grown_element part place entry sides.Right bit key =
    record { left = part; right = targets.Leaf entry; node_p = place; leaf_p = places.Under entry sides.Right; key = key; bit = bit }

-- the arena with an entry's node put in above a part, and its leaf at a side of it
abbrev pub attached : Parts → Target → Place → ℕ → Side → ℤ → Parts
attached a part place entry side bit =
    linked (with_element (hung a part (places.Under entry (opposite side))) entry (grown_element part place entry side bit (element_at a entry).key)) place (targets.Node entry)

-- the trees with another one on a root
abbrev pub with_tree : (ℕ → Option Tree) → ℕ → Option Tree → ℕ → Option Tree
with_tree ts q o = λ r. if r == q then o else ts r
