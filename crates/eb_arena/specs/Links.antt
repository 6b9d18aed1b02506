-- Links down and up, and the numbers that they are stored as (docs/TREES.md, "Links").
use Rattle.std.specs.Prelude.{ℕ, ◌+◌, ◌*◌, ◌/◌, ◌%◌, ◌==◌, Bool, true, false, if◌then◌else◌}
use Rattle.eb_arena.specs.declared.links.Side.{Side}
use Rattle.eb_arena.specs.declared.links.Side.TheVariants as sides
use Rattle.eb_arena.specs.declared.links.Target.{Target}
use Rattle.eb_arena.specs.declared.links.Target.TheVariants as targets
use Rattle.eb_arena.specs.declared.links.Place.{Place}
use Rattle.eb_arena.specs.declared.links.Place.TheVariants as places

-- the other side
abbrev pub opposite : Side → Side
opposite sides.Left = sides.Right
opposite sides.Right = sides.Left

-- what the link with this number leads to
abbrev pub target_of : ℕ → Target
target_of n = if n == 4294967295 then targets.Nothing else (if n % 2 == 0 then targets.Leaf (n / 2) else targets.Node (n / 2))

-- the number of a link
abbrev pub link_number : Target → ℕ
link_number targets.Nothing = 4294967295
link_number (targets.Leaf i) = 2 * i
link_number (targets.Node i) = 2 * i + 1

-- whether a link leads to nothing
abbrev pub is_nothing : Target → Bool
is_nothing targets.Nothing = true
is_nothing (targets.Leaf i) = false
is_nothing (targets.Node i) = false

-- whether a link leads to a leaf
abbrev pub is_leaf : Target → Bool
is_leaf targets.Nothing = false
is_leaf (targets.Leaf i) = true
is_leaf (targets.Node i) = false

-- the index of the element that a link leads to
abbrev pub index_of : Target → ℕ
index_of targets.Nothing = 0
index_of (targets.Leaf i) = i
index_of (targets.Node i) = i

-- the place that the link up with this number leads to
abbrev pub place_of : ℕ → Place
place_of n = if n == 4294967295 then places.Nowhere else (if n % 2 == 0 then places.Under (n / 2) sides.Left else places.Under (n / 2) sides.Right)

-- 0 for the left side, 1 for the right side
abbrev pub side_number : Side → ℕ
side_number sides.Left = 0
side_number sides.Right = 1

-- the number of a link up
abbrev pub up_number : Place → ℕ
up_number places.Nowhere = 4294967295
up_number (places.Under i s) = 2 * i + side_number s

-- whether a place is none
abbrev pub is_nowhere : Place → Bool
is_nowhere places.Nowhere = true
is_nowhere (places.Under i s) = false

-- the index of the node at which a place is
abbrev pub place_index : Place → ℕ
place_index places.Nowhere = 0
place_index (places.Under i s) = i

-- the side of the node at which a place is
abbrev pub place_side : Place → Side
place_side places.Nowhere = sides.Left
place_side (places.Under i s) = s
