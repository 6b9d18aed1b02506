-- What an arena holds, its elements and what hangs on its roots (docs/TREES.md, "The arena").
use Rattle.std.specs.Prelude.{◌-◌, nat_lt, length, if◌then◌else◌, ℕ, ℤ, pos, negsuc, Bool, true, false, List, slice_index_or, slice_set}
use Rattle.eb_arena.specs.declared.links.Side.{Side}
use Rattle.eb_arena.specs.declared.links.Side.TheVariants as sides
use Rattle.eb_arena.specs.declared.links.Target.{Target}
use Rattle.eb_arena.specs.declared.links.Target.TheVariants as targets
use Rattle.eb_arena.specs.declared.links.Place.{Place}
use Rattle.eb_arena.specs.declared.links.Place.TheVariants as places
use Rattle.eb_arena.specs.declared.element.Element.{Element}

-- the elements by index, and what hangs on each root
pub record Parts : Type 0 where
  pub elements : List Element
  pub links : List Target

-- an element whose entry is in no tree and whose node is unused
abbrev pub unused : Element
unused = record { left = targets.Nothing; right = targets.Nothing; node_p = places.Nowhere; leaf_p = places.Nowhere; key = 0; bit = pos 0 }

-- whether a bit is negative
abbrev pub is_negative : ℤ → Bool
is_negative (pos b) = false
is_negative (negsuc n) = true

-- what hangs at a side of an element's node
abbrev pub child : Side → Element → Target
child sides.Left e = e.left
child sides.Right e = e.right

-- the element with an index
abbrev pub element_at : Parts → ℕ → Element
element_at a i = slice_index_or a.elements i unused

-- what hangs on a root
abbrev pub link_at : Parts → ℕ → Target
link_at a q = slice_index_or a.links q targets.Nothing

-- the arena with another element at an index
abbrev pub with_element : Parts → ℕ → Element → Parts
with_element a i e = record a { elements = slice_set a.elements i e }

-- the arena with another part on a root
abbrev pub with_link : Parts → ℕ → Target → Parts
with_link a q t = record a { links = slice_set a.links q t }

-- where a target's element says that it hangs
abbrev pub up_of : Parts → Target → Place
up_of a targets.Nothing = places.Nowhere
up_of a (targets.Leaf i) = (element_at a i).leaf_p
up_of a (targets.Node i) = (element_at a i).node_p

-- the arena with another link up at the part that a target names
abbrev pub hung : Parts → Target → Place → Parts
hung a targets.Nothing place = a
hung a (targets.Leaf i) place = with_element a i (record (element_at a i) { leaf_p = place })
hung a (targets.Node i) place = with_element a i (record (element_at a i) { node_p = place })

-- the element with another part at a side of its node
abbrev pub with_child : Side → Target → Element → Element
with_child sides.Left t e = record e { left = t }
with_child sides.Right t e = record e { right = t }

-- the arena with another part at a place, which is at a node or on a root
abbrev pub linked : Parts → Place → Target → Parts
linked a places.Nowhere t = a
linked a (places.Under i s) t =
    if nat_lt i (length a.elements) then with_element a i (with_child s t (element_at a i)) else with_link a (i - length a.elements) t
