-- Worked arenas of one root (docs/TREES.md, "Worked arenas").
use Rattle.std.specs.Prelude.{pos, negsuc, [], ◌∷◌}
use Rattle.eb_arena.specs.declared.links.Side.TheVariants as sides
use Rattle.eb_arena.specs.declared.links.Target.TheVariants as targets
use Rattle.eb_arena.specs.declared.links.Place.TheVariants as places
use Rattle.eb_arena.specs.Parts.{Parts, unused}
use Rattle.eb_arena.specs.Shape.{Tree, tip, fork}

-- entries 0 to 3 under key 5
abbrev pub four_equal_keys : Parts
four_equal_keys = record {
  elements =
      record { left = targets.Nothing; right = targets.Nothing; node_p = places.Nowhere; leaf_p = places.Under 1 sides.Left; key = 5; bit = pos 0 }
      ∷ record { left = targets.Leaf 0; right = targets.Leaf 1; node_p = places.Under 2 sides.Left; leaf_p = places.Under 1 sides.Right; key = 5; bit = negsuc 0 }
      ∷ record { left = targets.Node 1; right = targets.Node 3; node_p = places.Under 4 sides.Left; leaf_p = places.Under 3 sides.Left; key = 5; bit = negsuc 1 }
      ∷ record { left = targets.Leaf 2; right = targets.Leaf 3; node_p = places.Under 2 sides.Right; leaf_p = places.Under 3 sides.Right; key = 5; bit = negsuc 0 }
      ∷ [];
  links = targets.Node 2 ∷ [];
}

-- its tree
abbrev pub four_equal_tree : Tree
four_equal_tree = fork 2 (negsuc 1) (fork 1 (negsuc 0) (tip 0 5) (tip 1 5)) (fork 3 (negsuc 0) (tip 2 5) (tip 3 5))

-- entries 0, 1 and 2 under keys 4, 6 and 5
abbrev pub three_keys : Parts
three_keys = record {
  elements =
      record { left = targets.Nothing; right = targets.Nothing; node_p = places.Nowhere; leaf_p = places.Under 2 sides.Left; key = 4; bit = pos 0 }
      ∷ record { left = targets.Node 2; right = targets.Leaf 1; node_p = places.Under 3 sides.Left; leaf_p = places.Under 1 sides.Right; key = 6; bit = pos 1 }
      ∷ record { left = targets.Leaf 0; right = targets.Leaf 2; node_p = places.Under 1 sides.Left; leaf_p = places.Under 2 sides.Right; key = 5; bit = pos 0 }
      ∷ [];
  links = targets.Node 1 ∷ [];
}

-- its tree
abbrev pub three_keys_tree : Tree
three_keys_tree = fork 1 (pos 1) (fork 2 (pos 0) (tip 0 4) (tip 2 5)) (tip 1 6)

-- entries 0 and 1 under key 5, and entry 2 under key 7
abbrev pub two_twins : Parts
two_twins = record {
  elements =
      record { left = targets.Nothing; right = targets.Nothing; node_p = places.Nowhere; leaf_p = places.Under 1 sides.Left; key = 5; bit = pos 0 }
      ∷ record { left = targets.Leaf 0; right = targets.Leaf 1; node_p = places.Under 2 sides.Left; leaf_p = places.Under 1 sides.Right; key = 5; bit = negsuc 0 }
      ∷ record { left = targets.Node 1; right = targets.Leaf 2; node_p = places.Under 3 sides.Left; leaf_p = places.Under 2 sides.Right; key = 7; bit = pos 1 }
      ∷ [];
  links = targets.Node 2 ∷ [];
}

-- its tree
abbrev pub two_twins_tree : Tree
two_twins_tree = fork 2 (pos 1) (fork 1 (negsuc 0) (tip 0 5) (tip 1 5)) (tip 2 7)

-- two entries that are in no tree
abbrev pub empty_root : Parts
empty_root = record { elements = unused ∷ unused ∷ []; links = targets.Nothing ∷ [] }
