-- The way from a place in a tree up to its root (docs/TREES.md, "Ways").
use Rattle.std.specs.Prelude.{◌≡◌, ℕ, ◌<◌, ℤ, List, [], ◌∷◌, ◌++◌, length}
use Rattle.sched_base.specs.KeyedList.{KeyedItem}
use Rattle.eb_arena.specs.declared.links.Side.TheVariants as sides
use Rattle.eb_arena.specs.declared.links.Place.{Place}
use Rattle.eb_arena.specs.declared.links.Place.TheVariants as places
use Rattle.eb_arena.specs.Parts.{Parts, element_at}
use Rattle.eb_arena.specs.Shape.{Tree, fork, items, Hangs, root_place}

-- one step up: a node's index and bit, and the tree on its other side
pub data Step : Type 0 where
  from_left : (index : ℕ) (bit : ℤ) (right : Tree) → Step
  from_right : (index : ℕ) (bit : ℤ) (left : Tree) → Step

-- the node of a step, with a tree on the side that the step comes from
abbrev pub fill : Step → Tree → Tree
fill (from_left i b r) t = fork i b t r
fill (from_right i b l) t = fork i b l t

-- the whole tree, of a tree and the steps from it up, the lowest first
abbrev pub plug : List Step → Tree → Tree
plug [] t = t
plug (s ∷ w) t = plug w (fill s t)

-- the items before what hangs at the foot of a way
abbrev pub before : List Step → List KeyedItem
before [] = []
before (from_left i b r ∷ w) = before w
before (from_right i b l ∷ w) = before w ++ items l

-- the items after it
abbrev pub after : List Step → List KeyedItem
after [] = []
after (from_left i b r ∷ w) = items r ++ after w
after (from_right i b l ∷ w) = after w

-- in the arena the way leads from the place up to the root
abbrev pub Leads : Parts → ℕ → Place → List Step → Type 0
Leads a q place [] = place ≡ root_place a q
Leads a q place (from_left i b r ∷ w) =
    (place ≡ places.Under i sides.Left) × (i < length a.elements) × ((element_at a i).bit ≡ b)
    × Hangs a (element_at a i).right (places.Under i sides.Right) r × Leads a q (element_at a i).node_p w
Leads a q place (from_right i b l ∷ w) =
    (place ≡ places.Under i sides.Right) × (i < length a.elements) × ((element_at a i).bit ≡ b)
    × Hangs a (element_at a i).left (places.Under i sides.Left) l × Leads a q (element_at a i).node_p w
