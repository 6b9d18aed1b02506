-- The ends of a root's list, and what stands beside an entry (docs/TREES.md, "Walks").
use Rattle.std.specs.Prelude.{◌≡◌, ◌≢◌, ℕ, ◌<◌, ◌==◌, if◌then◌else◌, List, [], ◌∷◌, ◌++◌, length, reverse, Option, Some, None}
use Rattle.sched_base.specs.KeyedList.{KeyedItem, first_entry}
use Rattle.eb_arena.specs.declared.links.Side.{Side}
use Rattle.eb_arena.specs.declared.links.Side.TheVariants as sides
use Rattle.eb_arena.specs.declared.links.Target.{Target}
use Rattle.eb_arena.specs.declared.links.Place.{Place}
use Rattle.eb_arena.specs.declared.links.Place.TheVariants as places
use Rattle.eb_arena.specs.Parts.{Parts, element_at}
use Rattle.eb_arena.specs.Shape.{Tree, Hangs, Split, list_of}
use Rattle.eb_arena.specs.Way.{Step, plug, before, after, Leads}

-- the entry is in a tree
abbrev pub IsIn : Parts → ℕ → Type 0
IsIn a e = e < length a.elements × ((element_at a e).leaf_p ≢ places.Nowhere)

-- what holds of the items before an entry, its key and the items after it, wherever it stands in a root's list
abbrev pub AtEntry : Parts → ℕ → (List KeyedItem → ℕ → List KeyedItem → Type 0) → Type 0
AtEntry a e P =
    (q k : ℕ) (xs ys : List KeyedItem) → q < length a.links → list_of a q ≡ xs ++ record { key = k; entry = e } ∷ ys → P xs k ys

-- the last entry of a list
abbrev pub last_entry : List KeyedItem → Option ℕ
last_entry xs = first_entry (reverse xs)

-- the first entry of a list, if it stands under key k
abbrev pub first_under : ℕ → List KeyedItem → Option ℕ
first_under k [] = None
first_under k (x ∷ xs) = if x.key == k then Some x.entry else None

-- the last entry of a list, if it stands under key k
abbrev pub last_under : ℕ → List KeyedItem → Option ℕ
last_under k xs = first_under k (reverse xs)

-- the entry at an end of a list
abbrev pub end_entry : Side → List KeyedItem → Option ℕ
end_entry sides.Left = first_entry
end_entry sides.Right = last_entry

-- below the target is a tree that hangs somewhere
pub record IsTree (a : Parts) (target : Target) : Type 0 where
  pub place : Place
  pub tree : Tree
  pub hangs : place ≢ places.Nowhere
  pub stands : Hangs a target place tree
  pub split : Split tree

-- from the place a way leads up to a root
pub record IsPlace (a : Parts) (place : Place) : Type 0 where
  pub root : ℕ
  pub way : List Step
  pub tree : Tree
  pub leads : Leads a root place way
  pub split : Split (plug way tree)

-- what holds of the way up from a place
abbrev pub AtPlace : Parts → Place → (List Step → Type 0) → Type 0
AtPlace a place P = (q : ℕ) (w : List Step) (t : Tree) → Leads a q place w → Split (plug w t) → P w

-- the items that stand on a side of a way's foot
abbrev pub beyond : Side → List Step → List KeyedItem
beyond sides.Left w = before w
beyond sides.Right w = after w
