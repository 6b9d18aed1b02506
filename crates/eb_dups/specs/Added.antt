-- What an insertion beside equal keys makes of an arena (docs/TREES.md, "Equal keys").
use Rattle.std.specs.Prelude.{◌≡◌, ℕ, ◌+◌, ◌<◌, List, length, Option, Some}
use Rattle.eb_arena.specs.declared.links.Target.{Target}
use Rattle.eb_arena.specs.declared.links.Place.{Place}
use Rattle.eb_arena.specs.Parts.{Parts, element_at}
use Rattle.eb_arena.specs.Shape.{Tree, Hangs, Shape}
use Rattle.eb_arena.specs.Way.{Step, plug, Leads}
use Rattle.eb_dups.specs.Spine.{spine_length, KeyHead, head_after, TwinAdded}

-- in the root where the head stands, the tree of its key has the entry at its end; all other trees stay
abbrev pub AddsTwin : Parts → Parts → Target → ℕ → Type 0
AddsTwin a z head entry =
    (trees : ℕ → Option Tree) (root : ℕ) (way : List Step) (place : Place) (tree : Tree) → Shape a trees → root < length a.links → trees root ≡ Some (plug way tree) → Leads a root place way → Hangs a head place tree → TwinAdded a z trees root way head tree (element_at a entry).key entry

-- which link is the head of the key afterwards
abbrev pub HasHeadAfter : Parts → Parts → Target → ℕ → Type 0
HasHeadAfter a z head entry =
    (place : Place) (tree : Tree) → Hangs a head place tree → KeyHead z (head_after head tree entry) (element_at a entry).key

-- the head of the tree was visited, and what is reached from it by right links
abbrev pub VisitsSpine : Parts → Target → ℕ → ℕ → Type 0
VisitsSpine a head old new = (place : Place) (tree : Tree) → Hangs a head place tree → new ≡ old + (spine_length tree + 1)
