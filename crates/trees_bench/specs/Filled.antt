-- How far a forest of one root is filled (docs/TREES.md, "Timing").
use Rattle.std.specs.Prelude.{◌≡◌, ℕ, ◌+◌, ◌<◌, ◌≤◌, length, slice_index}
use Rattle.sched_base.specs.KeyedList.{IsFree, IsPlaced}
use Rattle.eb32_core.specs.Forest.{Grove, seen_of}

-- a forest of one root
abbrev pub HasOneRoot : Grove → Type 0
HasOneRoot f = length f.made ≡ 1

-- all entries are free
abbrev pub AllFree : Grove → Type 0
AllFree f = (e : ℕ) → e < length f.parts.elements → IsFree e (seen_of f)

-- all entries are placed
abbrev pub AllPlaced : Grove → Type 0
AllPlaced f = (e : ℕ) → e < length f.parts.elements → IsPlaced e (seen_of f)

-- as many roots and entries as before, and at most so many insertions more into root 0
pub record Grows (most : ℕ) (old new : Grove) : Type 0 where
  pub roots : length new.made ≡ length old.made
  pub entries : length new.parts.elements ≡ length old.parts.elements
  pub insertions : slice_index new.made 0 ≤ slice_index old.made 0 + most
