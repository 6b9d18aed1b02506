-- An arena as the halves of its elements and roots, and the marks (docs/TREES.md, "The arena").
use Rattle.std.specs.Prelude.{◌≡◌, ℕ, zero, suc, ◌+◌, ◌*◌, ◌/◌, ◌%◌, ◌<◌, ℤ, List, [], ◌∷◌, length, slice_index_or}
use Rattle.std.specs.Int.{cast_signed, w16}
use Rattle.eb_arena.specs.declared.links.Target.{Target}
use Rattle.eb_arena.specs.declared.links.Target.TheVariants as targets
use Rattle.eb_arena.specs.declared.links.Place.TheVariants as places
use Rattle.eb_arena.specs.declared.element.Element.{Element}
use Rattle.eb_arena.specs.declared.arena.Half.{Half}
use Rattle.eb_arena.specs.Parts.{Parts}

-- the values of a function at n numbers from k on
abbrev pub from : {X : Type 0} → (ℕ → X) → ℕ → ℕ → List X
from f k zero = []
from f k (suc n) = f k ∷ from f (suc k) n

-- a half of an unused element
abbrev pub no_half : Half
no_half = record { down = targets.Nothing; up = places.Nowhere }

-- the half with a number
abbrev pub half_at : List Half → ℕ → Half
half_at halves n = slice_index_or halves n no_half

-- the mark with a number
abbrev pub mark_at : List ℕ → ℕ → ℕ
mark_at marks n = slice_index_or marks n 0

-- the bit of a node, out of its mark
abbrev pub bit_of : ℕ → ℤ
bit_of mark = cast_signed w16 (mark % 65536)

-- how many elements have so many marks
abbrev pub count_of : List ℕ → ℕ
count_of marks = length marks / 2

-- the element with an index, out of its halves and its marks
abbrev pub element_of : List Half → List ℕ → ℕ → Element
element_of halves marks i =
    record {
      left = (half_at halves (2 * i)).down;
      right = (half_at halves (2 * i + 1)).down;
      node_p = (half_at halves (2 * i + 1)).up;
      leaf_p = (half_at halves (2 * i)).up;
      key = mark_at marks (2 * i);
      bit = bit_of (mark_at marks (2 * i + 1));
    }

-- what hangs on a root, which is stored as a node behind all n elements
abbrev pub root_of : List Half → ℕ → ℕ → Target
root_of halves n root = (half_at halves (2 * (n + root))).down

-- what an arena holds
abbrev pub parts_of : List Half → List ℕ → ℕ → Parts
parts_of halves marks roots =
    record {
      elements = from (element_of halves marks) 0 (count_of marks);
      links = from (root_of halves (count_of marks)) 0 roots;
    }

-- each element and each root has two halves, each element two marks, and entries and roots are not too many
pub record Fits (halves : List Half) (marks : List ℕ) (roots : ℕ) : Type 0 where
  pub pairs : length marks ≡ 2 * count_of marks
  pub both : length halves ≡ 2 * (count_of marks + roots)
  pub room : roots + count_of marks < 2147483647
