-- How little of an arena a change writes (docs/TREES.md, "Cost").
use Rattle.std.specs.Prelude.{◌≡◌, ℕ, ◌≤◌, List, [], ◌∷◌, length}
use Rattle.eb_arena.specs.Parts.{Parts, element_at, link_at}

-- a number is none of these
abbrev pub IsAway : ℕ → List ℕ → Type 0
IsAway i [] = Unit {0}
IsAway i (x ∷ xs) = (i ≡ x → ⊥) × IsAway i xs

-- at most so many elements, the entry's among them, and at most one root link are other than before
pub record ChangesFew (most entry : ℕ) (a z : Parts) : Type 0 where
  pub others : List ℕ
  pub few : length (entry ∷ others) ≤ most
  pub elements : (i : ℕ) → IsAway i (entry ∷ others) → element_at z i ≡ element_at a i
  pub root : ℕ
  pub links : (q : ℕ) → (q ≡ root → ⊥) → link_at z q ≡ link_at a q
