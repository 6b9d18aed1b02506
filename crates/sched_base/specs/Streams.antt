-- What a call on a stream of bytes reads, appends and counts (docs/MODEL.md, "Streams"). A stream
-- that does not tell its bytes has None in their place, and then nothing is claimed of them.
use Rattle.std.specs.Prelude.{◌≡◌, ℕ, ◌+◌, ◌-◌, ◌^◌, ◌<◌, List, [], ◌++◌, Option, Some, None, IsSomeAnd, ◌⊎◌, Bool, min, nat_eq, drop}
use Rattle.std.specs.List.{list_any}

-- the bytes that were left are the piece, and then those that are left now
abbrev pub Reads : Option (List ℕ) → Option (List ℕ) → List ℕ → Type 0
Reads None after piece = Unit {0}
Reads (Some before) after piece = IsSomeAnd after (λ rest. before ≡ piece ++ rest)

-- no byte is left
abbrev pub IsAtEnd : Option (List ℕ) → Type 0
IsAtEnd None = Unit {0}
IsAtEnd (Some rest) = rest ≡ []

-- what is held now is what was held, and then the piece
abbrev pub Appends : Option (List ℕ) → Option (List ℕ) → List ℕ → Type 0
Appends None after piece = Unit {0}
Appends (Some before) after piece = after ≡ Some (before ++ piece)

-- some first part of the text was appended
abbrev pub AppendsFront : Option (List ℕ) → Option (List ℕ) → List ℕ → Type 0
AppendsFront before after text = (front : List ℕ) × (rest : List ℕ) × (text ≡ front ++ rest) × Appends before after front

-- a count rose in a call: it is greater afterwards, or stands at the last value of its counter
abbrev pub Rose : ℕ → ℕ → Type 0
Rose before after = (before < after) ⊎ (after ≡ 2 ^ 64 - 1)

-- a counter of 64 bits after one more: it stops at its last value
abbrev pub counted : ℕ → ℕ
counted n = min (n + 1) (2 ^ 64 - 1)

-- A source in memory: what is left, the most bytes that a call gives, the numbers of the calls
-- that fail, how many calls were made, and how many failed.
pub record MemoryIn : Type 0 where
  pub left : List ℕ
  pub piece : ℕ
  pub fails : List ℕ
  pub calls : ℕ
  pub faults : ℕ

-- A sink in memory: what it holds, and how many bytes it may hold; the rest as for a source.
pub record MemoryOut : Type 0 where
  pub held : List ℕ
  pub room : ℕ
  pub piece : ℕ
  pub fails : List ℕ
  pub calls : ℕ
  pub faults : ℕ

-- whether the call of this number is one that fails
abbrev pub is_failing : List ℕ → ℕ → Bool
is_failing fails n = list_any (λ m. nat_eq m n) fails

-- a source after a call that failed
abbrev pub failed_in : MemoryIn → MemoryIn
failed_in s = record s { calls = counted s.calls; faults = counted s.faults }

-- a source after a call that gave n bytes
abbrev pub gave : MemoryIn → ℕ → MemoryIn
gave s n = record s { left = drop n s.left; calls = counted s.calls }

-- a sink after a call that failed
abbrev pub failed_out : MemoryOut → MemoryOut
failed_out s = record s { calls = counted s.calls; faults = counted s.faults }

-- a sink after a call that took these bytes
abbrev pub took : MemoryOut → List ℕ → MemoryOut
took s bytes = record s { held = s.held ++ bytes; calls = counted s.calls }
