-- How much of a source was read (docs/PICTURES.md, "Answers").
use Rattle.std.specs.Prelude.{ℕ, ◌≤◌, List, length, Option}
use Rattle.sched_base.specs.Streams.{Reads}

-- at most so many bytes were read
abbrev pub ReadsAtMost : ℕ → Option (List ℕ) → Option (List ℕ) → Type 0
ReadsAtMost most before after = (piece : List ℕ) × (length piece ≤ most) × Reads before after piece
