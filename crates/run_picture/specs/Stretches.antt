-- How the runs of all lanes go on, line by line (docs/PICTURES.md, "Bars").
use Rattle.std.specs.Prelude.{◌≡◌, ℕ, ◌<◌, ◌≤◌, false, List, [], ◌∷◌, length, slice_index_or}
use Rattle.transcript.specs.declared.lines.Line.{Line}
use Rattle.transcript.specs.declared.lines.Line.TheVariants as line
use Rattle.run_picture.specs.declared.stretches.Stretch.{Stretch}
use Rattle.run_picture.specs.declared.stretches.Stretches.{Stretches}
use Rattle.run_picture.specs.Steps.{lane_of}
use Rattle.run_picture.specs.Bars.{stretch_of}

-- a run that is over
abbrev pub over : Stretch
over = record { entries = 0; is_retired = false }

-- how the run of a line's lane goes on in the lines to come
abbrev pub stretch_at : Line → List Line → Stretch
stretch_at (line.Round number tick) ls = over
stretch_at (line.Entry e) ls = stretch_of (lane_of e.caller) ls
stretch_at (line.End rest last) ls = over

-- the same for each line
abbrev pub stretches_of : List Line → List Stretch
stretches_of [] = []
stretches_of (l ∷ ls) = stretch_at l ls ∷ stretches_of ls

-- these are the stretches of all lanes in the lines to come
pub record AreStretches (ls : List Line) (s : Stretches) : Type 0 where
  pub lanes : (k : ℕ) → k < 18 → slice_index_or s.of_lanes k over ≡ stretch_of k ls
  pub few : (k : ℕ) → k < 18 → (slice_index_or s.of_lanes k over).entries ≤ length ls
