-- What a scan knows of the lines that it passed (docs/PICTURES.md, "Bars").
use Rattle.std.specs.Prelude.{◌≡◌, ℕ, ◌<◌, ◌≤◌, nat_lt, List, length, slice_index_or, slice_set, Option, None, if◌then◌else◌}
use Rattle.transcript.specs.declared.lines.Line.{Line}
use Rattle.run_picture.specs.declared.bars.Spot.{Spot}
use Rattle.run_picture.specs.declared.scans.Scan.{Scan}
use Rattle.run_picture.specs.Bars.{round_of, slot_of, raised_of}

-- the scan has passed these lines, the newest first
pub record Follows (past : List Line) (scan : Scan) : Type 0 where
  pub passed : scan.passed ≡ length past
  pub round : scan.round ≡ round_of past
  pub slots : (k : ℕ) → k < 18 → slice_index_or scan.slots k 0 ≡ slot_of k past
  pub few : (k : ℕ) → k < 18 → slice_index_or scan.slots k 0 ≤ length past
  pub tasks : length scan.raised.items ≡ 4096
  pub raised : (i : ℕ) → i < 4096 → slice_index_or scan.raised.items i None ≡ raised_of i past

-- a list with one element changed, where it has that one
abbrev pub noted : List (Option Spot) → ℕ → Option Spot → List (Option Spot)
noted list i spot = if nat_lt i (length list) then slice_set list i spot else list
