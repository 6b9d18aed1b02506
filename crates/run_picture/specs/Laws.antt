-- What is promised of bars (docs/PICTURES.md, "Bars").
use Rattle.std.specs.Prelude.{◌≡◌, ℕ, ◌+◌, Bool, if◌then◌else◌, List, [], ◌∷◌, ◌++◌, map, take}
use Rattle.sched_base.specs.declared.names.TaskId.{TaskId}
use Rattle.sched_base.specs.declared.names.CallerId.{CallerId}
use Rattle.task_machine.specs.declared.calls.Call.{Call}
use Rattle.task_machine.specs.declared.calls.Call.TheVariants as calls
use Rattle.transcript.specs.declared.lines.Line.{Line}
use Rattle.transcript.specs.declared.lines.Line.TheVariants as line
use Rattle.run_picture.specs.declared.bars.Bar.{Bar}
use Rattle.run_picture.specs.declared.bars.Rounds.{Rounds}
use Rattle.run_picture.specs.Steps.{lane_of, is_shown}
use Rattle.run_picture.specs.Bars.{bars_of, most_bars}

-- a take: its line, the lane of its caller, and its task
pub record Seat : Type 0 where
  pub line : ℕ
  pub lane : ℕ
  pub task : TaskId

-- whether a call in line n is a take that is shown
abbrev pub seat_by : Bool → ℕ → CallerId → Call → List Seat
seat_by shown n caller (calls.Take i) = if shown then record { line = n; lane = lane_of caller; task = i } ∷ [] else []
seat_by shown n caller (calls.Wake i reasons) = []
seat_by shown n caller (calls.Kill i) = []
seat_by shown n caller (calls.Post i box) = []
seat_by shown n caller (calls.Get group) = []
seat_by shown n caller (calls.Draw i) = []
seat_by shown n caller (calls.DropRun i) = []
seat_by shown n caller (calls.Retire i) = []

-- the takes of lines from line n on, the first of them in round r, in the rounds that are shown
abbrev pub takes_in : Rounds → ℕ → ℕ → List Line → List Seat
takes_in rounds n r [] = []
takes_in rounds n r (line.Round number tick ∷ ls) = takes_in rounds (n + 1) number ls
takes_in rounds n r (line.Entry e ∷ ls) = seat_by (is_shown rounds r) n e.caller e.call ++ takes_in rounds (n + 1) r ls
takes_in rounds n r (line.End rest last ∷ ls) = takes_in rounds (n + 1) r ls

-- where a bar is drawn, and what for
abbrev pub seat_of : Bar → Seat
seat_of bar = record { line = bar.spot.line; lane = bar.spot.lane; task = bar.task }

-- the bars are the takes that are shown, in the order of the transcript, each in the lane of its caller
abbrev pub BarsAreTakes : Type 0
BarsAreTakes = (rounds : Rounds) (ls : List Line) → map seat_of (bars_of rounds ls) ≡ take most_bars (takes_in rounds 2 0 ls)
