-- The runs of tasks in the lines of a transcript (docs/PICTURES.md, "Bars"). What is behind a line are the lines before
-- it, the newest first.
use Rattle.std.specs.Prelude.{ℕ, ◌+◌, ◌==◌, Bool, true, false, if◌then◌else◌, nat_lt, List, [], ◌∷◌, ◌++◌, length, take, Option, Some, None}
use Rattle.sched_base.specs.declared.names.TaskId.{TaskId}
use Rattle.task_machine.specs.declared.calls.Entry.{Entry}
use Rattle.transcript.specs.declared.lines.Line.{Line}
use Rattle.transcript.specs.declared.lines.Line.TheVariants as line
use Rattle.run_picture.specs.declared.bars.Spot.{Spot}
use Rattle.run_picture.specs.declared.bars.Bar.{Bar}
use Rattle.run_picture.specs.declared.bars.Rounds.{Rounds}
use Rattle.run_picture.specs.declared.stretches.Stretch.{Stretch}
use Rattle.run_picture.specs.declared.steps.Step.{Step}
use Rattle.run_picture.specs.declared.steps.Step.TheVariants.{Takes, Raises, Drops, Retires, Goes}
use Rattle.run_picture.specs.Steps.{lane_of, step_of, reasons_in, takes_in, has_seen_killed, is_shown}

-- the number of the round that is open
abbrev pub round_of : List Line → ℕ
round_of [] = 0
round_of (line.Round number tick ∷ past) = number
round_of (line.Entry e ∷ past) = round_of past
round_of (line.End rest last ∷ past) = round_of past

-- how many entries of a lane stand in the open round
abbrev pub slot_of : ℕ → List Line → ℕ
slot_of k [] = 0
slot_of k (line.Round number tick ∷ past) = 0
slot_of k (line.Entry e ∷ past) = if lane_of e.caller == k then slot_of k past + 1 else slot_of k past
slot_of k (line.End rest last ∷ past) = slot_of k past

-- where an entry stands
abbrev pub spot_of : List Line → Entry → Spot
spot_of past e = record { lane = lane_of e.caller; round = round_of past; slot = slot_of (lane_of e.caller) past; line = length past + 2 }

-- what a step says of which entry raised task i: this one at a raise, none at a take, and else the one before
abbrev pub raised_by : ℕ → Step → Spot → Option Spot → Option Spot
raised_by i (Takes j) here before = if j.0 == i then None else before
raised_by i (Raises j) here before = if j.0 == i then Some here else before
raised_by i Drops here before = before
raised_by i Retires here before = before
raised_by i Goes here before = before

-- where the entry stands that raised task i since its last take
abbrev pub raised_of : ℕ → List Line → Option Spot
raised_of i [] = None
raised_of i (line.Round number tick ∷ past) = raised_of i past
raised_of i (line.Entry e ∷ past) = raised_by i (step_of e) (spot_of past e) (raised_of i past)
raised_of i (line.End rest last ∷ past) = raised_of i past

-- the same for a task that a script can have
abbrev pub raise_shown : ℕ → List Line → Option Spot
raise_shown i past = if nat_lt i 4096 then raised_of i past else None

-- how a run goes on with an entry of its lane, by what comes behind that
abbrev pub stretch_by : Step → Stretch → Stretch
stretch_by (Takes i) behind = record { entries = 0; is_retired = false }
stretch_by Drops behind = record { entries = 1; is_retired = false }
stretch_by Retires behind = record { entries = 1; is_retired = true }
stretch_by (Raises i) behind = record { entries = behind.entries + 1; is_retired = behind.is_retired }
stretch_by Goes behind = record { entries = behind.entries + 1; is_retired = behind.is_retired }

-- how a run of a lane goes on in the lines to come: up to its drop or its retire, and not past its lane's next take or
-- its round
abbrev pub stretch_of : ℕ → List Line → Stretch
stretch_of k [] = record { entries = 0; is_retired = false }
stretch_of k (line.Round number tick ∷ ls) = record { entries = 0; is_retired = false }
stretch_of k (line.Entry e ∷ ls) = if lane_of e.caller == k then stretch_by (step_of e) (stretch_of k ls) else stretch_of k ls
stretch_of k (line.End rest last ∷ ls) = record { entries = 0; is_retired = false }

-- the bar of a take, by the lines behind it and those to come
abbrev pub bar_of : List Line → Entry → TaskId → Stretch → Bar
bar_of past e i stretch = record {
  spot = spot_of past e;
  task = i;
  entries = stretch.entries + 1;
  is_retired = stretch.is_retired;
  reasons = reasons_in e.reply;
  is_killed = has_seen_killed e.reply;
  takes = takes_in e.reply;
  raised = raise_shown i.0 past;
}

-- the bar of an entry: one at a take in a round that is shown
abbrev pub bars_by : Rounds → List Line → Entry → Stretch → Step → List Bar
bars_by rounds past e stretch (Takes i) = if is_shown rounds (round_of past) then bar_of past e i stretch ∷ [] else []
bars_by rounds past e stretch (Raises i) = []
bars_by rounds past e stretch Drops = []
bars_by rounds past e stretch Retires = []
bars_by rounds past e stretch Goes = []

abbrev pub bars_at : Rounds → List Line → Line → List Line → List Bar
bars_at rounds past (line.Round number tick) ls = []
bars_at rounds past (line.Entry e) ls = bars_by rounds past e (stretch_of (lane_of e.caller) ls) (step_of e)
bars_at rounds past (line.End rest last) ls = []

-- the bars of the lines to come
abbrev pub bars_from : Rounds → List Line → List Line → List Bar
bars_from rounds past [] = []
bars_from rounds past (l ∷ ls) = bars_at rounds past l ls ++ bars_from rounds (l ∷ past) ls

-- the most bars of a picture
abbrev pub most_bars : ℕ
most_bars = 100000

-- the bars of a transcript's lines, in the order of the takes
unfoldable pub bars_of : Rounds → List Line → List Bar
bars_of rounds ls = take most_bars (bars_from rounds [] ls)
