-- The verdict on the lines of a transcript (docs/MODEL.md, "Replay").
use Rattle.std.specs.Prelude.{◌≡◌, ℕ, ◌+◌, ◌-◌, ◌<◌, ◌≤◌, List, take, length}
use Rattle.step_tables.specs.declared.tables.Script.{Script}
use Rattle.run_model.specs.Run.{Run}
use Rattle.run_model.specs.Lawful.{LawfulRun}
use Rattle.transcript.specs.declared.lines.Line.{Line}
use Rattle.run_texts.specs.RunLines.{lines_of_run}
use Rattle.run_texts.specs.Front.{Front}

-- some lawful run of the script has just these lines
abbrev pub AreOfRun : Script → List Line → Type 0
AreOfRun s ls = (run : Run) × LawfulRun s run × (ls ≡ lines_of_run run)

-- line n of the text is the first that is not allowed: the lines before it begin a lawful run, and those through it begin
-- none; line 2 is the first of these lines
pub record FirstNotLawful (s : Script) (ls : List Line) (n : ℕ) : Type 0 where
  pub behind : 2 ≤ n
  pub among : n < length ls + 2
  pub front : Front s (take (n - 2) ls)
  pub none : Front s (take (n - 1) ls) → ⊥
