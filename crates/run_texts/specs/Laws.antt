-- What is promised of the text of a run: docs/TRANSCRIPT.md, "Laws".
use Rattle.std.specs.Prelude.{◌≡◌, ℕ, ◌+◌, ◌-◌, List, ◌++◌, length, Ok}
use Rattle.step_tables.specs.declared.tables.Script.{Script}
use Rattle.run_model.specs.Run.{Round, Run}
use Rattle.run_model.specs.Lawful.{LawfulRun}
use Rattle.transcript.specs.declared.lines.Line.{Line}
use Rattle.transcript.specs.Spelling.{head_text, end_text}
use Rattle.transcript.specs.Judging.{lines_of}
use Rattle.run_texts.specs.RunLines.{lines_of_run}
use Rattle.run_texts.specs.RunText.{text_of, rounds_text, HasText}
use Rattle.run_texts.specs.Front.{Front}

-- the text of a run is the first line, the rounds from round 0 on, and the end line
abbrev pub TextInPieces : Type 0
TextInPieces = (run : Run) → text_of run ≡ head_text ++ (rounds_text 0 run.rounds ++ end_text run.rest (length run.rounds - 1))

-- rounds are written one after another
abbrev pub RoundsInTurn : Type 0
RoundsInTurn = (r : ℕ) (xs ys : List Round) → rounds_text r (xs ++ ys) ≡ rounds_text r xs ++ rounds_text (r + length xs) ys

-- the text of a run that has one is read as the lines of that run
abbrev pub ReadsBack : Type 0
ReadsBack = (run : Run) → HasText run → lines_of (text_of run) ≡ Ok (lines_of_run run)

-- bytes that are read are the text of a run that has these lines
abbrev pub WritesBack : Type 0
WritesBack = (bytes : List ℕ) (ls : List Line) → lines_of bytes ≡ Ok ls → (run : Run) × HasText run × (lines_of_run run ≡ ls) × (bytes ≡ text_of run)

-- lines in front of a front are a front
abbrev pub FrontsBegin : Type 0
FrontsBegin = (script : Script) (xs ys : List Line) → Front script (xs ++ ys) → Front script xs

-- the lines of a lawful run are a front
abbrev pub LawfulRunsAreFronts : Type 0
LawfulRunsAreFronts = (script : Script) (run : Run) → LawfulRun script run → Front script (lines_of_run run)
