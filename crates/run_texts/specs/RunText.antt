-- The text of a run, and which runs have one: docs/TRANSCRIPT.md, "Words" and "What has a text".
use Rattle.std.specs.Prelude.{ℕ, ◌+◌, ◌<◌, List, [], ◌∷◌, ◌++◌, length}
use Rattle.std.specs.List.{AllByRecursion}
use Rattle.run_model.specs.Run.{Round, Run}
use Rattle.transcript.specs.HasText.{HasTextLine}
use Rattle.transcript.specs.Spelling.{lines_text, round_text}
use Rattle.run_texts.specs.RunLines.{lines_of_run}

-- the text of a run
abbrev pub text_of : Run → List ℕ
text_of run = lines_text (lines_of_run run)

-- the rounds, numbered from r on
abbrev pub rounds_text : ℕ → List Round → List ℕ
rounds_text r [] = []
rounds_text r (round ∷ more) = round_text r round.tick round.entries ++ rounds_text (r + 1) more

-- a run that has a text: there is a round, and each of its lines has a text
pub record HasText (run : Run) : Type 0 where
  pub begun : 0 < length run.rounds
  pub lines : AllByRecursion HasTextLine (lines_of_run run)
