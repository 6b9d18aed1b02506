-- What is promised of transcripts: docs/TRANSCRIPT.md, "Laws".
use Rattle.std.specs.Prelude.{◌≡◌, ℕ, ◌≤◌, ◌<◌, suc, false, List, length, take, Ok}
use Rattle.std.specs.List.{AllByRecursion}
use Rattle.transcript.specs.declared.lines.Line.{Line}
use Rattle.transcript.specs.HasText.{HasTextLine}
use Rattle.transcript.specs.Spelling.{lines_text}
use Rattle.transcript.specs.Judging.{byte_limit, lines_of, run_of, run_within, GoesOn}

-- lines that are those of a transcript: they follow one another, and each has a text
pub record AreLines (ls : List Line) : Type 0 where
  pub order : GoesOn 0 false ls
  pub texts : AllByRecursion HasTextLine ls

-- the text of lines that go on is read as these lines
abbrev pub LinesReadBack : Type 0
LinesReadBack = (ls : List Line) → AreLines ls → lines_of (lines_text ls) ≡ Ok ls

-- bytes that are read as lines are their text, and these lines go on
abbrev pub LinesWriteBack : Type 0
LinesWriteBack = (bytes : List ℕ) (ls : List Line) → lines_of bytes ≡ Ok ls → AreLines ls × (bytes ≡ lines_text ls)

-- a text of at most 64 MiB is read as if there was no limit
abbrev pub ShortTextsAreWhole : Type 0
ShortTextsAreWhole = (bytes : List ℕ) → length bytes ≤ byte_limit → run_of bytes ≡ lines_of bytes

-- what is read under the limit is read without it
abbrev pub LimitOnlyRefuses : Type 0
LimitOnlyRefuses = (bytes : List ℕ) (ls : List Line) → run_of bytes ≡ Ok ls → lines_of bytes ≡ Ok ls

-- of a text that is too long, only the bytes up to the one behind the limit count
abbrev pub LongTextsAreCut : Type 0
LongTextsAreCut = (most : ℕ) (bytes : List ℕ) → most < length bytes → run_within most bytes ≡ run_within most (take (suc most) bytes)
