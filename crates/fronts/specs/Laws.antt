-- What the rules on lines mean (docs/MODEL.md, "Lines that are allowed").
use Rattle.std.specs.Prelude.{List, ◌↔◌, IsTrue}
use Rattle.step_tables.specs.declared.tables.Script.{Script}
use Rattle.step_tables.specs.Sound.{is_sound}
use Rattle.transcript.specs.declared.lines.Line.{Line}
use Rattle.run_texts.specs.Front.{Front}
use Rattle.fronts.specs.Lines.{begins, AllMay}

-- lines are a front of a script exactly where each is allowed after those before it
abbrev pub FrontsAreAllowedLines : Type 0
FrontsAreAllowedLines = (s : Script) (ls : List Line) → IsTrue (is_sound s) → Front s ls ↔ AllMay s begins ls
