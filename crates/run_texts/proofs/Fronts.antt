-- Fronts of a script.
use Rattle.std.proofs.Common.{List, [], ◌++◌, sym, ◌∙◌, append_assoc, append-nil}
use Rattle.step_tables.specs.declared.tables.Script.{Script}
use Rattle.run_model.specs.Run.{Run}
use Rattle.run_model.specs.Lawful.{LawfulRun}
use Rattle.transcript.specs.declared.lines.Line.{Line}
use Rattle.run_texts.specs.RunLines.{lines_of_run}
use Rattle.run_texts.specs.Front.{Front}

pub front_first : (script : Script) (xs ys : List Line) → Front script (xs ++ ys) → Front script xs
front_first script xs ys f = (f.0, ys ++ f.1, f.2, f.3 ∙ append_assoc xs ys f.1)

pub front_whole : (script : Script) (run : Run) → LawfulRun script run → Front script (lines_of_run run)
front_whole script run lawful = (run, [], lawful, sym (append-nil (lines_of_run run)))
