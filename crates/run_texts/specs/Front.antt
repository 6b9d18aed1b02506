-- Lines with which a lawful run of a script begins (docs/MODEL.md, "Front").
use Rattle.std.specs.Prelude.{◌≡◌, List, ◌++◌}
use Rattle.step_tables.specs.declared.tables.Script.{Script}
use Rattle.run_model.specs.Run.{Run}
use Rattle.run_model.specs.Lawful.{LawfulRun}
use Rattle.transcript.specs.declared.lines.Line.{Line}
use Rattle.run_texts.specs.RunLines.{lines_of_run}

-- some lawful run of the script has these lines first
abbrev pub Front : Script → List Line → Type 0
Front script ls = (run : Run) × (more : List Line) × LawfulRun script run × (lines_of_run run ≡ ls ++ more)
