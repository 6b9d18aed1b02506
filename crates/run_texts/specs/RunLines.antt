-- The lines of a run, in order (docs/TRANSCRIPT.md, "Lines").
use Rattle.std.specs.Prelude.{ℕ, ◌+◌, ◌-◌, Bool, List, [], ◌∷◌, ◌++◌, map}
use Rattle.run_model.specs.Run.{Round, Run}
use Rattle.transcript.specs.declared.lines.Line.{Line}
use Rattle.transcript.specs.declared.lines.Line.TheVariants as line

-- the lines from round r on, with the end line last
abbrev pub lines_from : ℕ → List Round → Bool → List Line
lines_from r [] rest = line.End rest (r - 1) ∷ []
lines_from r (round ∷ more) rest = line.Round r round.tick ∷ (map line.Entry round.entries ++ lines_from (r + 1) more rest)

-- all lines of a run after the first line of its text
abbrev pub lines_of_run : Run → List Line
lines_of_run run = lines_from 0 run.rounds run.rest
