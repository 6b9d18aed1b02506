-- the lines that are left decide
use Rattle.std.proofs.Common.{length}
use Rattle.text_lines.specs.Lines.{read_within}
use Rattle.step_tables.specs.Judging.{scripts, nothing}
use Rattle.step_tables.proofs.LineLoop.{Before}
use Rattle.step_tables.proofs.reading.script_within.Given as goal

abbrev pub invariant-lines : goal.invariant-lines
invariant-lines l = Before l.over l.bytes l.rest l.number l.progress (read_within scripts nothing l.limit l.bytes)

abbrev pub decreases-lines : goal.decreases-lines
decreases-lines l = length l.rest
