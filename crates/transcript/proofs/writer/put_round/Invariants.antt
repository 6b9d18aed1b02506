-- The round's line and the entries so far stand behind the old text.
use Rattle.std.proofs.Common.{◌≡◌, ◌++◌, take}
use Rattle.std.specs.List.{flat_map}
use Rattle.text_lines.specs.Added.{Kept}
use Rattle.transcript.specs.Spelling.{entry_text, line_text}
use Rattle.transcript.specs.declared.lines.Line.TheVariants as line
use Rattle.transcript.proofs.writer.put_round.Given as goal

abbrev pub invariant-loop-entry : goal.invariant-loop-entry
invariant-loop-entry l =
    Kept l.fn.out.items l.out.items × (l.out.items ≡ l.fn.out.items ++ (line_text (line.Round l.fn.number l.fn.tick) ++ flat_map entry_text (take l.entry-index l.entries)))
