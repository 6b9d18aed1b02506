-- What the lines that are left make of what was read is what the whole text makes.
use Rattle.std.proofs.Common.{◌≡◌, ◌<◌, length}
use Rattle.text_lines.specs.Pieces.{pieces}
use Rattle.text_lines.specs.Lines.{folded, read_within}
use Rattle.text_lines.proofs.LinesRead.{HasRoom}
use Rattle.transcript.specs.Judging.{transcripts, opening}
use Rattle.transcript.proofs.reader.read_within.Given as goal

abbrev pub invariant-loop-next : goal.invariant-loop-next
invariant-loop-next l =
    (folded transcripts l.over l.number l.progress (pieces 10 l.rest) ≡ read_within transcripts opening l.fn.most l.fn.bytes) × HasRoom l.over l.number (length l.rest) × (l.progress.rounds < l.number)

abbrev pub decreases-loop-next : goal.decreases-loop-next
decreases-loop-next l = length l.rest
