-- The lines of a transcript that was read go on to their end line.
use Rattle.std.proofs.Common.{◌≡◌, ℕ, false, List, Ok}
use Rattle.transcript.specs.declared.lines.Line.{Line}
use Rattle.transcript.specs.Judging.{GoesOn, run_of}
use Rattle.transcript.proofs.Limit.{limit_free}
use Rattle.transcript.proofs.TextBack.{lines_text_back}

pub read-goes : (bytes : List ℕ) (ls : List Line) → run_of bytes ≡ Ok ls → GoesOn 0 false ls
read-goes bytes ls h = (lines_text_back bytes ls (limit_free bytes ls h)).0.order
