-- What was written and what is left to write make the whole word.
use Rattle.std.proofs.Common.{◌≡◌, ◌++◌}
use Rattle.text_lines.specs.Added.{Kept}
use Rattle.text_lines.specs.Reasons.{reasons_word}
use Rattle.text_lines.proofs.Listed.{left}
use Rattle.text_lines.proofs.putting.put_reasons.Given as goal

abbrev pub invariant-loop-bit : goal.invariant-loop-bit
invariant-loop-bit l =
    Kept l.fn.out.items l.out.items × (l.out.items ++ left l.is_first l.rest l.bit ≡ l.fn.out.items ++ reasons_word l.fn.reasons)
