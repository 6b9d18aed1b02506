-- The bits so far with those of the words that are left.
use Rattle.std.proofs.Common.{◌≡◌, ◌<◌, ◌^◌}
use Rattle.text_lines.specs.Reasons.{reasons}
use Rattle.text_lines.specs.Pieces.{pieces_left}
use Rattle.text_lines.proofs.BitsLeft.{bits_left}
use Rattle.text_lines.proofs.reason_words.reasons.Given as goal

abbrev pub invariant-loop-bit : goal.invariant-loop-bit
invariant-loop-bit l = (l.bits < 2 ^ l.bit) × (bits_left l.bits l.bit (pieces_left 44 l.left) ≡ reasons l.fn.word)
