-- The digits of what is left, and those that stand behind.
use Rattle.std.proofs.Common.{◌≡◌, ◌++◌, drop, length}
use Rattle.text_lines.specs.Masks.{hex_word}
use Rattle.text_lines.proofs.putting.mask_digits.Given as goal

abbrev pub invariant-loop-place : goal.invariant-loop-place
invariant-loop-place l = (length l.digits ≡ 16) × (hex_word l.place l.rest ++ drop l.place l.digits ≡ hex_word 16 l.fn.mask)
