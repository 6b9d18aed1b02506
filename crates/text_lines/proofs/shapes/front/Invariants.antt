-- The values so far in front of those of the slots that are left, and room for these.
use Rattle.std.proofs.Common.{◌≡◌, ◌+◌, ◌≤◌, drop, length}
use Rattle.std.specs.Prelude.{Some}
use Rattle.text_lines.specs.Pieces.{words_in}
use Rattle.text_lines.specs.Slots.{slots_of, values_of}
use Rattle.text_lines.specs.Shapes.{value_count, led_by, front}
use Rattle.text_lines.proofs.shapes.front.Given as goal

abbrev pub invariant-loop-slot : goal.invariant-loop-slot
invariant-loop-slot l =
    (length l.values.items + value_count (slots_of (drop l.slot-index l.slots)) ≤ 4) × (led_by (Some (values_of l.values.items)) (front (slots_of (drop l.slot-index l.slots)) (words_in l.rest)) ≡ front (slots_of l.slots) (words_in l.fn.words))
