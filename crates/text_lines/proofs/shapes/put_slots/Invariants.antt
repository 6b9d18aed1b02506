-- What was written, and what the slots that are left write.
use Rattle.std.proofs.Common.{◌≡◌, ◌++◌, drop}
use Rattle.text_lines.specs.Added.{Kept, spaced}
use Rattle.text_lines.specs.Slots.{slots_of, values_of}
use Rattle.text_lines.specs.Shapes.{words}
use Rattle.text_lines.proofs.shapes.put_slots.Given as goal

abbrev pub invariant-loop-slot : goal.invariant-loop-slot
invariant-loop-slot l =
    Kept l.fn.out.items l.out.items × (l.out.items ++ spaced (words (slots_of (drop l.slot-index l.slots)) (values_of l.left)) ≡ l.fn.out.items ++ spaced (words (slots_of l.slots) (values_of l.fn.values)))
