-- The parts so far stand behind the old text.
use Rattle.std.proofs.Common.{◌≡◌, ◌++◌, take}
use Rattle.text_lines.specs.Added.{Kept}
use Rattle.run_picture.specs.Parts.{parts_text}
use Rattle.run_picture.proofs.parts.put.Given as goal

abbrev pub invariant-loop-part : goal.invariant-loop-part
invariant-loop-part l =
    Kept l.fn.out.items l.out.items × (l.out.items ≡ l.fn.out.items ++ parts_text (take l.part-index l.parts))
