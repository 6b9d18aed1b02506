-- What stood there first stays in front.
use Rattle.text_lines.specs.Added.{Kept}
use Rattle.run_picture.proofs.scenery.put_legend.Given as goal

abbrev pub invariant-loop-place : goal.invariant-loop-place
invariant-loop-place l = Kept l.fn.out.items l.out.items
