-- The bars so far are drawn.
use Rattle.std.proofs.Common.{take}
use Rattle.text_lines.specs.Added.{Kept}
use Rattle.run_picture.specs.Drawing.{AddsEach}
use Rattle.run_picture.proofs.drawing.put_bars.Given as goal

abbrev pub invariant-loop-bar : goal.invariant-loop-bar
invariant-loop-bar l =
    Kept l.fn.out.items l.out.items × AddsEach (take l.bar-index l.scene.bars.now) l.fn.out.items l.out.items
