use Rattle.board_bench.proofs.Callers.{used_after, used_missed}
use Rattle.board_bench.proofs.drawn.tries.Goals as goal
use Rattle.board_bench.proofs.drawn.tries.Goals.{then-draw, else-draw}

pub loop-preserved : goal.loop-preserved
loop-preserved c =
    elim c.if-draw.branch [
      | then-draw w ↦ used_after _ _ _ _ _ c.loop.invariant (c.draw.ensures.drawn w.if-draw.true)
      | else-draw w ↦ used_missed _ _ _ _ c.loop.invariant (c.draw.ensures.missed w.if-draw.false)
    ]
