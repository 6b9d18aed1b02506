use Rattle.board_bench.proofs.OneTask.{one_first, one_drawn, clear_missed}
use Rattle.board_bench.proofs.drawn.draw_and_run.Goals as goal

pub run_drawn-requires-clause-drawn : goal.run_drawn-requires-clause-drawn
run_drawn-requires-clause-drawn c =
    let test = c.if-draw.true in
    record { exists = c.requires.task.exists; one = one_drawn _ _ _ c.args.id (one_first _ _ c.args.id.0 c.requires.clear) (c.draw.ensures.drawn test) }

pub returns-else-draw-clause-clear : goal.returns-else-draw-clause-clear
returns-else-draw-clause-clear c = clear_missed _ _ _ _ c.requires.clear (c.draw.ensures.missed c.if-draw.false)
