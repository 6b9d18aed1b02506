use Rattle.board_bench.proofs.Callers.{used_after}
use Rattle.board_bench.proofs.work.wakes.Goals as goal

pub loop-preserved : goal.loop-preserved
loop-preserved c =
    used_after c.args.board.now c.loop.pass c.wake-seen.new.pass _ _ c.loop.invariant c.wake-seen.ensures
