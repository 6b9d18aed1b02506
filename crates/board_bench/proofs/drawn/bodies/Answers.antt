use Rattle.std.proofs.Common.{◌≡◌}
use Rattle.task_machine.specs.Own.{drawing}
use Rattle.board_bench.proofs.OneTask.{nobody_out, one_out, one_in, out_drawn}
use Rattle.board_bench.proofs.drawn.bodies.Goals as goal

pub body_in-requires-clause-out : goal.body_in-requires-clause-out
body_in-requires-clause-out c =
    let t = c.body_out-body.result.takes in
    out_drawn _ _ _ t (one_out _ _ _ _ t c.loop.invariant.one c.body_out-body.ensures.out)

pub loop-preserved : goal.loop-preserved
loop-preserved c =
    let t = c.body_out-body.result.takes in
    let o = one_out _ _ _ _ t c.loop.invariant.one c.body_out-body.ensures.out in
    record { exists = c.loop.invariant.exists; one = one_in _ _ _ _ t drawing o c.body_in.ensures.back }
