use Rattle.std.proofs.Common.{◌≡◌, ◌+◌, ◌*◌, ◌%◌, ◌≤◌, ◌<◌, length, ◌∙◌, arith, mod-lt}
use Rattle.board_bench.proofs.drawn.draws.Goals as goal

pub draw_and_run-requires-clause-task : goal.draw_and_run-requires-clause-task
draw_and_run-requires-clause-task c =
    let some' = c.requires.some_tasks in
    c.requires.tasks (c.loop-n.n % c.args.tasks) (mod-lt c.loop-n.n (omega arith))

pub loop-n-preserved : goal.loop-n-preserved
loop-n-preserved c =
    let i = c.loop-n.invariant in
    let few = i.few in
    let more = c.draw_and_run.ensures.few in
    record { clear = c.draw_and_run.ensures.clear; few = omega arith; who = c.draw_and_run.ensures.who ∙ i.who }
