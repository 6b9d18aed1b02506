use Rattle.std.proofs.Common.{◌<◌, ◌∙◌, length, sym, ap, subst, arith}
use Rattle.thread_loop.specs.Boards.{log_of, IsSame}
use Rattle.thread_loop.specs.declared.worker.Worker.{Worker}
use Rattle.thread_loop.proofs.Passing.{swapped-none, swapped-more, swapped-all}
use Rattle.thread_loop.proofs.round.swap_logs.Goals as goal

pub loop-number-init : goal.loop-number-init
loop-number-init c = swapped-none c.args.workers.now c.args.logs.now

pub loop-number-preserved : goal.loop-number-preserved
loop-number-preserved c =
    let more : length c.args.workers.now < length c.args.logs.now = omega (arith, c.requires) in
    swapped-more c.args.workers.now c.args.logs.now c.loop-number.workers c.loop-number.logs c.loop-number.number c.index-workers-number.result c.swap_log.new.self c.swap_log.new.log c.loop-number.invariant c.loop-number-test.true more c.index-workers-number.is (c.swap_log.ensures.given ∙ ap log_of (sym c.index-workers-number.is)) (subst (λ (w : Worker). IsSame w c.swap_log.new.self) (sym c.index-workers-number.is) c.swap_log.ensures.same)

pub returns : goal.returns
returns c =
    let more : length c.args.workers.now < length c.args.logs.now = omega (arith, c.requires) in
    swapped-all c.args.workers.now c.args.injector.now c.args.logs.now c.loop-number.workers c.swap_log-2.new.self c.loop-number.logs c.loop-number.number (length c.loop-number.workers) c.swap_log-2.new.log c.loop-number.invariant (omega arith) (omega arith) more c.swap_log-2.ensures.given
