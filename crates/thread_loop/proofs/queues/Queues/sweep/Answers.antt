use Rattle.std.proofs.Common.{arith}
use Rattle.thread_loop.proofs.TimersKept.{timers_changed}
use Rattle.thread_loop.proofs.TimersOf.{sweep_ends, sweep_goes}
use Rattle.thread_loop.proofs.queues.Queues.sweep.Goals as goal

pub returns-clause-fits : goal.returns-clause-fits
returns-clause-fits c =
    let call = c.sweep_next-fired.ensures in
    timers_changed _ c.args.self.now _ _ c.requires.fits c.stay_keyed.ensures call.fits call.others call.queue

pub returns-clause-none : goal.returns-clause-none
returns-clause-none c =
    let call = c.sweep_next-fired.ensures in
    sweep_ends c.args.script.now c.args.self.now c.args.now _ _ (omega arith) c.requires.fits call.fired call.list

pub returns-clause-some : goal.returns-clause-some
returns-clause-some c =
    let call = c.sweep_next-fired.ensures in
    sweep_goes c.args.script.now c.args.self.now c.args.now _ _ (omega arith) c.requires.fits call.fired call.list
