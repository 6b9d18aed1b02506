use Rattle.std.proofs.Common.{ap, length}
use Rattle.thread_loop.proofs.TimersKept.{timers_changed}
use Rattle.thread_loop.proofs.queues.Queues.settle.Goals as goal

pub returns-clause-fits : goal.returns-clause-fits
returns-clause-fits c =
    let call = c.settle.ensures in
    timers_changed _ c.args.self.now _ _ c.requires.fits c.stay_keyed.ensures call.fits call.others (record { root = ap (λ q. q.root) call.queue; tasks = ap (λ q. length q.expiries) call.queue })
