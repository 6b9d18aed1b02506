use Rattle.std.proofs.Common.{sym, subst}
use Rattle.eb32_core.specs.Forest.{seen_of}
use Rattle.sched_base.specs.KeyedList.{ChangesRoot}
use Rattle.wait_queue.specs.Timers.{Timers, IsSameQueue}
use Rattle.thread_loop.proofs.TimersKept.{timers_changed}
use Rattle.thread_loop.proofs.queues.Queues.set_timer.Goals as goal

pub returns-in-After-clause-fits : goal.returns-in-After-clause-fits
returns-in-After-clause-fits c =
    let q = c.args.self.now in
    let set' = c.set_expiry.ensures.queue in
    let call = c.arm.ensures in
    let same : IsSameQueue q.timers c.arm.new.self = subst (λ (t : Timers). IsSameQueue q.timers t) (sym call.queue) set' in
    let others : ChangesRoot q.timers.root (seen_of q.forest) (seen_of c.arm.new.lists) = subst (λ r. ChangesRoot r (seen_of q.forest) (seen_of c.arm.new.lists)) set'.root call.others in
    timers_changed _ q _ _ c.requires.fits c.stay_keyed.ensures call.fits others same
