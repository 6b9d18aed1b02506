use Rattle.std.proofs.Common.{refl, ap}
use Rattle.thread_loop.specs.Queues.{book_of}
use Rattle.thread_loop.proofs.TimersKept.{runners_changed}
use Rattle.thread_loop.proofs.Once.{once_picked, picked_absent, first_exists}
use Rattle.thread_loop.proofs.queues.Queues.pick.Goals as goal

pub returns-clause-exists : goal.returns-clause-exists
returns-clause-exists c = first_exists c.args.script.now c.args.self.now _ c.requires c.pick-picked.ensures.picked

pub returns-clause-absent : goal.returns-clause-absent
returns-clause-absent c = picked_absent (book_of 0 c.args.self.now) _ c.requires.once c.pick-picked.ensures.list _ c.pick-picked.ensures.picked

pub returns-clause-fits : goal.returns-clause-fits
returns-clause-fits c =
    let call = c.pick-picked.ensures in
    let q = c.args.self.now in
    runners_changed _ q _ _ q.lists c.requires c.stay_keyed.ensures call.fits call.others (ap (λ r. r.root) call.queue) (ap (λ r. r.depth) call.queue) refl (once_picked (book_of 0 q) _ c.requires.once call.list)
