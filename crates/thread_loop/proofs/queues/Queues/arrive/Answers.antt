use Rattle.std.proofs.Common.{refl, ap, w32, to_z, of_z}
use Rattle.thread_loop.specs.Queues.{book_of}
use Rattle.thread_loop.proofs.TimersKept.{runners_changed}
use Rattle.thread_loop.proofs.Once.{not_listed, once_arrived}
use Rattle.thread_loop.proofs.queues.Queues.arrive.Goals as goal

pub insert-requires-clause-absent : goal.insert-requires-clause-absent
insert-requires-clause-absent c = not_listed c.args.id.0 (book_of 0 c.args.self.now) c.requires.absent

pub returns-clause-fits : goal.returns-clause-fits
returns-clause-fits c =
    let call = c.insert.ensures in
    let q = c.args.self.now in
    let once = once_arrived q.runners.depth c.args.id.0 (to_z w32 (of_z w32 c.args.nice)) (book_of 0 q) _ c.requires.fits.once c.requires.absent call.list in
    runners_changed _ q _ _ q.lists c.requires.fits c.stay_keyed.ensures call.fits call.others (ap (λ r. r.root) call.queue) (ap (λ r. r.depth) call.queue) refl once
