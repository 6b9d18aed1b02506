use Rattle.std.proofs.Common.{◌≡◌, ◌+◌, ◌≤◌, [], ◌∷◌, sym, ap, subst, arith}
use Rattle.queue_model.specs.Classes.{pushed}
use Rattle.tasklet_lists.specs.ClassLists.{ClassLists}
use Rattle.turn_steps.specs.Times.{in_classes}
use Rattle.thread_loop.specs.Queues.{book_of}
use Rattle.thread_loop.proofs.TimersKept.{lists_changed}
use Rattle.thread_loop.proofs.Once.{in_run, not_pushed, once_joined}
use Rattle.thread_loop.proofs.Ranges.{pinned_nice, shared_nice}
use Rattle.thread_loop.proofs.queues.Queues.queue.Goals as goal

pub arrive-requires-clause-not_low : goal.arrive-requires-clause-not_low
arrive-requires-clause-not_low c = (pinned_nice c.args.script.now _ c.args.id.0 _ _ _ c.tasks.ensures.same c.tasks.ensures.sound c.requires.exists c.in-Pinned.is).0

pub arrive-requires-clause-not_high : goal.arrive-requires-clause-not_high
arrive-requires-clause-not_high c = (pinned_nice c.args.script.now _ c.args.id.0 _ _ _ c.tasks.ensures.same c.tasks.ensures.sound c.requires.exists c.in-Pinned.is).1

pub arrive-requires-in-Shared-clause-not_low : goal.arrive-requires-in-Shared-clause-not_low
arrive-requires-in-Shared-clause-not_low c = (shared_nice c.args.script.now _ c.args.id.0 _ _ c.tasks.ensures.same c.tasks.ensures.sound c.requires.exists c.in-Shared.is).0

pub arrive-requires-in-Shared-clause-not_high : goal.arrive-requires-in-Shared-clause-not_high
arrive-requires-in-Shared-clause-not_high c = (shared_nice c.args.script.now _ c.args.id.0 _ _ c.tasks.ensures.same c.tasks.ensures.sound c.requires.exists c.in-Shared.is).1

pub push-requires-clause-apart : goal.push-requires-clause-apart
push-requires-clause-apart c = not_pushed c.args.id.0 c.args.self.now.lists.lists (let none = c.requires.absent in omega arith)

pub returns-in-Tasklet-clause-fits : goal.returns-in-Tasklet-clause-fits
returns-in-Tasklet-clause-fits c =
    let q = c.args.self.now in
    let b = book_of 0 q in
    let lists : c.push.new.self.lists ≡ pushed c.in-Tasklet.class (c.args.id.0 ∷ []) q.lists.lists = ap (λ (l : ClassLists). l.lists) c.push.ensures in
    let joined = once_joined c.in-Tasklet.class c.args.id.0 b c.requires.fits.once c.requires.absent in
    lists_changed _ q _ c.requires.fits (ap (λ (l : ClassLists). l.tasks) c.push.ensures) (λ i. subst (λ l. in_run i b.run + in_classes i l ≤ 1) (sym lists) (joined i))
