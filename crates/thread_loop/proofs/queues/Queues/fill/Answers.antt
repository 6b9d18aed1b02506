use Rattle.std.proofs.Common.{◌≡◌, ℕ, ◌+◌, ◌≤◌, ◌<◌, [], ◌∷◌, length, sym, ap, subst, ◌∙◌, arith, length-append}
use Rattle.sched_base.specs.declared.names.Class.TheVariants.{Normal}
use Rattle.queue_model.specs.Classes.{pushed}
use Rattle.tasklet_lists.specs.ClassLists.{ClassLists}
use Rattle.run_model.specs.Book.{Book, filled}
use Rattle.turn_steps.specs.Times.{in_classes}
use Rattle.thread_loop.specs.Queues.{book_of}
use Rattle.thread_loop.proofs.Filling.{filled-step, filled-idle, picked-idle}
use Rattle.thread_loop.proofs.Once.{in_run, not_pushed, once_joined}
use Rattle.thread_loop.proofs.TimersKept.{lists_changed}
use Rattle.thread_loop.proofs.queues.Queues.fill.Goals as goal

pub returns-in_default-clause-book : goal.returns-in_default-clause-book
returns-in_default-clause-book c T =
    let b = book_of T c.loop-self.self in
    let none = c.in_default.ensures.task in
    c.pick.ensures.book T ∙ picked-idle b none ∙ sym (filled-idle c.args.script.now.depth b none) ∙ c.loop-self.invariant.book T

pub push-requires-clause-apart : goal.push-requires-clause-apart
push-requires-clause-apart c = not_pushed c.in-Some.id.0 c.pick.new.self.lists.lists (let none = c.in-Some.ensures.absent in omega arith)

pub loop-self-smaller : goal.loop-self-smaller
loop-self-smaller c =
    let pushes = ap (λ (l : ClassLists). length l.lists.normal) c.push.ensures in
    let same = ap (λ (b : Book). length b.lists.normal) (c.pick.ensures.book 0) in
    omega (arith, length-append c.pick.new.self.lists.lists.normal (c.in-Some.id.0 ∷ []), c.loop-self-test.true, c.len.ensures, c.depth.ensures.same)

pub loop-self-preserved : goal.loop-self-preserved
loop-self-preserved c =
    let id : ℕ = c.in-Some.id.0 in
    let q = c.pick.new.self in
    let lists : c.push.new.self.lists ≡ pushed Normal (id ∷ []) q.lists.lists = ap (λ (l : ClassLists). l.lists) c.push.ensures in
    let before : length c.loop-self.self.lists.lists.normal < c.args.script.now.depth = omega (arith, c.loop-self-test.true, c.len.ensures, c.depth.ensures.same) in
    let joined = once_joined Normal id (book_of 0 q) c.pick.ensures.fits.once c.in-Some.ensures.absent in
    record {
      fits = lists_changed _ q _ c.pick.ensures.fits (ap (λ (l : ClassLists). l.tasks) c.push.ensures) (λ i. subst (λ l. in_run i (book_of 0 q).run + in_classes i l ≤ 1) (sym lists) (joined i));
      book = λ T.
          ap (λ l. filled c.args.script.now.depth (let b : Book = record (book_of T q) { lists = l } in b)) lists
          ∙ ap (λ (b : Book). filled c.args.script.now.depth (record b { lists = pushed Normal (id ∷ []) b.lists })) (c.pick.ensures.book T)
          ∙ filled-step c.args.script.now.depth id (book_of T c.loop-self.self) before c.in-Some.ensures.task
          ∙ c.loop-self.invariant.book T;
      made = let low = c.pick.ensures.made.grows in let high = c.pick.ensures.made.bound in let was = c.loop-self.invariant.made in omega arith;
    }
