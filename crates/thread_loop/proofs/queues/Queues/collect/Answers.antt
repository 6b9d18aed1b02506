use Rattle.std.proofs.Common.{◌≡◌, [], length, refl, sym, ap, subst, ◌∙◌}
use Rattle.run_model.specs.Book.{queued_all}
use Rattle.thread_loop.specs.Queues.{book_of, made_of}
use Rattle.thread_loop.proofs.Collecting.{Exist, Absent, first-exists, rest-exist, first-absent, rest-absent, rest-book, rest-shorter, room-first, room-rest, high_fits, sum_fits, begins, same_book, made_bound, grown, shorter}
use Rattle.thread_loop.proofs.Members.{in_group, in_group-is, group-first, group-none, group-few}
use Rattle.thread_loop.proofs.queues.Queues.collect.Goals as goal

pub loop-rest-init : goal.loop-rest-init
loop-rest-init c =
    let g = c.args.group in
    let m = c.args.mask in
    let is = sym (in_group-is g m) in
    record {
      fits = c.requires.fits;
      exist = subst (Exist (length c.args.script.now.tasks)) is c.requires.exist;
      absent = subst (λ ids. Absent ids (book_of 0 c.args.self.now)) is c.requires.absent;
      book = λ T. refl;
      grows = begins.0 (made_of c.args.self.now);
      made = begins.1 (made_of c.args.self.now) (length (in_group g m)) (group-few g m);
    }

pub queue-requires-clause-exists : goal.queue-requires-clause-exists
queue-requires-clause-exists c =
    first-exists _ _ _ (group-first c.args.group c.loop-rest.rest c.loop-rest-test.true c.loop-rest.auto.rest-fits) (length c.args.script.now.tasks) c.loop-rest.invariant.exist

pub overflow_mul-group : goal.overflow_mul-group
overflow_mul-group c =
    high_fits _ _ _ c.requires.fits.few (first-exists _ _ _ (group-first c.args.group c.loop-rest.rest c.loop-rest-test.true c.loop-rest.auto.rest-fits) (length c.args.script.now.tasks) c.loop-rest.invariant.exist)

pub overflow_add-group : goal.overflow_add-group
overflow_add-group c =
    sum_fits _ _ c.requires.fits.few (first-exists _ _ _ (group-first c.args.group c.loop-rest.rest c.loop-rest-test.true c.loop-rest.auto.rest-fits) (length c.args.script.now.tasks) c.loop-rest.invariant.exist)

pub queue-requires-clause-absent : goal.queue-requires-clause-absent
queue-requires-clause-absent c =
    first-absent _ _ _ (group-first c.args.group c.loop-rest.rest c.loop-rest-test.true c.loop-rest.auto.rest-fits) (book_of 0 c.loop-rest.self) c.loop-rest.invariant.absent

pub queue-requires-clause-room : goal.queue-requires-clause-room
queue-requires-clause-room c =
    room-first _ (made_of c.args.self.now) _ _ _ (rest-shorter _ _ _ (group-first c.args.group c.loop-rest.rest c.loop-rest-test.true c.loop-rest.auto.rest-fits)) c.loop-rest.invariant.made c.requires.room

pub loop-rest-smaller : goal.loop-rest-smaller
loop-rest-smaller c = shorter _ _ (rest-shorter _ _ _ (group-first c.args.group c.loop-rest.rest c.loop-rest-test.true c.loop-rest.auto.rest-fits))

pub loop-rest-preserved : goal.loop-rest-preserved
loop-rest-preserved c =
    let first = group-first c.args.group c.loop-rest.rest c.loop-rest-test.true c.loop-rest.auto.rest-fits in
    let was = c.loop-rest.invariant in
    let call = c.queue.ensures in
    record {
      fits = call.fits;
      exist = rest-exist _ _ _ first (length c.args.script.now.tasks) was.exist;
      absent = rest-absent _ _ _ first c.args.script.now (book_of 0 c.loop-rest.self) _ was.absent (call.book 0);
      book = λ T. rest-book _ _ _ first c.args.script.now (book_of T c.loop-rest.self) _ (call.book T) ∙ was.book T;
      grows = grown _ _ _ was.grows call.made.grows;
      made = room-rest _ _ _ _ _ (rest-shorter _ _ _ first) was.made call.made.bound;
    }

pub returns-clause-book : goal.returns-clause-book
returns-clause-book c T =
    let none : in_group c.args.group c.loop-rest.rest ≡ [] = ap (in_group c.args.group) c.loop-rest-test.false ∙ group-none c.args.group in
    same_book c.args.script.now (book_of T c.loop-rest.self) (book_of T c.args.self.now) (in_group c.args.group c.args.mask) (in_group c.args.group c.loop-rest.rest) none (c.loop-rest.invariant.book T) ∙ ap (λ ids. queued_all c.args.script.now ids (book_of T c.args.self.now)) (in_group-is c.args.group c.args.mask)

pub returns-clause-fits : goal.returns-clause-fits
returns-clause-fits c = c.loop-rest.invariant.fits

pub returns-clause-made : goal.returns-clause-made
returns-clause-made c = record { grows = c.loop-rest.invariant.grows; bound = made_bound _ _ _ c.loop-rest.invariant.made }
