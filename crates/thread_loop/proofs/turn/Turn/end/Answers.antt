use Rattle.std.proofs.Common.{sym, ◌∙◌}
use Rattle.thread_loop.specs.Queues.{book_of}
use Rattle.thread_loop.specs.Turns.{stage_in}
use Rattle.thread_loop.proofs.Ended.{is_first, is_later, over_stage, settled_room, first_ended, second_ended, first_stage, later_stage}
use Rattle.thread_loop.proofs.turn.Turn.end.Goals as goal

pub returns-then-version-lt2-clause-stage : goal.returns-then-version-lt2-clause-stage
returns-then-version-lt2-clause-stage c =
    let first = is_first c.args.script.now c.version.result c.version.ensures.same c.if-version-lt2.true in
    first_stage c.args.script.now c.args.self.now.tick (stage_in c.args.script.now c.args.self.now) first

pub returns-then-version-lt2-clause-book : goal.returns-then-version-lt2-clause-book
returns-then-version-lt2-clause-book c =
    let first = is_first c.args.script.now c.version.result c.version.ensures.same c.if-version-lt2.true in
    sym (first_ended c.args.script.now c.args.self.now.tick (book_of c.args.self.now.tick c.args.self.now.queues) first)

pub returns-clause-stage : goal.returns-clause-stage
returns-clause-stage c =
    let s = c.args.script.now in
    let t = c.args.self.now in
    let later = is_later s c.version.result c.version.ensures.same c.if-version-lt2.false in
    later_stage s t.tick t.queues c.settle.new.self t.phase later c.requires.over c.settle.ensures.book

pub returns-clause-book : goal.returns-clause-book
returns-clause-book c =
    let s = c.args.script.now in
    let t = c.args.self.now in
    let later = is_later s c.version.result c.version.ensures.same c.if-version-lt2.false in
    c.settle.ensures.book ∙ sym (second_ended s t.tick (book_of t.tick t.queues) later)

pub returns-clause-over : goal.returns-clause-over
returns-clause-over c =
    let t = c.args.self.now in
    (over_stage c.args.script.now t.tick t.queues c.settle.new.self t.phase _ c.requires.over c.settle.ensures.book).1

pub returns-clause-room : goal.returns-clause-room
returns-clause-room c =
    let t = c.args.self.now in
    settled_room t.tick _ t.queues c.settle.new.self c.settle.ensures.book c.settle.ensures.made.bound c.requires.fits.queues.few c.settle.ensures.stays
