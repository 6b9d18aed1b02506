use Rattle.std.proofs.Common.{◌≡◌, ◌≤◌, arith, sym, subst}
use Rattle.turn_steps.specs.Left.{Stage, begun}
use Rattle.turn_steps.specs.Counts.{calls_left}
use Rattle.thread_loop.specs.Queues.{book_of, made_of}
use Rattle.thread_loop.specs.Turns.{NamesTasks, stage_in, unsettled}
use Rattle.thread_loop.specs.Workers.{Fits, turns_of}
use Rattle.thread_loop.proofs.Workers.{begun_names, begun_calls, unsettled-le, room_begun}
use Rattle.thread_loop.proofs.worker.Worker.begin_turn.Goals as goal

pub returns-clause-fits : goal.returns-clause-fits
unfolding Fits turns_of
returns-clause-fits c =
    let s = c.args.script.now in
    let old = c.args.self.now.turn in
    let stage : stage_in c.args.script.now c.begin.new.self ≡ begun c.args.script.now c.args.now (book_of c.args.now c.args.self.now.turn.queues) = c.begin.ensures.stage in
    let names = begun_names c.args.script.now c.args.self.now.turn.tick c.args.now c.args.self.now.turn.queues c.args.self.now.turn.phase c.requires.fits.tasks in
    let few = begun_calls c.args.script.now c.args.now (book_of c.args.now c.args.self.now.turn.queues) c.requires.fits.sound (c.keep_few.ensures c.args.now) in
    let calls : calls_left c.args.script.now.depth (stage_in c.args.script.now c.begin.new.self).left (stage_in c.args.script.now c.begin.new.self).book ≤ 75265 = subst (λ (g : Stage). calls_left c.args.script.now.depth g.left g.book ≤ 75265) (sym stage) few in
    record {
      sound = c.requires.fits.sound;
      turn = c.begin.ensures.fits;
      tasks = subst (NamesTasks c.args.script.now) (sym stage) names;
      rows = c.requires.fits.rows;
      number = c.requires.fits.number;
      turns = omega arith;
      room = room_begun (made_of c.args.self.now.turn.queues) (made_of c.begin.new.self.queues) (calls_left c.args.script.now.depth (stage_in c.args.script.now c.args.self.now.turn).left (stage_in c.args.script.now c.args.self.now.turn).book) _ (unsettled (stage_in c.args.script.now c.args.self.now.turn).book.wait) _ c.args.self.now.turns c.begin.ensures.grows.bound calls (unsettled-le (stage_in c.args.script.now c.begin.new.self).book.wait) c.requires.fits.room;
    }
