use Rattle.std.proofs.Common.{◌<◌, ◌^◌, ◌*◌, refl, sym, subst}
use Rattle.turn_steps.specs.Left.{Stage}
use Rattle.turn_steps.specs.Has.{caller}
use Rattle.turn_steps.specs.Counts.{calls_left}
use Rattle.thread_loop.specs.Queues.{made_of}
use Rattle.thread_loop.specs.Turns.{NamesTasks, stage_in, unsettled}
use Rattle.thread_loop.specs.Workers.{Fits, number_of, tick_of, stage_of, takes_of}
use Rattle.thread_loop.proofs.Workers.{taken_in, heard_names, heard_calls, unsettled-le, room_after, row_known, takes_few}
use Rattle.thread_loop.proofs.worker.Worker.heard.Goals as goal

pub row_to_take-row-requires : goal.row_to_take-row-requires
unfolding Fits
row_to_take-row-requires c =
    taken_in c.args.script.now (stage_in c.args.script.now c.args.self.now.turn) c.to_take-taken.result _ c.to_take-taken.ensures c.requires.fits.tasks c.requires.fits.rows.rows

pub heard-requires-clause-row : goal.heard-requires-clause-row
unfolding Fits stage_of
heard-requires-clause-row c =
    row_known c.args.script.now c.args.self.now (stage_in c.args.script.now c.args.self.now.turn) c.to_take-taken.result c.row_to_take-row.result c.args.reply.now c.to_take-taken.ensures c.requires.fits.tasks c.requires.fits.rows c.requires.takes c.row_to_take-row.ensures

pub count-requires-clause-exists : goal.count-requires-clause-exists
unfolding Fits
count-requires-clause-exists c =
    taken_in c.args.script.now (stage_in c.args.script.now c.args.self.now.turn) c.to_take-taken.result _ c.to_take-taken.ensures c.requires.fits.tasks refl

pub count-requires-clause-few : goal.count-requires-clause-few
unfolding Fits stage_of takes_of
count-requires-clause-few c =
    takes_few c.args.self.now (stage_in c.args.script.now c.args.self.now.turn) c.args.script.now c.to_take-taken.result c.args.reply.now c.to_take-taken.ensures c.requires.takes

pub returns-clause-fits : goal.returns-clause-fits
unfolding Fits stage_of number_of tick_of
returns-clause-fits c =
    let names : NamesTasks c.args.script.now (stage_in c.args.script.now c.heard.new.self) = subst (NamesTasks c.args.script.now) (sym c.heard.ensures.stage) (heard_names c.args.script.now (caller c.args.self.now.number) c.args.self.now.turn.tick (stage_in c.args.script.now c.args.self.now.turn) c.args.reply.now c.requires.can_give c.requires.fits.tasks) in
    let few = heard_calls c.args.script.now (caller c.args.self.now.number) c.args.self.now.turn.tick (stage_in c.args.script.now c.args.self.now.turn) c.args.reply.now c.requires.fits.sound c.requires.can_give in
    let calls : calls_left c.args.script.now.depth (stage_in c.args.script.now c.heard.new.self).left (stage_in c.args.script.now c.heard.new.self).book < calls_left c.args.script.now.depth (stage_in c.args.script.now c.args.self.now.turn).left (stage_in c.args.script.now c.args.self.now.turn).book = subst (λ (g : Stage). calls_left c.args.script.now.depth g.left g.book < calls_left c.args.script.now.depth (stage_in c.args.script.now c.args.self.now.turn).left (stage_in c.args.script.now c.args.self.now.turn).book) (sym c.heard.ensures.stage) few in
    rw c.count.ensures.same (record {
      sound = c.requires.fits.sound;
      turn = c.heard.ensures.fits;
      tasks = names;
      rows = c.count.ensures.rows;
      number = c.requires.fits.number;
      turns = c.requires.fits.turns;
      room = room_after (made_of c.args.self.now.turn.queues) (made_of c.heard.new.self.queues) _ _ (unsettled (stage_in c.args.script.now c.args.self.now.turn).book.wait) _ (c.args.self.now.turns * 2 ^ 31) c.heard.ensures.steps.grows.bound calls (unsettled-le (stage_in c.args.script.now c.heard.new.self).book.wait) c.requires.fits.room;
    })
