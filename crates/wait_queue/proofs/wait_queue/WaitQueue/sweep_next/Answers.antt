use Rattle.std.proofs.Common.{sym, ◌∙◌, arith}
use Rattle.queue_model.proofs.SweepSteps.{step_settled}
use Rattle.wait_queue.specs.Timers.{wait_list}
use Rattle.wait_queue.proofs.Meaning.{due_bound}
use Rattle.wait_queue.proofs.SoFar.{inserts_fired, inserts_settled}
use Rattle.wait_queue.proofs.wait_queue.WaitQueue.sweep_next.Goals as goal

pub look-requires-clause-room : goal.look-requires-clause-room
look-requires-clause-room g c =
    let whole = due_bound c.args.now c.args.self.now (g.K.KeyedLists.seen c.args.lists.now) c.requires.fits c.stay_keyed.ensures in
    omega (arith, whole, c.loop-id.invariant.bound, c.requires.room)

pub returns-in-Settled-clause-list : goal.returns-in-Settled-clause-list
returns-in-Settled-clause-list g c =
    let settled = step_settled c.args.now (wait_list c.args.now c.loop-id.self (g.K.KeyedLists.seen c.loop-id.lists)) c.in-Settled.ensures.saw.none in
    c.in-Settled.ensures.saw.same ∙ sym settled.1 ∙ c.loop-id.invariant.list

pub returns-in-Settled-clause-insertions : goal.returns-in-Settled-clause-insertions
returns-in-Settled-clause-insertions g c =
    inserts_settled c.args.now c.args.self.now (g.K.KeyedLists.seen c.args.lists.now) c.loop-id.self (g.K.KeyedLists.seen c.loop-id.lists) (g.K.KeyedLists.seen c.look.new.lists) c.loop-id.invariant c.requires.fits c.stay_keyed.ensures c.in-Settled.ensures.untouched

pub returns-in-Fired-clause-insertions : goal.returns-in-Fired-clause-insertions
returns-in-Fired-clause-insertions g c =
    inserts_fired c.args.now c.args.self.now (g.K.KeyedLists.seen c.args.lists.now) c.loop-id.self (g.K.KeyedLists.seen c.loop-id.lists) (g.K.KeyedLists.seen c.look.new.lists) c.loop-id.invariant c.in-Fired.ensures.insertions c.requires.fits c.stay_keyed.ensures c.in-Fired.ensures.saw.some
