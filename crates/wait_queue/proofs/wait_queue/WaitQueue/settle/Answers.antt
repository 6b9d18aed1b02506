use Rattle.std.proofs.Common.{◌+◌, ◌<◌, ◌^◌, refl, sym, ◌∙◌, subst, length}
use Rattle.sched_base.specs.KeyedList.{KeyedRoots}
use Rattle.wait_queue.specs.Looks.{IsLeft}
use Rattle.wait_queue.specs.Timers.{Timers, wait_list, insertions_of}
use Rattle.wait_queue.proofs.Settling.{start, onward_same, smaller, room, is_left}
use Rattle.wait_queue.proofs.wait_queue.WaitQueue.settle.Goals as goal

pub loop-init : goal.loop-init
loop-init g c = record {
  queue = refl;
  far = start c.args.now c.args.self.now (g.K.KeyedLists.seen c.args.lists.now) c.requires.fits c.stay_keyed.ensures;
}

pub settle_first-requires-clause-room : goal.settle_first-requires-clause-room
settle_first-requires-clause-room g c =
    let first : KeyedRoots = g.K.KeyedLists.seen c.args.lists.now in
    room c.args.now c.loop.self first (g.K.KeyedLists.seen c.loop.lists) c.loop.invariant.far (subst (λ (q : Timers). insertions_of q first + length q.expiries < 2 ^ 63) (sym c.loop.invariant.queue) c.requires.room)

pub loop-smaller : goal.loop-smaller
loop-smaller g c = smaller c.args.now c.loop.self c.settle_first.new.self (g.K.KeyedLists.seen c.loop.lists) (g.K.KeyedLists.seen c.settle_first.new.lists) (c.settle_first.ensures.moved c.loop-test.true)

pub loop-preserved : goal.loop-preserved
loop-preserved g c = record {
  queue = c.settle_first.ensures.queue ∙ c.loop.invariant.queue;
  far = onward_same c.args.now c.loop.self c.settle_first.new.self (g.K.KeyedLists.seen c.args.lists.now) (g.K.KeyedLists.seen c.loop.lists) (g.K.KeyedLists.seen c.settle_first.new.lists) c.settle_first.ensures.queue c.loop.invariant.far (c.settle_first.ensures.moved c.loop-test.true) c.settle_first.ensures.fits c.settle_first.ensures.others c.settle_first.ensures.insertions;
}

pub returns-clause-stays : goal.returns-clause-stays
returns-clause-stays g c = λ stands.
    let first : KeyedRoots = g.K.KeyedLists.seen c.args.lists.now in
    let left = subst (λ (q : Timers). IsLeft c.args.now (wait_list c.args.now q first)) (sym c.loop.invariant.queue) (is_left c.args.now (wait_list c.args.now c.args.self.now first) stands) in
    (c.settle_first.ensures.left c.loop-test.false).1 ∙ c.loop.invariant.far.stays left
