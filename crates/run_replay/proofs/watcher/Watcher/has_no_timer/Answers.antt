use Rattle.std.proofs.Common.{ap, length, sym, ◌∙◌, arith, slice_index_or}
use Rattle.thread_loop.proofs.Resting.{timer_left, untimed_more, untimed_all}
use Rattle.run_replay.proofs.watcher.Watcher.has_no_timer.Goals as goal

pub returns-then-is_some : goal.returns-then-is_some
returns-then-is_some c =
    let same = ap length c.deref-worker-items.ensures.value in
    sym (timer_left c.args.self.now.workers.items c.loop-worker.worker-index c.worker-item.result c.first_key.result (omega arith) (c.worker-item.is ∙ ap (λ ws. slice_index_or ws c.loop-worker.worker-index c.worker-item.result) c.deref-worker-items.ensures.value) c.first_key.ensures (sym c.is_some.ensures ∙ c.if-is_some.true))

pub loop-worker-preserved : goal.loop-worker-preserved
loop-worker-preserved c =
    let same = ap length c.deref-worker-items.ensures.value in
    record { none = untimed_more c.args.self.now.workers.items c.loop-worker.worker-index c.worker-item.result c.first_key.result c.loop-worker.invariant.none (omega arith) (c.worker-item.is ∙ ap (λ ws. slice_index_or ws c.loop-worker.worker-index c.worker-item.result) c.deref-worker-items.ensures.value) c.first_key.ensures (sym c.is_some.ensures ∙ c.if-is_some.false) }

pub returns : goal.returns
returns c =
    let same = ap length c.deref-worker-items.ensures.value in
    sym (untimed_all c.args.self.now.workers.items c.loop-worker.worker-index c.loop-worker.invariant.none (omega arith))
