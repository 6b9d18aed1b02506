use Rattle.std.proofs.Common.{ap, length, ◌∙◌, arith, slice_index_or}
use Rattle.thread_loop.proofs.NextTick.{first-more, first-all}
use Rattle.run_replay.proofs.watcher.Watcher.first_timer.Goals as goal

pub loop-worker-preserved : goal.loop-worker-preserved
loop-worker-preserved c =
    let same = ap length c.deref-worker-items.ensures.value in
    record { so_far = first-more c.args.now c.loop-worker.worker-index c.args.self.now.workers.items c.worker-item.result c.loop-worker.first c.first_key.result c.earlier_in-first.result (omega arith) (c.worker-item.is ∙ ap (λ ws. slice_index_or ws c.loop-worker.worker-index c.worker-item.result) c.deref-worker-items.ensures.value) c.loop-worker.invariant.so_far c.first_key.ensures c.earlier_in-first.ensures }

pub returns : goal.returns
returns c =
    let same = ap length c.deref-worker-items.ensures.value in
    first-all c.args.now c.loop-worker.worker-index c.args.self.now.workers.items c.loop-worker.first (omega arith) c.loop-worker.invariant.so_far
