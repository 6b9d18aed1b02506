use Rattle.std.proofs.Common.{◌≡◌, ◌<◌, ℕ, None, slice_index_or}
use Rattle.turn_steps.specs.Left.{asked}
use Rattle.thread_loop.specs.Workers.{stage_of}
use Rattle.thread_loop.specs.declared.worker.Worker.{Worker}
use Rattle.run_replay.proofs.watcher.Watcher.is_done.Given as goal

-- the workers so far have no call left
abbrev pub invariant-loop-worker : goal.invariant-loop-worker
invariant-loop-worker l = record { none : (k : ℕ) (d : Worker) → k < l.worker-index → asked l.script (stage_of l.script (slice_index_or l.self.workers.items k d)) ≡ None }
