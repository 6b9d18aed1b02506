use Rattle.std.proofs.Common.{◌≡◌, ◌<◌, ℕ, length, slice_index_or}
use Rattle.thread_loop.specs.Idle.{book_now}
use Rattle.thread_loop.specs.declared.worker.Worker.{Worker}
use Rattle.run_replay.proofs.watcher.Watcher.has_no_timer.Given as goal

-- the workers so far have no timer
abbrev pub invariant-loop-worker : goal.invariant-loop-worker
invariant-loop-worker l = record { none : (k : ℕ) (d : Worker) → k < l.worker-index → length (book_now (slice_index_or l.self.workers.items k d)).wait.items ≡ 0 }
