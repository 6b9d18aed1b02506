use Rattle.std.proofs.Common.{◌≡◌, ◌<◌, ℕ, nat_lt, false, slice_index_or}
use Rattle.turn_steps.specs.Left.{draws_now}
use Rattle.thread_loop.specs.Workers.{stage_of}
use Rattle.thread_loop.specs.declared.worker.Worker.{Worker}
use Rattle.run_replay.proofs.watcher.Watcher.may_draw.Given as goal

-- the workers so far may not draw
abbrev pub invariant-loop-worker : goal.invariant-loop-worker
invariant-loop-worker l = record { none : (k : ℕ) (d : Worker) → k < l.worker-index → nat_lt 0 (draws_now l.script (stage_of l.script (slice_index_or l.self.workers.items k d))) ≡ false }
