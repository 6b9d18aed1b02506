use Rattle.std.proofs.Common.{◌≡◌, ◌<◌, ◌≤◌, ℕ, length, slice_index_or}
use Rattle.thread_loop.specs.Boards.{log_of, turn_room, IsSame}
use Rattle.thread_loop.specs.declared.worker.Worker.{Worker}
use Rattle.thread_loop.proofs.plant.reserve_turns.Given as goal

-- the workers so far have room for a turn, and all are as before but for that
abbrev pub invariant-loop-worker : goal.invariant-loop-worker
invariant-loop-worker l = record {
  count : length l.worker-items ≡ length l.initial.worker-items;
  same : (k : ℕ) (d : Worker) → k < length l.initial.worker-items → IsSame (slice_index_or l.initial.worker-items k d) (slice_index_or l.worker-items k d);
  reserved : (k : ℕ) (d : Worker) → k < l.worker-index → turn_room l.script ≤ (log_of (slice_index_or l.worker-items k d)).room;
}
