use Rattle.std.proofs.Common.{◌≡◌, ◌<◌, ◌≤◌, ℕ, length, slice_index_or}
use Rattle.thread_loop.specs.Plants.{MayEnd, EndsTurn}
use Rattle.thread_loop.specs.declared.worker.Worker.{Worker}
use Rattle.thread_loop.proofs.plant.end_turns.Given as goal

-- the turns of the workers so far are ended, and the others are as before
abbrev pub invariant-loop-worker : goal.invariant-loop-worker
invariant-loop-worker l = record {
  count : length l.worker-items ≡ length l.initial.worker-items;
  ended : (k : ℕ) (d : Worker) → k < l.worker-index → EndsTurn l.script (slice_index_or l.initial.worker-items k d) (slice_index_or l.worker-items k d);
  left : (k : ℕ) (d : Worker) → l.worker-index ≤ k → slice_index_or l.worker-items k d ≡ slice_index_or l.initial.worker-items k d;
  may : (k : ℕ) (d : Worker) → k < length l.initial.worker-items → MayEnd l.script (slice_index_or l.initial.worker-items k d);
}
