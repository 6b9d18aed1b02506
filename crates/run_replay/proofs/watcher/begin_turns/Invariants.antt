use Rattle.std.proofs.Common.{◌≡◌, ℕ, ◌<◌, ◌≤◌, length, get_or}
use Rattle.run_replay.specs.Watching.{Begun}
use Rattle.thread_loop.specs.declared.worker.Worker.{Worker}
use Rattle.run_replay.proofs.watcher.begin_turns.Given as goal

-- the workers so far began their turns
abbrev pub invariant-loop-number : goal.invariant-loop-number
invariant-loop-number l = record {
  count : length l.workers.items ≡ length l.initial.workers.items;
  begun : (k : ℕ) (d : Worker) → k < l.number → Begun l.script l.tick (get_or l.initial.workers.items k d) (get_or l.workers.items k d);
  same : (k : ℕ) (d : Worker) → l.number ≤ k → get_or l.workers.items k d ≡ get_or l.initial.workers.items k d;
}
