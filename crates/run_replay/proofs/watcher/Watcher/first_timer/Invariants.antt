use Rattle.std.proofs.Common.{◌≡◌, map, take}
use Rattle.std.specs.List.{flat_map}
use Rattle.run_model.specs.Standing.{earliest, first_key}
use Rattle.thread_loop.specs.Idle.{book_now}
use Rattle.run_replay.proofs.watcher.Watcher.first_timer.Given as goal

-- the first timer of the workers so far
abbrev pub invariant-loop-worker : goal.invariant-loop-worker
invariant-loop-worker l = record { so_far : l.first ≡ earliest l.now (flat_map first_key (map book_now (take l.worker-index l.self.workers.items))) }
