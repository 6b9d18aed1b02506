use Rattle.std.proofs.Common.{◌≡◌, ◌<◌, ℕ, length, map, replicate, slice_index_or}
use Rattle.run_model.specs.Standing.{opening, blank_book}
use Rattle.thread_loop.specs.Idle.{IsIdle, book_now}
use Rattle.thread_loop.specs.declared.worker.Worker.{Worker}
use Rattle.thread_loop.proofs.opening.workers_of.Given as goal

-- there is a worker for each number so far
abbrev pub invariant-loop-number : goal.invariant-loop-number
invariant-loop-number l = record {
  books : map book_now l.workers.items ≡ replicate l.number (blank_book (length l.script.tasks));
  count : length l.workers.items ≡ l.number;
  idle : (k : ℕ) (d : Worker) → k < l.number → IsIdle l.script 0 k (opening l.script).state (slice_index_or l.workers.items k d);
}
