use Rattle.std.proofs.Common.{◌≡◌, ℕ, ◌+◌, ◌*◌, ◌≤◌, ◌<◌, length}
use Rattle.run_model.specs.Book.{queued_all}
use Rattle.turn_steps.specs.Times.{times, listed}
use Rattle.thread_loop.proofs.Members.{in_group}
use Rattle.thread_loop.specs.Queues.{book_of, Fits, made_of}
use Rattle.thread_loop.proofs.queues.Queues.collect.Given as goal

abbrev pub invariant-loop-rest : goal.invariant-loop-rest
invariant-loop-rest l = record {
  fits : Fits l.script l.self;
  exist : (i : ℕ) → 0 < times i (in_group l.group l.rest) → i < length l.script.tasks;
  absent : (i : ℕ) → times i (in_group l.group l.rest) + listed i (book_of 0 l.self) ≤ 1;
  book : (T : ℕ) → queued_all l.script (in_group l.group l.rest) (book_of T l.self) ≡ queued_all l.script (in_group l.group l.mask) (book_of T l.initial.self);
  grows : made_of l.initial.self ≤ made_of l.self;
  made : made_of l.self + 2 * length (in_group l.group l.rest) ≤ made_of l.initial.self + 128;
}

abbrev pub decreases-loop-rest : goal.decreases-loop-rest
decreases-loop-rest l = length (in_group l.group l.rest)
