use Rattle.std.proofs.Common.{◌≡◌, ℕ, ◌-◌, length}
use Rattle.run_model.specs.Book.{filled}
use Rattle.thread_loop.specs.Queues.{book_of, Fits, made_of}
use Rattle.thread_loop.proofs.queues.Queues.fill.Given as goal

abbrev pub invariant-loop-self : goal.invariant-loop-self
invariant-loop-self l = record {
  fits : Fits l.script l.self;
  book : (T : ℕ) → filled l.script.depth (book_of T l.self) ≡ filled l.script.depth (book_of T l.initial.self);
  made : made_of l.self ≡ made_of l.initial.self;
}

abbrev pub decreases-loop-self : goal.decreases-loop-self
decreases-loop-self l = l.script.depth - length l.self.lists.lists.normal
