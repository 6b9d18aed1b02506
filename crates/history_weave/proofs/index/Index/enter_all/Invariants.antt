use Rattle.std.proofs.Common.{◌≡◌, ℕ, ◌<◌, ◌≤◌, get_or, length}
use Rattle.history_weave.specs.Places.{log_at}
use Rattle.history_weave.specs.Indexed.{tasks_of, HasAsManyLinks, IsIndexed}
use Rattle.history_weave.proofs.index.Index.enter_all.Given as goal

-- the logs so far are entered, and of the others no entry is
abbrev pub invariant-loop-k : goal.invariant-loop-k
invariant-loop-k l =
    record {
      indexed : IsIndexed l.logs l.self;
      done : (j : ℕ) → j < l.k → get_or l.self.next.items j 0 ≡ 0;
      rest : (j : ℕ) → l.k ≤ j → j < length l.logs → get_or l.self.next.items j 0 ≡ length (log_at l.logs j);
      tasks : tasks_of l.self ≡ tasks_of l.fn.self;
      links : HasAsManyLinks l.fn.self l.self;
    }
