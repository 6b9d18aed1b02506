use Rattle.std.proofs.Common.{◌≡◌, ℕ, ◌<◌, get_or, take, length}
use Rattle.history_weave.specs.Places.{log_at, entry_count}
use Rattle.history_weave.proofs.index.Index.lay_out.Given as goal

-- the logs so far are laid out
abbrev pub invariant-loop-k : goal.invariant-loop-k
invariant-loop-k l =
    record {
      total : l.total ≡ entry_count (take l.k l.logs);
      starts : (j : ℕ) → j < l.k → get_or l.self.starts.items j 0 ≡ entry_count (take j l.logs);
      next : (j : ℕ) → j < l.k → get_or l.self.next.items j 0 ≡ length (log_at l.logs j);
      starts_len : length l.self.starts.items ≡ length l.fn.self.starts.items;
      next_len : length l.self.next.items ≡ length l.fn.self.next.items;
      looks : l.self.looks ≡ l.fn.self.looks;
      marks : l.self.marks ≡ l.fn.self.marks;
      gets : l.self.gets ≡ l.fn.self.gets;
      draws : l.self.draws ≡ l.fn.self.draws;
      links : l.self.links ≡ l.fn.self.links;
      link_marks : l.self.link_marks ≡ l.fn.self.link_marks;
    }
