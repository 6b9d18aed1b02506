use Rattle.std.proofs.Common.{ℕ, ◌<◌}
use Rattle.history_weave.specs.Rule.{Lets}
use Rattle.history_weave.specs.Places.{left_of}
use Rattle.history_weave.proofs.index.Index.lets.Given as goal

-- no log so far has such a look
abbrev pub invariant-loop-k : goal.invariant-loop-k
invariant-loop-k l = (j : ℕ) → j < l.k → Lets l.task l.seen (left_of l.logs l.self.next.items j)
