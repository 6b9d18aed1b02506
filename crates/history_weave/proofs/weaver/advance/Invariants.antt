use Rattle.std.proofs.Common.{◌≡◌, ℕ, ◌<◌}
use Rattle.history_weave.specs.Going.{IsStuck}
use Rattle.history_weave.proofs.weaver.advance.Given as goal

-- nobody so far could go, so nothing has changed
abbrev pub invariant-loop-k : goal.invariant-loop-k
invariant-loop-k l =
    record {
      index : l.index ≡ l.fn.index;
      machine : l.machine ≡ l.fn.machine;
      entries : l.entries ≡ l.fn.entries;
      stuck : (j : ℕ) → j < l.k → IsStuck l.logs l.fn.index l.fn.machine j;
    }
