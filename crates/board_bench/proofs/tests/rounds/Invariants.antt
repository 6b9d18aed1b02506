use Rattle.std.proofs.Common.{◌≡◌}
use Rattle.board_bench.specs.Callers.{IsListed}
use Rattle.board_bench.proofs.tests.rounds.Given as goal

-- what the caller has is in its list, and its number is as before
pub record IsRound (l : goal.Live-loop) : Type 0 where
  pub listed : IsListed l.board l.caller.pass l.caller.has.items l.caller.takes
  pub who : l.caller.pass.who ≡ l.fn.caller.pass.who

abbrev pub invariant-loop : goal.invariant-loop
invariant-loop l = IsRound l
