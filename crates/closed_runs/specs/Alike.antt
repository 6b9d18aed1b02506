-- When two rounds, and two runs, differ at most in how calls of different callers are merged (docs/MODEL.md, "Scripts closed
-- by homes").
use Rattle.std.specs.Prelude.{◌≡◌, ℕ, Some, length, slice_get}
use Rattle.task_machine.specs.History.{calls_of}
use Rattle.run_model.specs.Run.{Round, Run}

-- two rounds have the same tick, and each caller has the same calls in them, with the same replies
pub record RoundsAlike (a b : Round) : Type 0 where
  pub tick : a.tick ≡ b.tick
  pub calls : (k : ℕ) → calls_of k a.entries ≡ calls_of k b.entries

-- two runs have as many rounds, each round of the one is like that of the other, and they end alike
pub record RunsAlike (a b : Run) : Type 0 where
  pub count : length a.rounds ≡ length b.rounds
  pub rounds : (n : ℕ) (x y : Round) → slice_get a.rounds n ≡ Some x → slice_get b.rounds n ≡ Some y → RoundsAlike x y
  pub rest : a.rest ≡ b.rest
