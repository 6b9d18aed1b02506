-- Boards of shared tasks, for the tests.
use Rattle.std.specs.Prelude.{◌≡◌, ℕ, ◌≤◌, List, length, slice_index_or, Option, Some, None}
use Rattle.wake_board.specs.Seen.{Held, Laid}
use Rattle.wake_board.specs.Ends.{fresh}

-- a board of n tasks and two workers, with fresh passes
pub record IsCrowd (n : ℕ) (b : Laid) (passes : List (Option Held)) : Type 0 where
  pub tasks : length b.start.state.tasks ≡ n
  pub each : (k : ℕ) → k ≤ 2 → slice_index_or passes k None ≡ Some (fresh b k)
