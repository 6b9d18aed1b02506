-- A board with two callers that draw shared tasks.
use Rattle.std.specs.Prelude.{◌≡◌, ℕ, suc, ◌<◌, ◌≤◌, List, [], length, slice_index_or, slice_get, Option, Some, None}
use Rattle.task_machine.specs.Own.{away}
use Rattle.wake_board.specs.Seen.{Held, Laid}
use Rattle.wake_board.specs.Ends.{own_by, fresh}
use Rattle.board_bench.specs.declared.pair.Pair.{Pair}
use Rattle.board_bench.specs.Drawn.{IsClear}

-- the passes of a board that was just made, on which no caller has a task
pub record AreFresh (b : Laid) (passes : List (Option Held)) : Type 0 where
  pub some_workers : 1 ≤ b.start.state.workers
  pub count : length passes ≡ suc b.start.state.workers
  pub each : (k : ℕ) → k ≤ b.start.state.workers → slice_index_or passes k None ≡ Some (fresh b k)
  pub away_all : (k i : ℕ) → own_by (fresh b k) i ≡ away

-- two callers, of numbers 0 and 1, have nothing; the other passes are fresh
pub record IsPair (d : Pair) : Type 0 where
  pub some_workers : 1 ≤ d.board.start.state.workers
  pub first : IsClear d.board d.first
  pub second : IsClear d.board d.second
  pub who_first : d.first.who ≡ 0
  pub who_second : d.second.who ≡ 1
  pub count : length d.passes ≡ suc d.board.start.state.workers
  pub out_first : slice_get d.passes 0 ≡ Some None
  pub out_second : slice_get d.passes 1 ≡ Some None
  pub others : (k : ℕ) → 1 < k → k ≤ d.board.start.state.workers → slice_index_or d.passes k None ≡ Some (fresh d.board k)
  pub away_all : (k i : ℕ) → own_by (fresh d.board k) i ≡ away

-- the same, and neither has made a call
pub record IsNewPair (d : Pair) : Type 0 where
  pub pair : IsPair d
  pub first_new : d.first.entries ≡ []
  pub second_new : d.second.entries ≡ []
