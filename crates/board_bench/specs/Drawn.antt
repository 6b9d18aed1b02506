-- What a caller that draws shared tasks knows of its pass.
use Rattle.std.specs.Prelude.{◌≡◌, ◌≢◌, ℕ, suc, ◌<◌, ◌≤◌, List, [], length, slice_index_or, slice_get, Option, Some, None}
use Rattle.task_machine.specs.Own.{Own, away, drawing}
use Rattle.wake_board.specs.declared.views.Out.{Out}
use Rattle.wake_board.specs.Seen.{Held, Laid}
use Rattle.wake_board.specs.Start.{home_of}
use Rattle.wake_board.specs.Ends.{own_by, fresh}
use Rattle.board_bench.specs.Callers.{IsUsed}

-- a pass that has no task and no body
pub record IsClear (b : Laid) (p : Held) : Type 0 where
  pub used : IsUsed b p
  pub away_all : (i : ℕ) → own_by p i ≡ away

-- a pass that has at most task i, so, and these bodies out
pub record HasOne (b : Laid) (p : Held) (i : ℕ) (own : Own) (outs : List Out) : Type 0 where
  pub board : p.board ≡ b.board
  pub start : p.start ≡ b.start
  pub outs_are : p.outs ≡ outs
  pub has : own_by p i ≡ own
  pub others : (j : ℕ) → j ≢ i → own_by p j ≡ away

-- a pass that has drawn task i, and has nothing else
pub record HasDrawn (b : Laid) (p : Held) (i : ℕ) : Type 0 where
  pub exists : i < length b.start.state.tasks
  pub one : HasOne b p i drawing []

-- the board has a task i, which is shared, and so many workers
pub record IsSharedTask (b : Laid) (i workers : ℕ) : Type 0 where
  pub exists : i < length b.start.state.tasks
  pub home : home_of b.start i ≡ workers
  pub count : b.start.state.workers ≡ workers
