-- The sizes of a board's table (docs/BOARD.md, "The words").
use Rattle.std.specs.Prelude.{◌≡◌, ◌≤◌, length}
use Rattle.atomic_table.specs.Seated.{TableId}
use Rattle.wake_board.specs.Rows.{WordRow, width}
use Rattle.wake_board.specs.Start.{Start}

pub record IsSized (board : TableId) (o : Start) (ws : WordRow) : Type 0 where
  pub words : board.words ≡ width ws.workers ws.tasks
  pub slots : board.slots ≤ ws.tasks
  pub workers : o.state.workers ≡ ws.workers
  pub tasks : length o.state.tasks ≡ ws.tasks
  pub few_tasks : ws.tasks ≤ 65536
  pub few_workers : ws.workers ≤ 64
