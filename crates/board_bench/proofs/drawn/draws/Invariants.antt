use Rattle.std.proofs.Common.{◌≡◌, ◌+◌, ◌*◌, ◌≤◌, length}
use Rattle.board_bench.specs.Drawn.{IsClear}
use Rattle.board_bench.proofs.drawn.draws.Given as goal

-- the pass has nothing, and at most five entries more for each time
pub record IsDrawing (l : goal.Live-loop-n) : Type 0 where
  pub clear : IsClear l.board l.pass
  pub few : length l.pass.entries ≤ length l.fn.pass.entries + 5 * l.n
  pub who : l.pass.who ≡ l.fn.pass.who

abbrev pub invariant-loop-n : goal.invariant-loop-n
invariant-loop-n l = IsDrawing l
