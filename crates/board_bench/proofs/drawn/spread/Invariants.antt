use Rattle.std.proofs.Common.{◌≡◌, ◌+◌, ◌*◌, ◌≤◌, length}
use Rattle.board_bench.specs.Drawn.{IsClear}
use Rattle.board_bench.proofs.drawn.spread.Given as goal

-- the pass has nothing, and at most two entries for each task
pub record IsSpreading (l : goal.Live-loop-i) : Type 0 where
  pub clear : IsClear l.board l.pass
  pub few : length l.pass.entries ≤ 2 * l.i
  pub who : l.pass.who ≡ l.fn.pass.who

abbrev pub invariant-loop-i : goal.invariant-loop-i
invariant-loop-i l = IsSpreading l
