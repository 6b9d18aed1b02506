use Rattle.wake_board.specs.Seen.{IsPassOf}
use Rattle.shared_queue.proofs.draw_tests.ten.Given as goal

-- the pass stays one of the board
abbrev pub invariant-draws : goal.invariant-draws
invariant-draws l = IsPassOf l.board l.pass
