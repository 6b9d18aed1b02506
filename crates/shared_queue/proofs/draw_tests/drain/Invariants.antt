use Rattle.wake_board.specs.Seen.{IsPassOf}
use Rattle.shared_queue.proofs.draw_tests.drain.Given as goal

-- the pass stays one of the board
abbrev pub invariant-loop : goal.invariant-loop
invariant-loop l = IsPassOf l.board l.pass
