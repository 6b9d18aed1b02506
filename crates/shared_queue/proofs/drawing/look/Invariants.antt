use Rattle.std.proofs.Common.{length}
use Rattle.wake_board.specs.Seen.{IsPassOf}
use Rattle.shared_queue.specs.Looking.{Looked}
use Rattle.shared_queue.proofs.drawing.look.Given as goal

-- the groups before this one were looked at
abbrev pub invariant-looks : goal.invariant-looks
invariant-looks l = record {
  board : IsPassOf l.board l.pass;
  looked : Looked (length l.board.start.state.tasks) l.group l.words l.initial.pass l.pass;
}
