use Rattle.wake_board.proofs.board.Board.body_out.Given as goal

abbrev pub ghosts-slot_out : goal.ghosts-slot_out
ghosts-slot_out a = record { task = a.task }
