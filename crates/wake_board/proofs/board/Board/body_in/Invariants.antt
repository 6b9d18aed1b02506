use Rattle.wake_board.proofs.board.Board.body_in.Given as goal

abbrev pub ghosts-slot_in : goal.ghosts-slot_in
ghosts-slot_in a = record { task = a.task }
