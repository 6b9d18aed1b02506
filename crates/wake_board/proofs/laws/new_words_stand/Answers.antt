use Rattle.wake_board.proofs.Seats.{new-stands}
use Rattle.wake_board.proofs.laws.new_words_stand.Goals as goal

pub returns : goal.returns
returns c = new-stands
