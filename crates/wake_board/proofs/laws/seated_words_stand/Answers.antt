use Rattle.wake_board.proofs.Seats.{seated-stands}
use Rattle.wake_board.proofs.laws.seated_words_stand.Goals as goal

pub returns : goal.returns
returns c = seated-stands
