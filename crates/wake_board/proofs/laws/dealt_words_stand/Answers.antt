use Rattle.wake_board.proofs.Seats.{dealt-stands}
use Rattle.wake_board.proofs.laws.dealt_words_stand.Goals as goal

pub returns : goal.returns
returns c = dealt-stands
