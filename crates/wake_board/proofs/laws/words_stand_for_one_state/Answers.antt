use Rattle.wake_board.proofs.Opens.{one_state}
use Rattle.wake_board.proofs.laws.words_stand_for_one_state.Goals as goal

pub returns : goal.returns
returns c = one_state
