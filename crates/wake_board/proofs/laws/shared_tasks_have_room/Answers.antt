use Rattle.wake_board.proofs.Pace.{has_room}
use Rattle.wake_board.proofs.laws.shared_tasks_have_room.Goals as goal

pub returns : goal.returns
returns c = has_room
