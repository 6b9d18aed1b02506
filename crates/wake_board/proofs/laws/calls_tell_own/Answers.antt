use Rattle.wake_board.proofs.Grown.{own-called, takes-called}
use Rattle.wake_board.proofs.laws.calls_tell_own.Goals as goal

pub returns : goal.returns
returns c = record { own = own-called; takes = takes-called }
