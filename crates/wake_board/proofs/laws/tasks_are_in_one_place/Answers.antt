use Rattle.wake_board.proofs.Places.{somewhere, once}
use Rattle.wake_board.proofs.laws.tasks_are_in_one_place.Goals as goal

pub returns : goal.returns
returns c =
    record {
      somewhere = λ o s i st n b t r within seen work. somewhere o s r i within st n b t seen work;
      once = λ o s i p q r within a b. once o s r i within p q a b;
    }
