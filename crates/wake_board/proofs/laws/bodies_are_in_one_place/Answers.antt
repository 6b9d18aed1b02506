use Rattle.wake_board.proofs.Houses.{body_somewhere, body_once, body_not_both}
use Rattle.wake_board.proofs.laws.bodies_are_in_one_place.Goals as goal

pub returns : goal.returns
returns c =
    record {
      somewhere = λ o s i st n b t r within shared seen. body_somewhere o s i st n b t r within shared seen;
      once = λ o s i p q x y r a b. body_once o s i p q x y r a b;
      not_both = λ o s i t p x r home out. body_not_both o s i t p x r home out;
    }
