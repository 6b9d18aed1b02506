-- The bars stand between the front and the back.
use Rattle.run_picture.proofs.Drawn.{draws_between}
use Rattle.run_picture.proofs.drawing.draw.Goals as goal

pub returns : goal.returns
returns c = draws_between _ _ _ _ c.in_ok-put_bars.ensures.drawn c.put_back.ensures
