use Rattle.std.proofs.Common.{append-nil}
use Rattle.run_picture.proofs.drawing.put_spot.Goals as goal

pub returns-clause-written : goal.returns-clause-written
returns-clause-written c = simp (append-nil, c.from.ensures) at c.put.ensures.written
