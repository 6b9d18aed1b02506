use Rattle.std.proofs.Common.{append-nil}
use Rattle.run_picture.proofs.drawing.begin_bar.Goals as goal

pub returns-clause-written : goal.returns-clause-written
returns-clause-written c = simp (append-nil, c.top_of.ensures, c.from.ensures) at c.put.ensures.written
