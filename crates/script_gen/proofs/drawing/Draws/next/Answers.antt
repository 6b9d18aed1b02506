-- A product and a sum that wrap.
use Rattle.std.proofs.Common.{arith}
use Rattle.script_gen.specs.Draws.{next_state}
use Rattle.script_gen.proofs.drawing.Draws.next.Goals as goal

pub returns-clause-state : goal.returns-clause-state
unfolding next_state
returns-clause-state c = omega arith
