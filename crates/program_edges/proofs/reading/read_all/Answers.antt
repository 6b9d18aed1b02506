use Rattle.std.proofs.Common.{arith}
use Rattle.std.proofs.lemmas.Grind.{common_steps}
use Rattle.program_edges.proofs.Joined.{reads_few}
use Rattle.program_edges.proofs.reading.read_all.Goals as goal

pub returns-in-Err-extend_from_slice-clause-few : goal.returns-in-Err-extend_from_slice-clause-few
returns-in-Err-extend_from_slice-clause-few g c = reads_few _ _ _ _ _ _ _ c.loop-piece.invariant.0 c.in-Ok.ensures.taken (grind (arith, common_steps))
