use Rattle.std.proofs.Common.{arith}
use Rattle.std.proofs.lemmas.Grind.{common_steps}
use Rattle.program_edges.proofs.Joined.{appends_up_to, front_up_to}
use Rattle.program_edges.proofs.writing.write_all.Goals as goal

pub returns-in-Err-clause-err : goal.returns-in-Err-clause-err
returns-in-Err-clause-err g c = front_up_to _ _ _ _ _ c.loop-at.invariant.0 c.in-Err.ensures.kept

pub loop-at-preserved : goal.loop-at-preserved
loop-at-preserved g c = (appends_up_to _ _ _ _ _ _ c.loop-at.invariant.0 c.in-Ok.ensures.appended, grind (arith, common_steps), grind (arith, common_steps))
