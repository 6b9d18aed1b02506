use Rattle.sched_base.proofs.Keyed.{keyed-inserted}
use Rattle.sched_base.proofs.laws.insertions_keep_keyed.Goals as goal

pub returns : goal.returns
returns c = keyed-inserted
