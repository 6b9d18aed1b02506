use Rattle.sched_base.proofs.Keyed.{keyed-deleted}
use Rattle.sched_base.proofs.laws.deletions_keep_keyed.Goals as goal

pub returns : goal.returns
returns c = keyed-deleted
