use Rattle.sched_base.proofs.Rows.{rows_keyed}
use Rattle.sched_base.proofs.plain_lists.PlainListsKeyedLists.stay_keyed.Goals as goal

pub returns : goal.returns
returns c = rows_keyed _ _ _ c.args.self.now c.self.view_is c.self.invariant.0
