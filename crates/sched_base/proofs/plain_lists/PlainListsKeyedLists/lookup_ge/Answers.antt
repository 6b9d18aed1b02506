use Rattle.std.proofs.Common.{sym, ap, ◌∙◌}
use Rattle.sched_base.specs.KeyedList.{entry_from}
use Rattle.sched_base.proofs.Rows.{first_from, items_at}
use Rattle.sched_base.proofs.plain_lists.PlainListsKeyedLists.lookup_ge.Goals as goal

pub returns : goal.returns
returns c =
    rw c.as_slice.ensures.value at c.first_entry_from.ensures
    ∙ first_from c.args.root c.args.key _
    ∙ ap (entry_from c.args.key) (sym (items_at _ _ _ c.args.self.now c.self.view_is c.args.root c.requires))
