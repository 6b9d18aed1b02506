use Rattle.std.proofs.Common.{sym, ap, ◌∙◌}
use Rattle.sched_base.specs.KeyedList.{first_entry}
use Rattle.sched_base.proofs.Rows.{first_of_root, items_at}
use Rattle.sched_base.proofs.plain_lists.PlainListsKeyedLists.first.Goals as goal

pub returns : goal.returns
returns c =
    rw c.as_slice.ensures.value at c.first_entry.ensures
    ∙ first_of_root c.args.root _
    ∙ ap first_entry (sym (items_at _ _ _ c.args.self.now c.self.view_is c.args.root c.requires))
