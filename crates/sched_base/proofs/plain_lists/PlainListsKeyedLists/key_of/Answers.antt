use Rattle.std.proofs.Common.{refl, ◌≡◌, Some, sym, ap, ◌∙◌}
use Rattle.sched_base.specs.declared.plain_lists.Row.{Row}
use Rattle.sched_base.specs.KeyedList.{key_of_entry}
use Rattle.sched_base.proofs.Rows.{row_of_held, held_at, items_at, placed_row}
use Rattle.sched_base.proofs.plain_lists.PlainListsKeyedLists.key_of.Goals as goal

pub unwrap-requires : goal.unwrap-requires
unwrap-requires c =
    let w = placed_row _ _ _ c.args.self.now c.self.view_is c.args.entry c.self.invariant.0.apart c.requires in
    rw (rw c.as_slice.ensures.value at c.row_of.ensures ∙ w.1) refl

pub returns : goal.returns
returns c = λ root stands.
    let w = row_of_held c.args.entry root _ c.self.invariant.0.apart (held_at _ _ _ c.args.self.now c.self.view_is root c.args.entry stands) in
    let found : Some c.unwrap.result ≡ Some w.0 = sym c.unwrap.ensures ∙ rw c.as_slice.ensures.value at c.row_of.ensures ∙ w.1 in
    let same : w.0 ≡ c.unwrap.result = cc in
    ap (key_of_entry c.args.entry) (items_at _ _ _ c.args.self.now c.self.view_is root stands.exists) ∙ w.3 ∙ ap (λ (y : Row). Some y.key) same
