use Rattle.std.proofs.Common.{◌≡◌, Some, eqb, not, sym, ap, ◌∙◌, arith}
use Rattle.std.proofs.lemmas.List.Quantifiers.{position-Some}
use Rattle.std.specs.List.{filter, position}
use Rattle.std.specs.Option.{is_some}
use Rattle.sched_base.specs.declared.plain_lists.Row.{Row}
use Rattle.sched_base.proofs.Rows.{placed_row, position_of_found, remove_is_filter, sound-filter, deletion_means}
use Rattle.sched_base.proofs.plain_lists.PlainListsKeyedLists.delete.Goals as goal
use Rattle.sched_base.proofs.plain_lists.PlainListsKeyedLists.delete.Goals.{After-remove}

pub unwrap-place-requires : goal.unwrap-place-requires
unwrap-place-requires c =
    let w = placed_row _ _ _ c.args.self.now c.self.view_is c.args.entry c.self.invariant.0.apart c.requires in
    ap is_some (rw c.as_slice.ensures.value at c.place_of.ensures ∙ position_of_found (λ (y : Row). eqb y.entry c.args.entry) c.self.inside.rows.items w.0 w.1)

-- the rows are those of the other entries
others_stay : (c : After-remove) → c.remove.new.self.items ≡ filter (λ (y : Row). not (eqb y.entry c.args.entry)) c.self.inside.rows.items
others_stay c =
    let at : position (λ (y : Row). eqb y.entry c.args.entry) c.self.inside.rows.items ≡ Some c.unwrap-place.result = sym (rw c.as_slice.ensures.value at c.place_of.ensures) ∙ c.unwrap-place.ensures in
    let d : Row = record { root = 0; key = 0; entry = 0 } in
    let p = position-Some (λ (y : Row). eqb y.entry c.args.entry) c.self.inside.rows.items c.unwrap-place.result d at in
    c.remove.ensures.items ∙ remove_is_filter c.args.entry c.self.inside.rows.items c.unwrap-place.result d c.self.invariant.0.apart p.0 p.2 p.1

pub invariant_of-self : goal.invariant_of-self
invariant_of-self c = (rw (others_stay c) (sound-filter _ _ c.args.entry _ c.self.invariant.0), omega (arith, c.self.invariant.1, c.remove.ensures.capacity))

pub returns : goal.returns
returns c = λ root stands. deletion_means c.self.inside.rows.items c.self.inside.insertions.items c.self.inside.entries c.args.self.now c.self.view_is root c.args.entry 0 stands.exists _ (others_stay c) c.self.invariant.0.apart stands
