use Rattle.std.proofs.Common.{◌≡◌, ℕ, suc, ◌+◌, ◌-◌, Some, eqb, List, length, get_or, take, drop, sym, ap, ◌∙◌, arith}
use Rattle.std.proofs.lemmas.List.{take_rest}
use Rattle.std.proofs.lemmas.List.Quantifiers.{position-Some}
use Rattle.std.specs.List.{find, position}
use Rattle.std.specs.Option.{is_some, option_map}
use Rattle.sched_base.specs.declared.plain_lists.Row.{Row}
use Rattle.sched_base.specs.KeyedList.{next_entry}
use Rattle.sched_base.proofs.Rows.{row_of_held, held_at, items_at, placed_row, position_of_found, found_at, first_of_root, next_of_root}
use Rattle.sched_base.proofs.plain_lists.PlainListsKeyedLists.next.Goals as goal

pub unwrap-place-requires : goal.unwrap-place-requires
unwrap-place-requires c =
    let w = placed_row _ _ _ c.args.self.now c.self.view_is c.args.entry c.self.invariant.0.apart c.requires in
    ap is_some (rw c.as_slice.ensures.value at c.place_of.ensures ∙ position_of_found (λ (y : Row). eqb y.entry c.args.entry) c.self.inside.rows.items w.0 w.1)

pub returns : goal.returns
returns c = λ root stands.
    let rows : List Row = c.self.inside.rows.items in
    let i : ℕ = c.unwrap-place.result in
    let d : Row = c.index.result.now in
    let found : position (λ (y : Row). eqb y.entry c.args.entry) rows ≡ Some i = sym (rw c.as_slice.ensures.value at c.place_of.ensures) ∙ c.unwrap-place.ensures in
    let p = position-Some (λ (y : Row). eqb y.entry c.args.entry) rows i d found in
    let w = row_of_held c.args.entry root rows c.self.invariant.0.apart (held_at _ _ _ c.args.self.now c.self.view_is root c.args.entry stands) in
    let same : w.0 ≡ get_or rows i d = let e : Some w.0 ≡ Some (get_or rows i d) = sym w.1 ∙ found_at (λ (y : Row). eqb y.entry c.args.entry) rows i d p.0 p.2 p.1 in cc in
    let own : root ≡ d.root = sym w.2 ∙ ap (λ (y : Row). y.root) (same ∙ sym c.index.ensures) in
    let behind : c.first_entry.result ≡ option_map (λ (y : Row). y.entry) (find (λ (y : Row). eqb y.root d.root) (take (length c.deref.result.now - (i + 1)) (drop (i + 1) c.deref.result.now))) = c.first_entry.ensures in
    let rest : take (length c.deref.result.now - (i + 1)) (drop (i + 1) c.deref.result.now) ≡ drop (suc i) rows = let one : i + 1 ≡ suc i = omega arith in take_rest c.deref.result.now (i + 1) ∙ ap (drop (i + 1)) c.deref.ensures.value ∙ ap (λ n. drop n rows) one in
    behind
    ∙ ap (λ (ys : List Row). option_map (λ (y : Row). y.entry) (find (λ (y : Row). eqb y.root d.root) ys)) rest
    ∙ rw (← own) (first_of_root root (drop (suc i) rows))
    ∙ next_of_root c.args.entry root rows i d p.0 p.2 p.1 (ap (λ (y : Row). y.root) (sym c.index.ensures) ∙ sym own)
    ∙ ap (next_entry c.args.entry) (sym (items_at _ _ _ c.args.self.now c.self.view_is root stands.exists))
