use Rattle.std.proofs.Common.{◌≡◌, ◌<◌, ◌+◌, ◌^◌, List, eqb, ltb, ◌&&◌, length, get_or, sym, ap, ◌∙◌, arith, rules}
use Rattle.std.proofs.lemmas.List.{get_or_default, length-set}
use Rattle.std.specs.List.{insert, position, position_or_len}
use Rattle.sched_base.specs.declared.plain_lists.Row.{Row}
use Rattle.sched_base.specs.KeyedList.{KeyedList, KeyedRoots, root_at}
use Rattle.sched_base.proofs.Rows.{place_is, roots_of, list_at, room_for_new, free_rows, sound-insert, insertion_means}
use Rattle.sched_base.proofs.plain_lists.PlainListsKeyedLists.insert.Goals as goal
use Rattle.sched_base.proofs.plain_lists.PlainListsKeyedLists.insert.Goals.{After-self-1}

pub unwrap-requires : goal.unwrap-requires
unwrap-requires c =
    let free = free_rows _ _ _ c.args.self.now c.self.view_is c.args.entry c.self.invariant.0 c.requires.free in
    let room : length c.self.inside.rows.items < c.self.inside.entries = room_for_new _ _ c.args.entry _ c.self.invariant.0 free (omega (arith, c.requires.entry_exists, ap (λ (s : KeyedRoots). s.entries) c.self.view_is)) in
    c.insert.ensures.succeeds (omega (arith, room, c.self.invariant.1, c.as_slice.ensures.len, ap length c.as_slice.ensures.value))

pub index_mut-requires : goal.index_mut-requires
index_mut-requires c = omega (arith, c.requires.root_exists, roots_of _ _ _ c.args.self.now c.self.view_is, c.self.inside.insertions.ok)

-- the count before
count_is : (c : After-self-1) → c.index_mut.result.now ≡ get_or c.self.inside.insertions.items c.args.root 0
count_is c =
    let within : c.args.root < length c.self.inside.insertions.items = omega (arith, c.requires.root_exists, roots_of _ _ _ c.args.self.now c.self.view_is) in
    c.index_mut.ensures.value ∙ get_or_default c.self.inside.insertions.items c.args.root _ 0 within

pub overflow_add-index_mut : goal.overflow_add-index_mut
overflow_add-index_mut c =
    let count : (root_at c.args.root c.args.self.now).insertions ≡ get_or c.self.inside.insertions.items c.args.root 0 = ap (λ (l : KeyedList). l.insertions) (list_at _ _ _ c.args.self.now c.self.view_is c.args.root c.requires.root_exists) in
    let small : get_or c.self.inside.insertions.items c.args.root 0 + 1 < 2 ^ 63 = rw count at c.requires.room in
    let within : c.args.root < length c.self.inside.insertions.items = omega (arith, c.requires.root_exists, roots_of _ _ _ c.args.self.now c.self.view_is) in
    let same : c.index_mut.result.now ≡ get_or c.self.inside.insertions.items c.args.root 0 = c.index_mut.ensures.value ∙ get_or_default c.self.inside.insertions.items c.args.root _ 0 within in
    let below : c.index_mut.result.now + 1 < 2 ^ 64 = omega arith in
    search rules

-- the rows have one more
one_more : (c : After-self-1) → c.insert.new.self.items ≡ insert c.self.inside.rows.items c.unwrap_or-place.result (record { root = c.args.root; key = c.args.key; entry = c.args.entry })
one_more c = rw c.unwrap.ensures at c.insert.ensures.items

-- where it stands
stands_there : (c : After-self-1) → c.unwrap_or-place.result ≡ position_or_len (λ (y : Row). eqb y.root c.args.root && ltb c.args.key y.key) c.self.inside.rows.items
stands_there c =
    let rows : List Row = c.self.inside.rows.items in
    let above : c.place_above-above.result ≡ position (λ (y : Row). eqb y.root c.args.root && ltb c.args.key y.key) rows = rw c.as_slice.ensures.value at c.place_above-above.ensures in
    let all : c.len.result ≡ length rows = c.len.ensures ∙ sym c.as_slice.ensures.len ∙ ap length c.as_slice.ensures.value in
    c.unwrap_or-place.ensures ∙ rw (above, all) (place_is (λ (y : Row). eqb y.root c.args.root && ltb c.args.key y.key) rows)

pub invariant_of-self : goal.invariant_of-self
invariant_of-self c =
    let free = free_rows _ _ _ c.args.self.now c.self.view_is c.args.entry c.self.invariant.0 c.requires.free in
    let root : c.args.root < length c.self.inside.insertions.items = omega (arith, c.requires.root_exists, roots_of _ _ _ c.args.self.now c.self.view_is) in
    let entry : c.args.entry < c.self.inside.entries = omega (arith, c.requires.entry_exists, ap (λ (s : KeyedRoots). s.entries) c.self.view_is) in
    let sound = sound-insert _ _ c.unwrap_or-place.result c.args.root c.args.entry c.args.key _ (stands_there c) c.self.invariant.0 free root entry in
    (rw (length-set c.self.inside.insertions.items c.args.root (c.index_mut.result.now + 1), one_more c) sound, omega (arith, c.self.invariant.1, c.insert.ensures.capacity))

pub returns : goal.returns
returns c =
    rw (one_more c, count_is c) (insertion_means c.self.inside.rows.items c.self.inside.insertions.items c.self.inside.entries c.args.self.now c.self.view_is c.args.root c.args.entry c.args.key c.requires.root_exists c.unwrap_or-place.result (stands_there c))
