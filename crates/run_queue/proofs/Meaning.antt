-- What insertions and deletions in the lists mean for the run list.
use Rattle.std.proofs.Common.{◌≡◌, ℕ, ◌+◌, ◌-◌, ◌/◌, ◌%◌, ◌^◌, ◌≤◌, ◌<◌, Bool, true, false, not, eqb, leb, List, [], ◌∷◌, Option, Some, map, drop, length, refl, sym, ap, subst, ◌∙◌, arith, inl, inr, ◌≤ℤ◌, pos, negsuc, ◌+ℤ◌, ◌*ℤ◌}
use Rattle.std.specs.Prelude.{ℤ, int_le}
use Rattle.std.specs.List.{filter, list_any, AllByRecursion, IsDistinct}
use Rattle.std.specs.Option.{is_some}
use Rattle.std.proofs.lemmas.Int.{ints}
use Rattle.std.proofs.lemmas.Bool.{cases_Bool, cases_eq, false≢true, or_parts, eqb-true, eqb-false, eq-eqb, ne_eqb, not_from_false}
use Rattle.std.proofs.lemmas.List.{get_or-set_same, get_or-set_other, length-set, length-map}
use Rattle.std.proofs.lemmas.Map.Steps.{length-le_from_distinct_below}
use Rattle.sched_base.specs.KeyedList.{KeyedItem, KeyedList, KeyedRoots, AreKeyed, IsKeyed, root_at, with_root, with_entry, without_entry, inserted_into, deleted_from, inserted, is_entry, holds, first_entry, StandsIn, IsFree, ChangesRoot, IsOnce, blank}
use Rattle.sched_base.proofs.Inserted.{map-inserted, all-inserted, all-filter, all-weaker, all-both, rising-inserted, rising-filter, filter-all}
use Rattle.sched_base.proofs.Keyed.{at_root, at_other}
use Rattle.sched_base.proofs.Once.{In, in_all, all_in, in_held, item_of_held, once-inserted, once-filter, none_held, held_none}
use Rattle.queue_model.specs.Ticks.{distance}
use Rattle.queue_model.specs.RunList.{RunItem, RunList, arrived, without_least, is_listed}
use Rattle.queue_model.specs.Walk.{walked, HasTicks, IsByDistance, half_back}
use Rattle.queue_model.proofs.Walk.{walked-inserted, walked-filter, walked_by_distance, all-walked}
use Rattle.queue_model.proofs.WalkItems.{once_walked, walked_in, in_walked, first_is}
use Rattle.run_queue.specs.Runners.{Runners, entry_of, now_of, unwrapped, run_item, in_order, run_list, first_task, IsRunner, IsFresh, Fits}
use Rattle.run_queue.proofs.Keys.{int_le_plus, distance_next, not_half, walk_next, fresh_near, fresh_inserted, length-inserted, IsClose}

-- ---- one root that changes

pub changes_root : (r : ℕ) (l : KeyedList) (s : KeyedRoots) → ChangesRoot r s (with_root r l s)
changes_root r l s = record {
  roots = length-set s.roots r l;
  entries = refl;
  others = λ other ne. at_other r other l s ne;
}

-- ---- how many items there are

pub entries_differ : (entry : ℕ) (xs : List KeyedItem) → list_any (is_entry entry) xs ≡ false → AllByRecursion (λ (m : ℕ). eqb entry m ≡ false) (map (λ (y : KeyedItem). y.entry) xs)
entries_differ entry [] h = tt
entries_differ entry (x ∷ xs) h =
    let r = or_parts (is_entry entry x) (list_any (is_entry entry) xs) h in
    (ne_eqb entry x.entry (λ e. eqb-false x.entry entry r.0 (sym e)), entries_differ entry xs r.1)

pub entries_distinct : (xs : List KeyedItem) → IsOnce xs → IsDistinct eqb (map (λ (y : KeyedItem). y.entry) xs)
unfolding IsDistinct
entries_distinct [] once = tt
entries_distinct (x ∷ xs) once = (entries_differ x.entry xs once.0, entries_distinct xs once.1)

pub entries_below : (entries : ℕ) (xs : List KeyedItem) → AllByRecursion (IsRunner entries) xs → (q : ℕ) → list_any (eqb q) (map (λ (y : KeyedItem). y.entry) xs) ≡ true → q < entries
entries_below entries [] all q h = absurd (false≢true h)
entries_below entries (x ∷ xs) all q h =
    elim (cases_Bool (eqb q x.entry)) [
      | inl e ↦ let same : q ≡ x.entry = eqb-true q x.entry e in let lt : x.entry < entries = all.0.exists in omega arith
      | inr e ↦ entries_below entries xs all.1 q (rw e at h)
    ]

pub few_items : (entries : ℕ) (xs : List KeyedItem) → AllByRecursion (IsRunner entries) xs → IsOnce xs → length xs ≤ entries
few_items entries xs all once =
    let count : length (map (λ (y : KeyedItem). y.entry) xs) ≤ entries = length-le_from_distinct_below _ entries (entries_distinct xs once) (entries_below entries xs all) in
    omega (arith, length-map xs (λ (y : KeyedItem). y.entry))

pub ticks_of : (entries : ℕ) (xs : List KeyedItem) → AllByRecursion (IsRunner entries) xs → HasTicks xs
ticks_of entries xs all = all-weaker (IsRunner entries) (λ (y : KeyedItem). y.key < 2 ^ 32) xs (λ y h. h.key) all

-- ---- a task that is not listed

pub listed_in : (count i : ℕ) (y : KeyedItem) (xs : List KeyedItem) → In y xs → y.entry ≡ entry_of i → list_any (λ (z : RunItem). eqb z.task i) (map (run_item count) xs) ≡ true
listed_in count i y [] h e = absurd h
listed_in count i y (x ∷ xs) h e =
    elim h [
      | inl same ↦ let own : x.entry ≡ y.entry = ap (λ (z : KeyedItem). z.entry) same in rw (eq-eqb (x.entry / 2) i (omega arith)) refl
      | inr k ↦ elim (cases_Bool (eqb (x.entry / 2) i)) [ inl t ↦ rw t refl | inr t ↦ rw t (listed_in count i y xs k e) ]
    ]

pub not_held : (i : ℕ) (q : Runners) (s : KeyedRoots) → is_listed i (run_list q s) ≡ false → holds (entry_of i) (root_at q.root s) ≡ false
not_held i q s h =
    elim (cases_Bool (holds (entry_of i) (root_at q.root s))) [
      | inl k ↦
          let w = item_of_held (entry_of i) (root_at q.root s).items k in
          absurd (false≢true (sym h ∙ listed_in q.count i w.0 (in_order q s) (in_walked (now_of q.count) w.0 (root_at q.root s).items w.1) w.2))
      | inr k ↦ k
    ]

pub free_task : (i : ℕ) (q : Runners) (s : KeyedRoots) → Fits q s → is_listed i (run_list q s) ≡ false → IsFree (entry_of i) s
free_task i q s f h = λ root within.
    elim (cases_eq root q.root) [
      | inl e ↦ ap (λ r. holds (entry_of i) (root_at r s)) e ∙ not_held i q s h
      | inr ne ↦ f.apart root i within ne
    ]

-- ---- an insertion

-- a count that rises keeps the whole numbers for which keys stand
pub same_run : (count : ℕ) (xs : List KeyedItem) → AllByRecursion (λ (y : KeyedItem). distance y.key (now_of (count + 1)) +ℤ pos 1 ≡ distance y.key (now_of count)) xs → map (run_item (count + 1)) xs ≡ map (run_item count) xs
same_run count [] h = refl
same_run count (x ∷ xs) h =
    let step = h.0 in
    let same : unwrapped (count + 1) x.key ≡ unwrapped count x.key = omega (arith, ints) in
    rw same (ap (λ (ys : List RunItem). record { key = unwrapped count x.key; task = x.entry / 2 } ∷ ys) (same_run count xs h.1))

-- the queue once a task was put in
abbrev pub raised : Runners → Runners
raised q = record q { count = q.count + 1; waiting = q.waiting + 1 }

module _ (q : Runners) (s : KeyedRoots) (f : Fits q s) (keyed : AreKeyed s) (few : s.entries ≤ 2 ^ 20) (i key : ℕ) (nice : ℤ) (exists : entry_of i < s.entries) (absent : is_listed i (run_list q s) ≡ false) (tick : key < 2 ^ 32) (at_nice : distance key (now_of (q.count + 1)) ≡ nice *ℤ pos q.depth) (close : IsClose q.depth (now_of (q.count + 1)) key) where
  abbrev pub now : ℕ
  now = now_of q.count

  abbrev pub next : ℕ
  next = now_of (q.count + 1)

  abbrev pub items : List KeyedItem
  items = (root_at q.root s).items

  pub next_is : next ≡ (now + 1) % 2 ^ 32
  next_is = omega arith

  pub few_waiting : length (in_order q s) ≤ 2 ^ 20
  few_waiting =
      let l : length (in_order q s) ≤ s.entries = few_items s.entries (in_order q s) (all-walked (IsRunner s.entries) now items f.runners) (once_walked now items (keyed.keyed q.root f.exists).once) in
      omega arith

  pub near_walk : AllByRecursion (λ (y : KeyedItem). (y.key < 2 ^ 32) × (negsuc (2 ^ 22) ≤ℤ distance y.key now)) (in_order q s)
  near_walk = all-both _ _ (in_order q s) (all-walked (λ (y : KeyedItem). y.key < 2 ^ 32) now items (ticks_of _ items f.runners)) (fresh_near q.depth now (in_order q s) f.depth few_waiting f.fresh)

  pub shifts : AllByRecursion (λ (y : KeyedItem). distance y.key next +ℤ pos 1 ≡ distance y.key now) (in_order q s)
  shifts = all-weaker (λ (y : KeyedItem). (y.key < 2 ^ 32) × (negsuc (2 ^ 22) ≤ℤ distance y.key now)) (λ (y : KeyedItem). distance y.key next +ℤ pos 1 ≡ distance y.key now) (in_order q s) (λ y h. distance_next now next y.key (omega arith) h.0 next_is (not_half now y.key (omega arith) h.0 h.1)) near_walk

  pub halves : AllByRecursion (λ (y : KeyedItem). y.key ≡ half_back now → ⊥) items
  halves = all_in (λ (y : KeyedItem). y.key ≡ half_back now → ⊥) items (λ y k.
      let h = in_all (λ (z : KeyedItem). (z.key < 2 ^ 32) × (negsuc (2 ^ 22) ≤ℤ distance z.key now)) y (in_order q s) near_walk (in_walked now y items k) in
      not_half now y.key (omega arith) h.0 h.1)

  pub same_walk : walked next items ≡ in_order q s
  same_walk = walk_next now next items (omega arith) next_is (ticks_of _ items f.runners) halves

  pub same_items : map (run_item (q.count + 1)) (in_order q s) ≡ map (run_item q.count) (in_order q s)
  same_items = same_run q.count (in_order q s) shifts

  abbrev pub item : KeyedItem
  item = record { key = key; entry = entry_of i }

  abbrev pub after : KeyedRoots
  after = inserted_into q.root (entry_of i) key s

  abbrev pub nearer : KeyedItem → Bool
  nearer y = int_le (distance y.key next) (distance key next)

  pub root_is : root_at q.root after ≡ with_entry key (entry_of i) (root_at q.root s)
  root_is = at_root q.root _ s f.exists

  pub order_after : in_order (raised q) after ≡ inserted nearer item (in_order q s)
  order_after =
      ap (λ (l : KeyedList). walked next l.items) root_is
      ∙ walked-inserted next key item items (omega arith) tick refl (ticks_of _ items f.runners) (keyed.keyed q.root f.exists).rising
      ∙ ap (inserted nearer item) same_walk

  pub arrives : run_list (raised q) after ≡ arrived q.depth i nice (run_list q s)
  arrives =
      let whole : ℤ = pos (q.count + 1) +ℤ (nice *ℤ pos q.depth) in
      let below : RunItem → Bool = λ y. int_le y.key (unwrapped (q.count + 1) key) in
      let at : unwrapped (q.count + 1) key ≡ whole = ap (λ z. pos (q.count + 1) +ℤ z) at_nice in
      let half : entry_of i / 2 ≡ i = omega arith in
      let mapped : map (run_item (q.count + 1)) (inserted nearer item (in_order q s)) ≡ inserted below (run_item (q.count + 1) item) (map (run_item (q.count + 1)) (in_order q s)) = map-inserted (run_item (q.count + 1)) nearer below item (in_order q s) (λ y. sym (int_le_plus (pos (q.count + 1)) (distance y.key next) (distance key next))) in
      ap (λ (ys : List KeyedItem). let l : RunList = record { count = q.count + 1; items = map (run_item (q.count + 1)) ys } in l) order_after
      ∙ ap (λ (ys : List RunItem). let l : RunList = record { count = q.count + 1; items = ys } in l) mapped
      ∙ ap (λ (ys : List RunItem). let l : RunList = record { count = q.count + 1; items = inserted below (run_item (q.count + 1) item) ys } in l) same_items
      ∙ ap (λ z. let l : RunList = record { count = q.count + 1; items = inserted (λ (y : RunItem). int_le y.key z) (record { key = z; task = entry_of i / 2 }) (map (run_item q.count) (in_order q s)) } in l) at
      ∙ ap (λ k. let l : RunList = record { count = q.count + 1; items = inserted (λ (y : RunItem). int_le y.key whole) (record { key = whole; task = k }) (map (run_item q.count) (in_order q s)) } in l) half

  pub fits_after : Fits (raised q) after
  fits_after =
      let by_key : KeyedItem → Bool = λ y. leb y.key key in
      let long : length after.roots ≡ length s.roots = length-set s.roots q.root _ in
      let half : entry_of i / 2 ≡ i = omega arith in
      let ordered : IsByDistance next (in_order q s) = subst (λ (ys : List KeyedItem). IsByDistance next ys) same_walk (walked_by_distance next items (omega arith) (ticks_of _ items f.runners) (keyed.keyed q.root f.exists).rising) in
      record {
        exists = rw long f.exists;
        depth = f.depth;
        runners = rw root_is (all-inserted (IsRunner s.entries) by_key item items (record { entry = omega arith; exists = exists; key = tick }) f.runners);
        fresh = rw order_after (fresh_inserted q.depth now next key item (in_order q s) refl close f.fresh shifts ordered);
        waiting = rw order_after (length-inserted nearer item (in_order q s) ∙ ap (λ n. n + 1) f.waiting);
        apart = λ other task within ne. rw (at_other q.root other _ s ne) (f.apart other task (rw long at within) ne);
      }

-- ---- a pick

-- the queue once a task was taken out
abbrev pub lowered : Runners → Runners
lowered q = record q { waiting = q.waiting - 1 }

module _ (q : Runners) (s : KeyedRoots) (f : Fits q s) (keyed : AreKeyed s) (entry : ℕ) (h : Some entry ≡ first_entry (in_order q s)) where
  abbrev pub picked : (y : KeyedItem) × (ys : List KeyedItem) × (in_order q s ≡ y ∷ ys) × (y.entry ≡ entry)
  picked = first_is (in_order q s) entry (sym h)

  pub picked_in : In picked.0 (root_at q.root s).items
  picked_in = walked_in (now_of q.count) picked.0 (root_at q.root s).items (subst (λ (zs : List KeyedItem). In picked.0 zs) (sym picked.2) (inl refl))

  pub stands : StandsIn q.root entry s
  stands = record { exists = f.exists; held = ap (λ e. holds e (root_at q.root s)) (sym picked.3) ∙ in_held picked.0 (root_at q.root s).items picked_in }

  pub task_is : Some (entry / 2) ≡ first_task (run_list q s).items
  task_is = sym (ap (λ (zs : List KeyedItem). first_task (map (run_item q.count) zs)) picked.2 ∙ ap (λ e. Some (e / 2)) picked.3)

  pub rest_is : filter (λ (y : KeyedItem). not (is_entry entry y)) (in_order q s) ≡ picked.1
  rest_is =
      let keeps : KeyedItem → Bool = λ y. not (is_entry entry y) in
      let once : IsOnce (picked.0 ∷ picked.1) = subst (λ (zs : List KeyedItem). IsOnce zs) picked.2 (once_walked (now_of q.count) (root_at q.root s).items (keyed.keyed q.root f.exists).once) in
      let alone : list_any (is_entry entry) picked.1 ≡ false = ap (λ e. list_any (is_entry e) picked.1) (sym picked.3) ∙ once.0 in
      ap (filter keeps) picked.2
      ∙ rw (eq-eqb picked.0.entry entry picked.3) (filter-all keeps picked.1 (all-weaker (λ (y : KeyedItem). is_entry entry y ≡ false) (λ (y : KeyedItem). keeps y ≡ true) picked.1 (λ y k. not_from_false _ k) (none_held (is_entry entry) picked.1 alone)))

  module _ (after : KeyedRoots) (out : after ≡ deleted_from q.root entry s) where
    pub root_out : root_at q.root after ≡ without_entry entry (root_at q.root s)
    root_out = ap (λ (u : KeyedRoots). root_at q.root u) out ∙ at_root q.root _ s f.exists

    pub order_out : in_order (lowered q) after ≡ picked.1
    order_out = ap (λ (l : KeyedList). walked (now_of q.count) l.items) root_out ∙ walked-filter (now_of q.count) (λ (y : KeyedItem). not (is_entry entry y)) (root_at q.root s).items ∙ rest_is

    pub list_out : run_list (lowered q) after ≡ without_least 1 (run_list q s)
    list_out =
        ap (λ (ys : List KeyedItem). let l : RunList = record { count = q.count; items = map (run_item q.count) ys } in l) order_out
        ∙ sym (ap (λ (ys : List KeyedItem). let l : RunList = record { count = q.count; items = drop 1 (map (run_item q.count) ys) } in l) picked.2)

    pub some_wait : 0 < q.waiting
    some_wait =
        let l : length (in_order q s) ≡ length (picked.0 ∷ picked.1) = ap length picked.2 in
        let w : length (in_order q s) ≡ q.waiting = f.waiting in
        omega arith

    pub changes_out : ChangesRoot q.root s after
    changes_out = rw out (changes_root q.root (without_entry entry (root_at q.root s)) s)

    pub fits_out : Fits (lowered q) after
    fits_out =
        let keeps : KeyedItem → Bool = λ y. not (is_entry entry y) in
        let long : length after.roots ≡ length s.roots = changes_out.roots in
        let l : length (in_order q s) ≡ length (picked.0 ∷ picked.1) = ap length picked.2 in
        let w : length (in_order q s) ≡ q.waiting = f.waiting in
        let fresh : IsFresh q.depth (now_of q.count) (picked.0 ∷ picked.1) = subst (λ (zs : List KeyedItem). IsFresh q.depth (now_of q.count) zs) picked.2 f.fresh in
        record {
          exists = rw long f.exists;
          depth = f.depth;
          runners = rw (root_out, changes_out.entries) (all-filter (IsRunner s.entries) keeps (root_at q.root s).items f.runners);
          fresh = rw order_out fresh.2;
          waiting = rw order_out (omega arith);
          apart = λ other task within ne. ap (holds (entry_of task)) (changes_out.others other ne) ∙ f.apart other task (rw long at within) ne;
        }

-- ---- tasks that the lists do not hold

pub never_listed : (count i : ℕ) (xs : List KeyedItem) (entries : ℕ) → AllByRecursion (IsRunner entries) xs → list_any (is_entry (entry_of i)) xs ≡ false → list_any (λ (z : RunItem). eqb z.task i) (map (run_item count) xs) ≡ false
never_listed count i [] entries all h = refl
never_listed count i (x ∷ xs) entries all h =
    let r = or_parts (is_entry (entry_of i) x) (list_any (is_entry (entry_of i)) xs) h in
    let odd : x.entry ≡ entry_of (x.entry / 2) = all.0.entry in
    rw (ne_eqb (x.entry / 2) i (λ e. eqb-false x.entry (entry_of i) r.0 (omega arith))) (never_listed count i xs entries all.1 r.1)

-- a task whose entry no root holds is not listed
pub not_listed : (i : ℕ) (q : Runners) (s : KeyedRoots) → Fits q s → IsFree (entry_of i) s → is_listed i (run_list q s) ≡ false
not_listed i q s f free =
    let none : AllByRecursion (λ (y : KeyedItem). is_entry (entry_of i) y ≡ false) (in_order q s) = all-walked (λ (y : KeyedItem). is_entry (entry_of i) y ≡ false) (now_of q.count) (root_at q.root s).items (none_held (is_entry (entry_of i)) (root_at q.root s).items (free q.root f.exists)) in
    never_listed q.count i (in_order q s) s.entries (all-walked (IsRunner s.entries) (now_of q.count) (root_at q.root s).items f.runners) (held_none (is_entry (entry_of i)) (in_order q s) none)

-- where no root was named for an entry, it is free
pub free_from_none : (entry : ℕ) (s : KeyedRoots) (r : Option ℕ) → false ≡ is_some r → ((root : ℕ) → StandsIn root entry s → r ≡ Some root) → IsFree entry s
free_from_none entry s r none one = λ root within.
    elim (cases_Bool (holds entry (root_at root s))) [
      | inl k ↦ absurd (false≢true (none ∙ ap is_some (one root (record { exists = within; held = k }))))
      | inr k ↦ k
    ]
