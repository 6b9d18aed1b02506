-- What insertions and deletions in the lists mean for the wait list.
use Rattle.std.proofs.Common.{◌≡◌, ℕ, ◌+◌, ◌*◌, ◌/◌, ◌^◌, ◌≤◌, ◌<◌, Bool, true, false, not, eqb, leb, List, [], ◌∷◌, ◌++◌, Option, Some, None, map, get_or, set, length, refl, sym, ap, subst, ◌∙◌, arith, inl, inr, ◌≤ℤ◌, ◌<ℤ◌, pos, zero, suc, replicate}
use Rattle.std.specs.Prelude.{int_le, int_lt}
use Rattle.std.specs.Option.{option_map, is_some, IfSome}
use Rattle.std.specs.List.{filter, find, list_any, AllByRecursion, IsDistinct}
use Rattle.std.proofs.lemmas.Bool.{cases_Bool, cases_eq, or_parts, not_from_false, false≢true, eqb-true, eqb-false, eq-eqb, ne_eqb}
use Rattle.std.proofs.lemmas.Int.{ints}
use Rattle.std.proofs.lemmas.List.{get_or_default, length-set, length-map, length-replicate}
use Rattle.std.proofs.lemmas.Map.Steps.{length-le_from_distinct_below}
use Rattle.sched_base.specs.KeyedList.{KeyedItem, KeyedList, KeyedRoots, AreKeyed, root_at, with_root, with_entry, without_entry, inserted_into, deleted_from, inserted, is_entry, holds, key_of_entry, first_entry, StandsIn, IsFree, ChangesRoot, IsOnce, blank}
use Rattle.sched_base.proofs.Inserted.{map-inserted, all-inserted, all-filter, all-weaker, filter-all, filter-none, all-both, all-map}
use Rattle.sched_base.proofs.Keyed.{at_root, at_other, keyed_roots-deleted}
use Rattle.sched_base.proofs.Once.{In, in_all, in_held, in_find, item_of_held, held-deleted, none_held, none_found}
use Rattle.queue_model.specs.Ticks.{distance, is_expired, is_set}
use Rattle.queue_model.specs.WaitList.{WaitItem, WaitList, is_of, without, placed, expiry_of, armed, unlinked}
use Rattle.queue_model.specs.Walk.{walked, HasTicks, IsByDistance}
use Rattle.queue_model.proofs.Walk.{walked-inserted, walked-filter, all-walked, int_le-false}
use Rattle.queue_model.proofs.WalkItems.{once_walked, find_walked, walked_in, in_walked, first_is}
use Rattle.queue_model.specs.SweepStep.{is_due, not_due, DueFirst}
use Rattle.queue_model.proofs.SweepSteps.{int_le-fails}
use Rattle.queue_model.specs.Sweep.{due}
use Rattle.wait_queue.specs.Timers.{Timers, IsReady, entry_of, wait_item, wait_list, IsTimer, Fits, key_of_task, insertions_of, Inserts, is_none_left}

-- ---- one root that changes

pub changes_root : (r : ℕ) (l : KeyedList) (s : KeyedRoots) → ChangesRoot r s (with_root r l s)
changes_root r l s = record {
  roots = length-set s.roots r l;
  entries = refl;
  others = λ other ne. at_other r other l s ne;
}

pub changes_none : (r : ℕ) (s : KeyedRoots) → ChangesRoot r s s
changes_none r s = record { roots = refl; entries = refl; others = λ other ne. refl }

pub changes_both : (r : ℕ) (s t u : KeyedRoots) → ChangesRoot r s t → ChangesRoot r t u → ChangesRoot r s u
changes_both r s t u a b = record {
  roots = b.roots ∙ a.roots;
  entries = b.entries ∙ a.entries;
  others = λ other ne. b.others other ne ∙ a.others other ne;
}

-- ---- tasks and their entries

pub half_of : (i : ℕ) → entry_of i / 2 ≡ i
half_of i = omega arith

-- an item of a task's entry is that of the task
pub entry_is_of : (tasks i : ℕ) (y : KeyedItem) → IsTimer tasks y → is_entry (entry_of i) y ≡ is_of i (wait_item y)
entry_is_of tasks i y h =
    let even : y.entry ≡ 2 * (y.entry / 2) = h.entry in
    elim (cases_eq y.entry (entry_of i)) [
      | inl e ↦ let f : y.entry / 2 ≡ i = omega arith in eq-eqb _ _ e ∙ sym (eq-eqb (y.entry / 2) i f)
      | inr ne ↦ ne_eqb _ _ ne ∙ sym (ne_eqb (y.entry / 2) i (λ f. ne (omega arith)))
    ]

pub map-without : (tasks i : ℕ) (xs : List KeyedItem) → AllByRecursion (IsTimer tasks) xs → map wait_item (filter (λ (y : KeyedItem). not (is_entry (entry_of i) y)) xs) ≡ without i (map wait_item xs)
map-without tasks i [] all = refl
map-without tasks i (x ∷ xs) all =
    let e = entry_is_of tasks i x all.0 in
    elim (cases_Bool (is_of i (wait_item x))) [
      | inl k ↦ rw (e, k) (map-without tasks i xs all.1)
      | inr k ↦ rw (e, k) (ap (λ (zs : List WaitItem). wait_item x ∷ zs) (map-without tasks i xs all.1))
    ]

pub find-map : (tasks i : ℕ) (xs : List KeyedItem) → AllByRecursion (IsTimer tasks) xs → find (is_of i) (map wait_item xs) ≡ option_map wait_item (find (is_entry (entry_of i)) xs)
find-map tasks i [] all = refl
find-map tasks i (x ∷ xs) all =
    let e = entry_is_of tasks i x all.0 in
    elim (cases_Bool (is_of i (wait_item x))) [ inl k ↦ rw (e, k) refl | inr k ↦ rw (e, k) (find-map tasks i xs all.1) ]

-- ---- the queue's root

pub ticks_of : (tasks : ℕ) (xs : List KeyedItem) → AllByRecursion (IsTimer tasks) xs → HasTicks xs
ticks_of tasks xs all = all-weaker (IsTimer tasks) (λ (y : KeyedItem). y.key < 2 ^ 32) xs (λ y h. h.tick) all

module _ (q : Timers) (s : KeyedRoots) (f : Fits q s) where
  -- the item of a task in the wait list, by a look in the root
  pub find_task : AreKeyed s → (now i : ℕ) → find (is_of i) (wait_list now q s).items ≡ option_map wait_item (find (is_entry (entry_of i)) (root_at q.root s).items)
  find_task keyed now i =
      find-map (length q.expiries) i (walked now (root_at q.root s).items) (all-walked (IsTimer (length q.expiries)) now (root_at q.root s).items f.timers)
      ∙ ap (option_map wait_item) (find_walked now (entry_of i) (root_at q.root s).items (keyed.keyed q.root f.exists).once)

  -- a task of the queue stands in its root or in none
  pub stands_nowhere_else : (i root : ℕ) → i < length q.expiries → StandsIn root (entry_of i) s → root ≡ q.root
  stands_nowhere_else i root lt stands =
      elim (cases_eq root q.root) [
        | inl e ↦ e
        | inr ne ↦ absurd (false≢true (sym (f.apart root i stands.exists ne lt) ∙ stands.held))
      ]

  pub free_task : (i : ℕ) → i < length q.expiries → holds (entry_of i) (root_at q.root s) ≡ false → IsFree (entry_of i) s
  free_task i lt h = λ root within.
      elim (cases_eq root q.root) [
        | inl e ↦ ap (λ r. holds (entry_of i) (root_at r s)) e ∙ h
        | inr ne ↦ f.apart root i within ne lt
      ]

  pub entry_exists : (i : ℕ) → i < length q.expiries → entry_of i < s.entries
  entry_exists i lt = let r : 2 * length q.expiries ≤ s.entries = f.room in omega arith

  -- an insertion places the task
  pub insertion_places : AreKeyed s → (now i t : ℕ) → now < 2 ^ 32 → t < 2 ^ 32 → wait_list now q (inserted_into q.root (entry_of i) t s) ≡ record { items = placed now i t (wait_list now q s).items; expiries = q.expiries }
  insertion_places keyed now i t n h =
      let items : List KeyedItem = (root_at q.root s).items in
      let x : KeyedItem = record { key = t; entry = entry_of i } in
      let at : root_at q.root (inserted_into q.root (entry_of i) t s) ≡ with_entry t (entry_of i) (root_at q.root s) = at_root q.root _ s f.exists in
      let walk : walked now (inserted (λ (y : KeyedItem). leb y.key t) x items) ≡ inserted (λ (y : KeyedItem). int_le (distance y.key now) (distance t now)) x (walked now items) = walked-inserted now t x items n h refl (ticks_of _ items f.timers) (keyed.keyed q.root f.exists).rising in
      let item : wait_item x ≡ record { key = t; task = i } = ap (λ k. let w : WaitItem = record { key = t; task = k } in w) (half_of i) in
      ap (λ (l : KeyedList). let w : WaitList = record { items = map wait_item (walked now l.items); expiries = q.expiries } in w) at
      ∙ ap (λ (ys : List KeyedItem). let w : WaitList = record { items = map wait_item ys; expiries = q.expiries } in w) walk
      ∙ ap (λ (ys : List WaitItem). let w : WaitList = record { items = ys; expiries = q.expiries } in w) (map-inserted wait_item (λ (y : KeyedItem). int_le (distance y.key now) (distance t now)) (λ (y : WaitItem). int_le (distance y.key now) (distance t now)) x (walked now items) (λ y. refl))
      ∙ ap (λ (w : WaitItem). let l : WaitList = record { items = inserted (λ (y : WaitItem). int_le (distance y.key now) (distance t now)) w (map wait_item (walked now items)); expiries = q.expiries } in l) item

  -- a deletion takes the task out
  pub deletion_takes_out : (now i : ℕ) → wait_list now q (deleted_from q.root (entry_of i) s) ≡ record { items = without i (wait_list now q s).items; expiries = q.expiries }
  deletion_takes_out now i =
      let items : List KeyedItem = (root_at q.root s).items in
      let at : root_at q.root (deleted_from q.root (entry_of i) s) ≡ without_entry (entry_of i) (root_at q.root s) = at_root q.root _ s f.exists in
      ap (λ (l : KeyedList). let w : WaitList = record { items = map wait_item (walked now l.items); expiries = q.expiries } in w) at
      ∙ ap (λ (ys : List KeyedItem). let w : WaitList = record { items = map wait_item ys; expiries = q.expiries } in w) (walked-filter now (λ (y : KeyedItem). not (is_entry (entry_of i) y)) items)
      ∙ ap (λ (ys : List WaitItem). let w : WaitList = record { items = ys; expiries = q.expiries } in w) (map-without (length q.expiries) i (walked now items) (all-walked (IsTimer (length q.expiries)) now items f.timers))

  -- the queue still fits after an insertion
  pub fits_after_insertion : (i t : ℕ) → i < length q.expiries → 0 < t → t < 2 ^ 32 → Fits q (inserted_into q.root (entry_of i) t s)
  fits_after_insertion i t lt p h =
      let x : KeyedItem = record { key = t; entry = entry_of i } in
      let at : root_at q.root (inserted_into q.root (entry_of i) t s) ≡ with_entry t (entry_of i) (root_at q.root s) = at_root q.root _ s f.exists in
      let by_key : KeyedItem → Bool = λ y. leb y.key t in
      let long : length (inserted_into q.root (entry_of i) t s).roots ≡ length s.roots = length-set s.roots q.root _ in
      let half : entry_of i / 2 ≡ i = half_of i in
      record {
        exists = rw long f.exists;
        room = f.room;
        numbers = f.numbers;
        timers = rw at (all-inserted (IsTimer (length q.expiries)) by_key x (root_at q.root s).items (record { entry = omega arith; task = omega arith; set = p; tick = h }) f.timers);
        apart = λ other task within ne below. rw (at_other q.root other _ s ne) (f.apart other task (rw long at within) ne below);
      }

  -- and after a deletion
  pub fits_after_deletion : (entry : ℕ) → Fits q (deleted_from q.root entry s)
  fits_after_deletion entry =
      let at : root_at q.root (deleted_from q.root entry s) ≡ without_entry entry (root_at q.root s) = at_root q.root _ s f.exists in
      let keeps : KeyedItem → Bool = λ y. not (is_entry entry y) in
      let long : length (deleted_from q.root entry s).roots ≡ length s.roots = length-set s.roots q.root _ in
      record {
        exists = rw long f.exists;
        room = f.room;
        numbers = f.numbers;
        timers = rw at (all-filter (IsTimer (length q.expiries)) keeps (root_at q.root s).items f.timers);
        apart = λ other task within ne below. rw (at_other q.root other _ s ne) (f.apart other task (rw long at within) ne below);
      }

  pub free_after_deletion : (entry : ℕ) → holds entry (root_at q.root (deleted_from q.root entry s)) ≡ false
  free_after_deletion entry = rw (at_root q.root (without_entry entry (root_at q.root s)) s f.exists) (held-deleted entry (root_at q.root s).items)

  pub insertions_after_insertion : (entry t : ℕ) → insertions_of q (inserted_into q.root entry t s) ≡ insertions_of q s + 1
  insertions_after_insertion entry t = ap (λ (l : KeyedList). l.insertions) (at_root q.root _ s f.exists)

  pub insertions_after_deletion : (entry : ℕ) → insertions_of q (deleted_from q.root entry s) ≡ insertions_of q s
  insertions_after_deletion entry = ap (λ (l : KeyedList). l.insertions) (at_root q.root _ s f.exists)

-- a change of expiries leaves what fits
pub fits_after_change : (q r : Timers) (s : KeyedRoots) → r.root ≡ q.root → length r.expiries ≡ length q.expiries → Fits q s → Fits r s
fits_after_change q r s same long f = record {
  exists = rw same f.exists;
  room = rw long f.room;
  numbers = f.numbers;
  timers = rw (same, long) f.timers;
  apart = λ other task within ne below. f.apart other task within (λ e. ne (e ∙ sym same)) (rw long at below);
}

-- ---- what is due

-- along a walk the due items stand before the others
pub due_first : (now : ℕ) (xs : List KeyedItem) → IsByDistance now xs → AllByRecursion (λ (y : KeyedItem). 0 < y.key) xs → DueFirst now (map wait_item xs)
due_first now [] ordered all = refl
due_first now (x ∷ xs) ordered all =
    elim (cases_Bool (is_expired x.key now)) [
      | inl d ↦ rw d (ap (λ (zs : List WaitItem). wait_item x ∷ zs) (due_first now xs ordered.1 all.1))
      | inr d ↦ rw d (none_first xs (later x.key all.0 d) ordered.0 all.1)
    ]
  where
    later : (k : ℕ) → 0 < k → is_expired k now ≡ false → pos 0 <ℤ distance k now
    later k p d = int_le-fails (distance k now) (pos 0) (rw (ne_eqb k 0 (λ e. omega arith)) at d)

    none_first : (ys : List KeyedItem) → pos 0 <ℤ distance x.key now → AllByRecursion (λ (y : KeyedItem). distance x.key now ≤ℤ distance y.key now) ys → AllByRecursion (λ (y : KeyedItem). 0 < y.key) ys → filter (is_due now) (map wait_item ys) ++ wait_item x ∷ not_due now (map wait_item ys) ≡ wait_item x ∷ map wait_item ys
    none_first ys lt far set =
        let none : AllByRecursion (λ (y : KeyedItem). is_expired y.key now ≡ false) ys = all-weaker (λ (y : KeyedItem). (distance x.key now ≤ℤ distance y.key now) × (0 < y.key)) (λ (y : KeyedItem). is_expired y.key now ≡ false) ys (λ y h.
        let l : pos 0 <ℤ distance y.key now = let a : distance x.key now ≤ℤ distance y.key now = h.0 in omega (arith, ints) in
        rw (ne_eqb y.key 0 (let p : 0 < y.key = h.1 in λ e. omega arith)) (int_le-false (distance y.key now) (pos 0) l)) (all-both _ _ ys far set) in
        rw (filter-none (is_due now) (map wait_item ys) (all-map wait_item (λ (w : WaitItem). is_due now w ≡ false) ys none), filter-all (λ (w : WaitItem). not (is_due now w)) (map wait_item ys) (all-map wait_item (λ (w : WaitItem). not (is_due now w) ≡ true) ys (all-weaker (λ (y : KeyedItem). is_expired y.key now ≡ false) (λ (y : KeyedItem). not (is_expired y.key now) ≡ true) ys (λ y h. not_from_false _ h) none))) refl

-- what the first item of the walk is
pub record First (now entry : ℕ) (q : Timers) (s : KeyedRoots) : Type 0 where
  pub item : KeyedItem
  pub rest : List KeyedItem
  pub walk : walked now (root_at q.root s).items ≡ item ∷ rest
  pub own : item.entry ≡ entry
  pub timer : IsTimer (length q.expiries) item
  pub stands : StandsIn q.root entry s
  pub key : key_of_entry entry (root_at q.root s).items ≡ Some item.key
  pub alone : filter (λ (y : KeyedItem). not (is_entry entry y)) (item ∷ rest) ≡ rest

pub first_of : (now entry : ℕ) (q : Timers) (s : KeyedRoots) → Fits q s → AreKeyed s → first_entry (walked now (root_at q.root s).items) ≡ Some entry → First now entry q s
first_of now entry q s f keyed h =
    let items : List KeyedItem = (root_at q.root s).items in
    let w = first_is (walked now items) entry h in
    let there : In w.0 (walked now items) = subst (λ (zs : List KeyedItem). In w.0 zs) (sym w.2) (inl refl) in
    let in' : In w.0 items = walked_in now w.0 items there in
    let own : w.0.entry ≡ entry = w.3 in
    let found : find (is_entry w.0.entry) items ≡ Some w.0 = in_find w.0 items (keyed.keyed q.root f.exists).once in' in
    let once : IsOnce (w.0 ∷ w.1) = subst (λ (zs : List KeyedItem). IsOnce zs) w.2 (once_walked now items (keyed.keyed q.root f.exists).once) in
    let rest : filter (λ (y : KeyedItem). not (is_entry w.0.entry y)) w.1 ≡ w.1 = filter-all (λ (y : KeyedItem). not (is_entry w.0.entry y)) w.1 (all-weaker (λ (y : KeyedItem). is_entry w.0.entry y ≡ false) (λ (y : KeyedItem). not (is_entry w.0.entry y) ≡ true) w.1 (λ y k. not_from_false _ k) (none_held (is_entry w.0.entry) w.1 once.0)) in
    record {
      item = w.0;
      rest = w.1;
      walk = w.2;
      own = own;
      timer = in_all (IsTimer (length q.expiries)) w.0 items f.timers in';
      stands = record { exists = f.exists; held = ap (λ e. holds e (root_at q.root s)) (sym own) ∙ in_held w.0 items in' };
      key = ap (λ e. key_of_entry e items) (sym own) ∙ ap (option_map (λ (y : KeyedItem). y.key)) found;
      alone = ap (λ e. filter (λ (y : KeyedItem). not (is_entry e y)) (w.0 ∷ w.1)) (sym own) ∙ rw (eq-eqb w.0.entry w.0.entry refl) rest;
    }

-- ---- how many items there are

pub tasks_differ : (tasks i : ℕ) (xs : List KeyedItem) → AllByRecursion (IsTimer tasks) xs → list_any (is_entry (entry_of i)) xs ≡ false → AllByRecursion (λ (m : ℕ). eqb i m ≡ false) (map (λ (y : KeyedItem). y.entry / 2) xs)
tasks_differ tasks i [] all h = tt
tasks_differ tasks i (x ∷ xs) all h =
    let r = or_parts (is_entry (entry_of i) x) (list_any (is_entry (entry_of i)) xs) h in
    let even : x.entry ≡ 2 * (x.entry / 2) = all.0.entry in
    (ne_eqb i (x.entry / 2) (λ e. eqb-false x.entry (entry_of i) r.0 (omega arith)), tasks_differ tasks i xs all.1 r.1)

pub tasks_distinct : (tasks : ℕ) (xs : List KeyedItem) → AllByRecursion (IsTimer tasks) xs → IsOnce xs → IsDistinct eqb (map (λ (y : KeyedItem). y.entry / 2) xs)
unfolding IsDistinct
tasks_distinct tasks [] all once = tt
tasks_distinct tasks (x ∷ xs) all once =
    let even : x.entry ≡ entry_of (x.entry / 2) = all.0.entry in
    (tasks_differ tasks (x.entry / 2) xs all.1 (ap (λ e. list_any (is_entry e) xs) (sym even) ∙ once.0), tasks_distinct tasks xs all.1 once.1)

pub tasks_below : (tasks : ℕ) (xs : List KeyedItem) → AllByRecursion (IsTimer tasks) xs → (i : ℕ) → list_any (eqb i) (map (λ (y : KeyedItem). y.entry / 2) xs) ≡ true → i < tasks
tasks_below tasks [] all i h = absurd (false≢true h)
tasks_below tasks (x ∷ xs) all i h =
    elim (cases_Bool (eqb i (x.entry / 2))) [
      | inl e ↦ let same : i ≡ x.entry / 2 = eqb-true i (x.entry / 2) e in let lt : x.entry / 2 < tasks = all.0.task in omega arith
      | inr e ↦ tasks_below tasks xs all.1 i (rw e at h)
    ]

pub items_bound : (now : ℕ) (q : Timers) (s : KeyedRoots) → Fits q s → AreKeyed s → length (wait_list now q s).items ≤ length q.expiries
items_bound now q s f keyed =
    let items : List KeyedItem = walked now (root_at q.root s).items in
    let timers : AllByRecursion (IsTimer (length q.expiries)) items = all-walked (IsTimer (length q.expiries)) now (root_at q.root s).items f.timers in
    let count : length (map (λ (y : KeyedItem). y.entry / 2) items) ≤ length q.expiries = length-le_from_distinct_below _ (length q.expiries) (tasks_distinct (length q.expiries) items timers (once_walked now (root_at q.root s).items (keyed.keyed q.root f.exists).once)) (tasks_below (length q.expiries) items timers) in
    omega (arith, length-map items (λ (y : KeyedItem). y.entry / 2), length-map items wait_item)

pub due_bound : (now : ℕ) (q : Timers) (s : KeyedRoots) → Fits q s → AreKeyed s → length (due now (wait_list now q s)) ≤ length q.expiries
due_bound now q s f keyed =
    let all : length (wait_list now q s).items ≤ length q.expiries = items_bound now q s f keyed in
    let part : length (filter (is_due now) (wait_list now q s).items) ≤ length (wait_list now q s).items = fewer (is_due now) (wait_list now q s).items in
    omega arith
  where
    fewer : {X : Type 0} (p : X → Bool) (xs : List X) → length (filter p xs) ≤ length xs
    fewer p [] = omega arith
    fewer p (x ∷ xs) =
        let rest : length (filter p xs) ≤ length xs = fewer p xs in
        elim (cases_Bool (p x)) [ inl k ↦ rw k (omega arith) | inr k ↦ rw k (omega arith) ]

-- ---- what a look for a task finds

pub map-key : (o : Option KeyedItem) → option_map (λ (y : WaitItem). y.key) (option_map wait_item o) ≡ option_map (λ (y : KeyedItem). y.key) o
map-key (Some y) = refl
map-key None = refl

pub key_in_list : (now i : ℕ) (q : Timers) (s : KeyedRoots) → Fits q s → AreKeyed s → key_of_task i (wait_list now q s).items ≡ key_of_entry (entry_of i) (root_at q.root s).items
key_in_list now i q s f keyed = ap (option_map (λ (y : WaitItem). y.key)) (find_task q s f keyed now i) ∙ map-key _

-- a root that was named is the queue's
pub found_here : (i : ℕ) (q : Timers) (s : KeyedRoots) → Fits q s → i < length q.expiries → (r : Option ℕ) → is_some r ≡ true → IfSome r (λ root. StandsIn root (entry_of i) s) → StandsIn q.root (entry_of i) s
found_here i q s f lt None h k = absurd (false≢true h)
found_here i q s f lt (Some root) h k = subst (λ r. StandsIn r (entry_of i) s) (stands_nowhere_else q s f i root lt k) k

-- where none was named the queue does not hold the task
pub absent_here : (i : ℕ) (q : Timers) (s : KeyedRoots) → Fits q s → (r : Option ℕ) → is_some r ≡ false → ((root : ℕ) → StandsIn root (entry_of i) s → r ≡ Some root) → holds (entry_of i) (root_at q.root s) ≡ false
absent_here i q s f r h one =
    elim (cases_Bool (holds (entry_of i) (root_at q.root s))) [
      | inl k ↦ let e = one q.root (record { exists = f.exists; held = k }) in absurd (false≢true (sym h ∙ ap is_some e))
      | inr k ↦ k
    ]

pub find_absent : (i : ℕ) (xs : List KeyedItem) → list_any (is_entry (entry_of i)) xs ≡ false → find (is_entry (entry_of i)) xs ≡ None
find_absent i xs h = none_found (is_entry (entry_of i)) xs (none_held (is_entry (entry_of i)) xs h)

pub key_absent : (now i : ℕ) (q : Timers) (s : KeyedRoots) → Fits q s → AreKeyed s → holds (entry_of i) (root_at q.root s) ≡ false → None ≡ key_of_task i (wait_list now q s).items
key_absent now i q s f keyed h = sym (key_in_list now i q s f keyed ∙ ap (option_map (λ (y : KeyedItem). y.key)) (find_absent i (root_at q.root s).items h))

pub find_task_absent : (now i : ℕ) (q : Timers) (s : KeyedRoots) → Fits q s → AreKeyed s → holds (entry_of i) (root_at q.root s) ≡ false → find (is_of i) (wait_list now q s).items ≡ None
find_task_absent now i q s f keyed h = find_task q s f keyed now i ∙ ap (option_map wait_item) (find_absent i (root_at q.root s).items h)

-- a task without a key is not held
pub absent_task : (now i : ℕ) (q : Timers) (s : KeyedRoots) → Fits q s → AreKeyed s → None ≡ key_of_task i (wait_list now q s).items → holds (entry_of i) (root_at q.root s) ≡ false
absent_task now i q s f keyed e =
    elim (cases_Bool (holds (entry_of i) (root_at q.root s))) [
      | inl k ↦
          let w = item_of_held (entry_of i) (root_at q.root s).items k in
          let found : find (is_entry (entry_of i)) (root_at q.root s).items ≡ Some w.0 = ap (λ x. find (is_entry x) (root_at q.root s).items) (sym w.2) ∙ in_find w.0 (root_at q.root s).items (keyed.keyed q.root f.exists).once w.1 in
          let some : None ≡ Some w.0.key = e ∙ key_in_list now i q s f keyed ∙ ap (option_map (λ (y : KeyedItem). y.key)) found in
          cc
      | inr k ↦ k
    ]

-- a task with a key has its item
pub record Present (now i key : ℕ) (q : Timers) (s : KeyedRoots) : Type 0 where
  pub item : WaitItem
  pub found : find (is_of i) (wait_list now q s).items ≡ Some item
  pub under : item.key ≡ key
  pub stands : StandsIn q.root (entry_of i) s

pub present_task : (now i key : ℕ) (q : Timers) (s : KeyedRoots) → Fits q s → AreKeyed s → Some key ≡ key_of_task i (wait_list now q s).items → Present now i key q s
present_task now i key q s f keyed e =
    elim (cases_Bool (holds (entry_of i) (root_at q.root s))) [
      | inl k ↦
          let w = item_of_held (entry_of i) (root_at q.root s).items k in
          let found : find (is_entry (entry_of i)) (root_at q.root s).items ≡ Some w.0 = ap (λ x. find (is_entry x) (root_at q.root s).items) (sym w.2) ∙ in_find w.0 (root_at q.root s).items (keyed.keyed q.root f.exists).once w.1 in
          let some : Some key ≡ Some w.0.key = e ∙ key_in_list now i q s f keyed ∙ ap (option_map (λ (y : KeyedItem). y.key)) found in
          record {
            item = wait_item w.0;
            found = find_task q s f keyed now i ∙ ap (option_map wait_item) found;
            under = let same : w.0.key ≡ key = cc in same;
            stands = record { exists = f.exists; held = k };
          }
      | inr k ↦ let none : Some key ≡ None = e ∙ sym (key_absent now i q s f keyed k) in cc
    ]

-- whether the queue has no item
pub vacant : (now : ℕ) (items : List KeyedItem) (b : Bool) → is_some (first_entry items) ≡ not b → b ≡ is_none_left (map wait_item (walked now items))
vacant now [] true h = refl
vacant now [] false h = absurd (false≢true h)
vacant now (y ∷ ys) true h = absurd (false≢true (sym h))
vacant now (y ∷ ys) false h = some (walked now (y ∷ ys)) (in_walked now y (y ∷ ys) (inl refl))
  where
    some : (zs : List KeyedItem) → In y zs → false ≡ is_none_left (map wait_item zs)
    some [] h = absurd h
    some (z ∷ zs) h = refl

-- ---- arming

pub arm_absent : (now i t : ℕ) (l : WaitList) → t ≡ expiry_of l i → is_set t ≡ true → find (is_of i) l.items ≡ None → armed now i l ≡ record { items = placed now i t l.items; expiries = l.expiries }
arm_absent now i t l e set none = rw (← e) (rw set (rw none refl))

pub arm_moves : (now i t key : ℕ) (l : WaitList) (y : WaitItem) → t ≡ expiry_of l i → is_set t ≡ true → find (is_of i) l.items ≡ Some y → y.key ≡ key → int_lt (distance t key) (pos 0) ≡ true → armed now i l ≡ record { items = placed now i t (without i l.items); expiries = l.expiries }
arm_moves now i t key l y e set found own lt = rw (← e) (rw set (rw found (rw own (rw lt refl))))

pub arm_stays : (now i t key : ℕ) (l : WaitList) (y : WaitItem) → t ≡ expiry_of l i → is_set t ≡ true → find (is_of i) l.items ≡ Some y → y.key ≡ key → int_lt (distance t key) (pos 0) ≡ false → armed now i l ≡ l
arm_stays now i t key l y e set found own lt = rw (← e) (rw set (rw found (rw own (rw lt refl))))

pub arm_unset : (now i : ℕ) (l : WaitList) → is_set (expiry_of l i) ≡ false → armed now i l ≡ l
arm_unset now i l unset = rw unset refl

-- an expiry that was read
pub expiry_is : (q : Timers) (root : ℕ) (expiries : List ℕ) (i t : ℕ) → record { root = root; expiries = expiries } ≡ q → i < length q.expiries → t ≡ get_or expiries i t → t ≡ get_or q.expiries i 0
expiry_is q root expiries i t view lt e =
    let same : expiries ≡ q.expiries = ap (λ (x : Timers). x.expiries) view in
    rw same at e ∙ get_or_default q.expiries i t 0 lt

pub set_positive : (t : ℕ) → is_set t ≡ true → 0 < t
set_positive t h = elim (cases_eq t 0) [ inl e ↦ absurd (false≢true (sym (rw (eq-eqb t 0 e) refl) ∙ h)) | inr ne ↦ omega arith ]

-- a task that is absent goes in at its expiry
module _ (now i t : ℕ) (q : Timers) (s s' : KeyedRoots) (f : Fits q s) (keyed : AreKeyed s) (lt : i < length q.expiries) (n : now < 2 ^ 32) (tick : t < 2 ^ 32) (is : t ≡ get_or q.expiries i 0) (armed' : is_set t ≡ true) (none : None ≡ key_of_task i (wait_list now q s).items) (e : s' ≡ inserted_into q.root (entry_of i) t s) where
  pub arms_absent : wait_list now q s' ≡ armed now i (wait_list now q s)
  arms_absent =
      ap (λ (u : KeyedRoots). wait_list now q u) e
      ∙ insertion_places q s f keyed now i t n tick
      ∙ sym (arm_absent now i t (wait_list now q s) is armed' (find_task_absent now i q s f keyed (absent_task now i q s f keyed none)))

  pub fits_absent : Fits q s'
  fits_absent = rw e (fits_after_insertion q s f i t lt (set_positive t armed') tick)

-- a task that is there and is due earlier moves
module _ (now i t key : ℕ) (q : Timers) (s s' s'' : KeyedRoots) (f : Fits q s) (keyed : AreKeyed s) (lt : i < length q.expiries) (n : now < 2 ^ 32) (tick : t < 2 ^ 32) (is : t ≡ get_or q.expiries i 0) (armed' : is_set t ≡ true) (some : Some key ≡ key_of_task i (wait_list now q s).items) (earlier : int_lt (distance t key) (pos 0) ≡ true) (e : s' ≡ deleted_from q.root (entry_of i) s) (e' : s'' ≡ inserted_into q.root (entry_of i) t s') where
  pub fits_between : Fits q s'
  fits_between = rw e (fits_after_deletion q s f (entry_of i))

  pub keyed_between : AreKeyed s'
  keyed_between = rw e (keyed_roots-deleted q.root (entry_of i) s f.exists keyed)

  pub free_between : holds (entry_of i) (root_at q.root s') ≡ false
  free_between = ap (λ (u : KeyedRoots). holds (entry_of i) (root_at q.root u)) e ∙ free_after_deletion q s f (entry_of i)

  pub arms_earlier : wait_list now q s'' ≡ armed now i (wait_list now q s)
  arms_earlier =
      let p = present_task now i key q s f keyed some in
      ap (λ (u : KeyedRoots). wait_list now q u) e'
      ∙ insertion_places q s' fits_between keyed_between now i t n tick
      ∙ ap (λ (u : KeyedRoots). let w : WaitList = record { items = placed now i t (wait_list now q u).items; expiries = q.expiries } in w) e
      ∙ ap (λ (l : WaitList). let w : WaitList = record { items = placed now i t l.items; expiries = q.expiries } in w) (deletion_takes_out q s f now i)
      ∙ sym (arm_moves now i t key (wait_list now q s) p.item is armed' p.found p.under earlier)

  pub fits_earlier : Fits q s''
  fits_earlier = rw e' (fits_after_insertion q s' fits_between i t lt (set_positive t armed') tick)

  pub changes_earlier : ChangesRoot q.root s s''
  changes_earlier =
      changes_both q.root s s' s'' (rw e (changes_root q.root (without_entry (entry_of i) (root_at q.root s)) s)) (rw e' (changes_root q.root (with_entry t (entry_of i) (root_at q.root s')) s'))

  pub inserts_between : insertions_of q s' ≡ insertions_of q s
  inserts_between = ap (insertions_of q) e ∙ insertions_after_deletion q s f (entry_of i)

  pub inserts_earlier : Inserts 1 q s s''
  inserts_earlier =
      let one : insertions_of q s'' ≡ insertions_of q s + 1 = ap (insertions_of q) e' ∙ insertions_after_insertion q s' fits_between (entry_of i) t ∙ ap (λ k. k + 1) inserts_between in
      record { grows = omega arith; bound = omega arith }

-- ---- dropping

-- the queue with a task's expiry unset
abbrev pub unset : ℕ → Timers → Timers
unset i q = record { root = q.root; expiries = set q.expiries i 0 }

pub without_absent : (i : ℕ) (xs : List WaitItem) → find (is_of i) xs ≡ None → without i xs ≡ xs
without_absent i [] h = refl
without_absent i (x ∷ xs) h =
    elim (cases_Bool (is_of i x)) [
      | inl k ↦ let s = rw k at h in cc
      | inr k ↦ rw k (ap (λ (zs : List WaitItem). x ∷ zs) (without_absent i xs (rw k at h)))
    ]

pub unlink_absent : (now i : ℕ) (q : Timers) (s : KeyedRoots) → Fits q s → AreKeyed s → holds (entry_of i) (root_at q.root s) ≡ false → wait_list now (unset i q) s ≡ unlinked i (wait_list now q s)
unlink_absent now i q s f keyed free =
    ap (λ (ys : List WaitItem). let w : WaitList = record { items = ys; expiries = set q.expiries i 0 } in w) (sym (without_absent i (wait_list now q s).items (find_task_absent now i q s f keyed free)))

pub unlink_present : (now i : ℕ) (q : Timers) (s t : KeyedRoots) → Fits q s → t ≡ deleted_from q.root (entry_of i) s → wait_list now (unset i q) t ≡ unlinked i (wait_list now q s)
unlink_present now i q s t f e =
    ap (λ (u : KeyedRoots). wait_list now (unset i q) u) e
    ∙ ap (λ (l : WaitList). let w : WaitList = record { items = l.items; expiries = set q.expiries i 0 } in w) (deletion_takes_out q s f now i)

-- ---- empty lists

pub blank_root : (n r : ℕ) → get_or (replicate n blank) r blank ≡ blank
blank_root zero r = refl
blank_root (suc n) zero = refl
blank_root (suc n) (suc r) = blank_root n r

-- empty lists are ready for a queue
pub ready_blank : (roots entries root tasks : ℕ) → root < roots → 2 * tasks ≤ entries → entries ≤ 2 ^ 32 → IsReady root tasks (record { roots = replicate roots blank; entries = entries })
ready_blank roots entries root tasks lt room numbers = record {
  exists = rw (length-replicate roots blank) lt;
  empty = ap (λ (l : KeyedList). l.items) (blank_root roots root);
  room = room;
  numbers = numbers;
  free = λ task below other within. ap (holds (entry_of task)) (blank_root roots other);
}
