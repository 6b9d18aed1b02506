-- What a look at the first item of the walk comes to.
use Rattle.std.proofs.Common.{◌≡◌, ℕ, ◌+◌, ◌/◌, ◌^◌, ◌<◌, Bool, true, false, not, List, ◌∷◌, Some, None, map, get_or, set, length, refl, sym, ap, subst, ◌∙◌, arith}
use Rattle.std.specs.Prelude.{int_le}
use Rattle.std.specs.List.{filter, AllByRecursion}
use Rattle.std.proofs.lemmas.List.{length-set}
use Rattle.sched_base.specs.KeyedList.{KeyedItem, KeyedList, KeyedRoots, AreKeyed, root_at, without_entry, inserted_into, deleted_from, with_entry, is_entry, holds, first_entry, key_of_entry, IsFree, ChangesRoot}
use Rattle.sched_base.proofs.Keyed.{at_root, keyed_roots-deleted}
use Rattle.sched_base.proofs.Inserted.{all-weaker, filter-inserted_out}
use Rattle.queue_model.specs.Ticks.{distance, is_expired, is_set}
use Rattle.queue_model.specs.WaitList.{WaitItem, WaitList, placed}
use Rattle.queue_model.specs.Sweep.{due}
use Rattle.queue_model.specs.SweepStep.{is_due, DueFirst, first_fired, swept_once}
use Rattle.queue_model.specs.Walk.{walked}
use Rattle.queue_model.proofs.Walk.{walked-filter, walked_by_distance, all-walked}
use Rattle.queue_model.proofs.WalkItems.{none_is}
use Rattle.queue_model.proofs.SweepSteps.{none_due, step_fires, step_puts_back, step_forgets}
use Rattle.wait_queue.specs.Looks.{Settles, Passes, Fires}
use Rattle.wait_queue.specs.Timers.{Timers, entry_of, wait_item, wait_list, IsTimer, Fits, insertions_of, Inserts}
use Rattle.wait_queue.proofs.Meaning.{First, first_of, due_first, ticks_of, changes_root, changes_both, insertion_places, fits_after_insertion, fits_after_deletion, fits_after_change, free_after_deletion, free_task, entry_exists, insertions_after_insertion, insertions_after_deletion, unset, set_positive}

-- where there is no first item nothing is due
pub settles_empty : (now : ℕ) (q : Timers) (s : KeyedRoots) → None ≡ first_entry (walked now (root_at q.root s).items) → Settles now (wait_list now q s) (wait_list now q s)
settles_empty now q s h = record {
  same = refl;
  none = ap (λ (xs : List KeyedItem). filter (is_due now) (map wait_item xs)) (none_is (walked now (root_at q.root s).items) (sym h));
}

module _ (now entry : ℕ) (q : Timers) (s : KeyedRoots) (f : Fits q s) (keyed : AreKeyed s) (n : now < 2 ^ 32) (h : Some entry ≡ first_entry (walked now (root_at q.root s).items)) where
  abbrev pub first : First now entry q s
  first = first_of now entry q s f keyed (sym h)

  abbrev pub one : WaitItem
  one = wait_item first.item

  abbrev pub others : List WaitItem
  others = map wait_item first.rest

  pub list_is : wait_list now q s ≡ record { items = one ∷ others; expiries = q.expiries }
  list_is = ap (λ (xs : List KeyedItem). let w : WaitList = record { items = map wait_item xs; expiries = q.expiries } in w) first.walk

  pub ordered : DueFirst now (one ∷ others)
  ordered =
      let items : List KeyedItem = (root_at q.root s).items in
      let set' : AllByRecursion (λ (y : KeyedItem). 0 < y.key) items = all-weaker (IsTimer (length q.expiries)) (λ (y : KeyedItem). 0 < y.key) items (λ y t. t.set) f.timers in
      subst (λ (xs : List KeyedItem). DueFirst now (map wait_item xs)) first.walk (due_first now (walked now items) (walked_by_distance now items n (ticks_of _ items f.timers) (keyed.keyed q.root f.exists).rising) (all-walked (λ (y : KeyedItem). 0 < y.key) now items set'))

  pub task_is : one.task ≡ entry / 2
  task_is = ap (λ e. e / 2) first.own

  pub entry_is : entry ≡ entry_of (entry / 2)
  entry_is = sym first.own ∙ first.timer.entry ∙ ap (λ e. entry_of (e / 2)) first.own

  pub task_exists : entry / 2 < length q.expiries
  task_exists = subst (λ e. e / 2 < length q.expiries) first.own first.timer.task

  -- the key under which the first entry stands
  pub key_is : (k : ℕ) → key_of_entry entry (root_at q.root s).items ≡ Some k → k ≡ one.key
  key_is k e = let same : Some k ≡ Some first.item.key = sym e ∙ first.key in let r : k ≡ first.item.key = cc in r

  pub settles_ahead : (k : ℕ) → key_of_entry entry (root_at q.root s).items ≡ Some k → is_expired k now ≡ false → Settles now (wait_list now q s) (wait_list now q s)
  settles_ahead k e d = record {
    same = refl;
    none = ap (λ (w : WaitList). due now w) list_is ∙ none_due now one others (ap (λ j. is_expired j now) (sym (key_is k e)) ∙ d) ordered;
  }

  -- once the first item is out
  module _ (s' : KeyedRoots) (out : s' ≡ deleted_from q.root entry s) where
    pub fits_out : Fits q s'
    fits_out = rw out (fits_after_deletion q s f entry)

    pub keyed_out : AreKeyed s'
    keyed_out = rw out (keyed_roots-deleted q.root entry s f.exists keyed)

    pub changes_out : ChangesRoot q.root s s'
    changes_out = rw out (changes_root q.root (without_entry entry (root_at q.root s)) s)

    pub count_out : insertions_of q s' ≡ insertions_of q s
    count_out = ap (insertions_of q) out ∙ insertions_after_deletion q s f entry

    pub inserts_out : Inserts 1 q s s'
    inserts_out = let c : insertions_of q s' ≡ insertions_of q s = count_out in record { grows = omega arith; bound = omega arith }

    -- the items behind it are left
    pub left_is : wait_list now q s' ≡ record { items = others; expiries = q.expiries }
    left_is =
        let items : List KeyedItem = (root_at q.root s).items in
        let keeps : KeyedItem → Bool = λ y. not (is_entry entry y) in
        let rest : walked now (filter keeps items) ≡ first.rest = walked-filter now keeps items ∙ ap (filter keeps) first.walk ∙ first.alone in
        ap (λ (u : KeyedRoots). wait_list now q u) out
        ∙ ap (λ (l : KeyedList). let w : WaitList = record { items = map wait_item (walked now l.items); expiries = q.expiries } in w) (at_root q.root (without_entry entry (root_at q.root s)) s f.exists)
        ∙ ap (λ (xs : List KeyedItem). let w : WaitList = record { items = map wait_item xs; expiries = q.expiries } in w) rest

    pub free_out : IsFree entry s'
    free_out = subst (λ x. IsFree x s') (sym entry_is) (free_task q s' fits_out (entry / 2) task_exists (subst (λ x. holds x (root_at q.root s') ≡ false) entry_is (ap (λ (u : KeyedRoots). holds entry (root_at q.root u)) out ∙ free_after_deletion q s f entry)))

    pub exists_out : entry < s'.entries
    exists_out = subst (λ x. x < s'.entries) (sym entry_is) (entry_exists q s' fits_out (entry / 2) task_exists)

    -- and in again, at the expiry of its task
    module _ (t : ℕ) (tick : t < 2 ^ 32) (armed : is_set t ≡ true) (s'' : KeyedRoots) (back : s'' ≡ inserted_into q.root entry t s') where
      pub back' : s'' ≡ inserted_into q.root (entry_of (entry / 2)) t s'
      back' = back ∙ ap (λ x. inserted_into q.root x t s') entry_is

      pub fits_back : Fits q s''
      fits_back = rw back' (fits_after_insertion q s' fits_out (entry / 2) t task_exists (set_positive t armed) tick)

      pub changes_back : ChangesRoot q.root s s''
      changes_back = changes_both q.root s s' s'' changes_out (rw back (changes_root q.root (with_entry t entry (root_at q.root s')) s'))

      pub inserts_back : Inserts 1 q s s''
      inserts_back =
          let c : insertions_of q s'' ≡ insertions_of q s + 1 = ap (insertions_of q) back ∙ insertions_after_insertion q s' fits_out entry t ∙ ap (λ k. k + 1) count_out in
          record { grows = omega arith; bound = omega arith }

      pub places_back : wait_list now q s'' ≡ record { items = placed now one.task t others; expiries = q.expiries }
      places_back =
          ap (λ (u : KeyedRoots). wait_list now q u) back'
          ∙ insertion_places q s' fits_out keyed_out now (entry / 2) t n tick
          ∙ ap (λ (l : WaitList). let m : WaitList = record { items = placed now (entry / 2) t l.items; expiries = q.expiries } in m) left_is
          ∙ ap (λ i. let m : WaitList = record { items = placed now i t others; expiries = q.expiries } in m) (sym task_is)

  -- once the first item is out and its key is expired
  module _ (k : ℕ) (e : key_of_entry entry (root_at q.root s).items ≡ Some k) (d : is_expired k now ≡ true) (s' : KeyedRoots) (out : s' ≡ deleted_from q.root entry s) where
    pub is_due_one : is_due now one ≡ true
    is_due_one = ap (λ j. is_expired j now) (sym (key_is k e)) ∙ d

    pub due_old : due now (wait_list now q s) ≡ one ∷ filter (is_due now) others
    due_old = ap (λ (w : WaitList). due now w) list_is ∙ rw is_due_one refl

    pub shorter : (w : WaitList) → due now w ≡ filter (is_due now) others → length (due now w) < length (due now (wait_list now q s))
    shorter w new =
        let a : length (due now w) ≡ length (filter (is_due now) others) = ap length new in
        let b : length (due now (wait_list now q s)) ≡ length (one ∷ filter (is_due now) others) = ap length due_old in
        omega arith

    -- its timer fires
    pub fires_first : (t : ℕ) → t ≡ get_or q.expiries (entry / 2) 0 → is_expired t now ≡ true → Fires (entry / 2) now (wait_list now q s) (wait_list now (unset (entry / 2) q) s')
    fires_first t is x =
        let w : WaitList = record { items = one ∷ others; expiries = q.expiries } in
        let goes : is_expired (get_or q.expiries one.task 0) now ≡ true = ap (λ i. is_expired (get_or q.expiries i 0) now) task_is ∙ ap (λ j. is_expired j now) (sym is) ∙ x in
        let p = step_fires now one others q.expiries is_due_one goes ordered in
        record {
          some = let b : length (due now (wait_list now q s)) ≡ length (one ∷ filter (is_due now) others) = ap length due_old in omega arith;
          fired = ap (λ (l : WaitList). first_fired now l) list_is ∙ p.0 ∙ ap (λ i. Some i) task_is;
          list =
              ap (λ (l : WaitList). let m : WaitList = record { items = l.items; expiries = set q.expiries (entry / 2) 0 } in m) (left_is s' out)
              ∙ ap (λ i. let m : WaitList = record { items = others; expiries = set q.expiries i 0 } in m) (sym task_is)
              ∙ sym p.1
              ∙ ap (λ (l : WaitList). swept_once now l) (sym list_is);
        }

    pub fits_fired : Fits (unset (entry / 2) q) s'
    fits_fired = fits_after_change q (unset (entry / 2) q) s' refl (length-set q.expiries (entry / 2) 0) (fits_out s' out)

    -- it is forgotten
    pub passes_forgotten : (t : ℕ) → t ≡ get_or q.expiries (entry / 2) 0 → is_set t ≡ false → Passes now (wait_list now q s) (wait_list now q s')
    passes_forgotten t is x =
        let never : is_set (get_or q.expiries one.task 0) ≡ false = ap (λ i. is_set (get_or q.expiries i 0)) task_is ∙ ap is_set (sym is) ∙ x in
        let p = step_forgets now one others q.expiries is_due_one never in
        record {
          fired = ap (λ (l : WaitList). first_fired now l) (left_is s' out) ∙ p.fired ∙ ap (λ (l : WaitList). first_fired now l) (sym list_is);
          list = ap (λ (l : WaitList). swept_once now l) (left_is s' out) ∙ p.list ∙ ap (λ (l : WaitList). swept_once now l) (sym list_is);
          fewer = shorter (wait_list now q s') (ap (λ (w : WaitList). due now w) (left_is s' out));
        }

    -- it goes back in
    module _ (t : ℕ) (is : t ≡ get_or q.expiries (entry / 2) 0) (tick : t < 2 ^ 32) (later : is_expired t now ≡ false) (armed : is_set t ≡ true) (s'' : KeyedRoots) (back : s'' ≡ inserted_into q.root entry t s') where
      pub passes_back : Passes now (wait_list now q s) (wait_list now q s'')
      passes_back =
          let own : t ≡ get_or q.expiries one.task 0 = is ∙ ap (λ i. get_or q.expiries i 0) (sym task_is) in
          let p = step_puts_back now one others q.expiries t own is_due_one later armed ordered in
          let now_is : wait_list now q s'' ≡ record { items = placed now one.task t others; expiries = q.expiries } = places_back s' out t tick armed s'' back in
          let due_new : due now (wait_list now q s'') ≡ filter (is_due now) others =
          ap (λ (w : WaitList). due now w) now_is
          ∙ filter-inserted_out (is_due now) (λ (z : WaitItem). int_le (distance z.key now) (distance t now)) (record { key = t; task = one.task }) others later in
          record {
            fired = ap (λ (l : WaitList). first_fired now l) now_is ∙ p.fired ∙ ap (λ (l : WaitList). first_fired now l) (sym list_is);
            list = ap (λ (l : WaitList). swept_once now l) now_is ∙ p.list ∙ ap (λ (l : WaitList). swept_once now l) (sym list_is);
            fewer = shorter (wait_list now q s'') due_new;
          }
