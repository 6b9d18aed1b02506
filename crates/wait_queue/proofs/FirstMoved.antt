-- How the first item settles.
use Rattle.std.proofs.Common.{◌≡◌, ℕ, ◌/◌, ◌^◌, ◌<◌, true, false, Some, None, map, get_or, refl, sym, ap, subst, ◌∙◌}
use Rattle.sched_base.specs.KeyedList.{KeyedRoots, AreKeyed, root_at, inserted_into, deleted_from, first_entry, key_of_entry}
use Rattle.queue_model.specs.Ticks.{is_set}
use Rattle.queue_model.specs.WaitList.{WaitItem, WaitList, placed}
use Rattle.queue_model.specs.Settle.{moved_on}
use Rattle.queue_model.specs.Walk.{walked}
use Rattle.queue_model.proofs.WalkItems.{none_is}
use Rattle.wait_queue.specs.Looks.{Moved, IsLeft}
use Rattle.wait_queue.specs.Timers.{Timers, wait_item, wait_list, Fits}
use Rattle.wait_queue.proofs.Settling.{stands_there, goes_out, goes_on}
use Rattle.wait_queue.proofs.FirstItem.{one, others, list_is, task_is, key_is, left_is, places_back}

pub left_empty : (now : ℕ) (q : Timers) (s : KeyedRoots) → None ≡ first_entry (walked now (root_at q.root s).items) → IsLeft now (wait_list now q s)
left_empty now q s h =
    ap (λ xs. let w : WaitList = record { items = map wait_item xs; expiries = q.expiries } in moved_on now w w.items) (none_is (walked now (root_at q.root s).items) (sym h))

module _ (now entry : ℕ) (q : Timers) (s : KeyedRoots) (f : Fits q s) (keyed : AreKeyed s) (n : now < 2 ^ 32) (h : Some entry ≡ first_entry (walked now (root_at q.root s).items)) (k t : ℕ) (e : key_of_entry entry (root_at q.root s).items ≡ Some k) (is : t ≡ get_or q.expiries (entry / 2) 0) where
  abbrev y : WaitItem
  y = one now entry q s f keyed n h

  own : t ≡ get_or q.expiries y.task 0
  own = is ∙ ap (λ i. get_or q.expiries i 0) (sym (task_is now entry q s f keyed n h))

  key : k ≡ y.key
  key = key_is now entry q s f keyed n h k e

  pub left_there : k ≡ t → IsLeft now (wait_list now q s)
  left_there same =
      ap (λ (w : WaitList). moved_on now w w.items) (list_is now entry q s f keyed n h)
      ∙ stands_there now y (others now entry q s f keyed n h) q.expiries (sym own ∙ sym same ∙ key)

  apart : (k ≡ t → ⊥) → get_or q.expiries y.task 0 ≡ y.key → ⊥
  apart ne same = ne (key ∙ sym same ∙ sym own)

  pub moved_out : (k ≡ t → ⊥) → is_set t ≡ false → (s' : KeyedRoots) → s' ≡ deleted_from q.root entry s → Moved now (wait_list now q s) (wait_list now q s')
  moved_out ne unset s' out = record {
    items =
        ap (λ (w : WaitList). moved_on now w w.items) (list_is now entry q s f keyed n h)
        ∙ goes_out now y (others now entry q s f keyed n h) q.expiries (apart ne) (ap is_set (sym own) ∙ unset)
        ∙ ap (λ (w : WaitList). Some w.items) (sym (left_is now entry q s f keyed n h s' out));
    expiries = refl;
  }

  pub moved_back : (k ≡ t → ⊥) → (armed : is_set t ≡ true) → t < 2 ^ 32 → (s' s'' : KeyedRoots) → s' ≡ deleted_from q.root entry s → s'' ≡ inserted_into q.root entry t s' → Moved now (wait_list now q s) (wait_list now q s'')
  moved_back ne armed tick s' s'' out back = record {
    items =
        ap (λ (w : WaitList). moved_on now w w.items) (list_is now entry q s f keyed n h)
        ∙ goes_on now y (others now entry q s f keyed n h) q.expiries (apart ne) (ap is_set (sym own) ∙ armed)
        ∙ ap (λ u. Some (placed now y.task u (others now entry q s f keyed n h))) (sym own)
        ∙ ap (λ (w : WaitList). Some w.items) (sym (places_back now entry q s f keyed n h s' out t tick armed s'' back));
    expiries = refl;
  }
