-- The whole sweep of a queue, and its wait list from another tick.
use Rattle.std.proofs.Common.{◌≡◌, ℕ, ◌/◌, ◌^◌, ◌<◌, true, false, not, eqb, List, [], ◌∷◌, ◌++◌, length, map, sym, ap, subst, ◌∙◌}
use Rattle.std.specs.List.{list_any, AllByRecursion}
use Rattle.std.proofs.lemmas.Bool.{not-true}
use Rattle.sched_base.specs.KeyedList.{KeyedItem, KeyedRoots, AreKeyed, root_at, IsOnce, is_entry}
use Rattle.sched_base.proofs.Inserted.{filter-passes, all-weaker}
use Rattle.queue_model.specs.WaitList.{WaitItem, WaitList}
use Rattle.queue_model.specs.Sweep.{due, fired, swept}
use Rattle.queue_model.specs.SweepStep.{is_due, not_due, DueFirst, TasksApart, SweepsBy}
use Rattle.queue_model.specs.Walk.{walked}
use Rattle.queue_model.specs.Window.{AreNear}
use Rattle.queue_model.proofs.Walk.{walked_by_distance, all-walked}
use Rattle.queue_model.proofs.WalkItems.{once_walked}
use Rattle.queue_model.proofs.WholeSweep.{apart-filter, list_of, steps_sweep, swept_is}
use Rattle.queue_model.proofs.Window.{walks_stay}
use Rattle.wait_queue.specs.Timers.{Timers, entry_of, wait_item, wait_list, IsTimer, Fits}
use Rattle.wait_queue.proofs.Meaning.{due_first, ticks_of, tasks_differ}

pub items_differ : (i : ℕ) (xs : List KeyedItem) → AllByRecursion (λ (m : ℕ). eqb i m ≡ false) (map (λ (y : KeyedItem). y.entry / 2) xs) → AllByRecursion (λ (z : WaitItem). eqb i z.task ≡ false) (map wait_item xs)
items_differ i [] h = tt
items_differ i (x ∷ xs) h = (h.0, items_differ i xs h.1)

pub tasks_apart : (tasks : ℕ) (xs : List KeyedItem) → AllByRecursion (IsTimer tasks) xs → IsOnce xs → TasksApart (map wait_item xs)
tasks_apart tasks [] all once = tt
tasks_apart tasks (x ∷ xs) all once =
    let even : x.entry ≡ entry_of (x.entry / 2) = all.0.entry in
    (items_differ (x.entry / 2) xs (tasks_differ tasks (x.entry / 2) xs all.1 (subst (λ e. list_any (is_entry e) xs ≡ false) even once.0)), tasks_apart tasks xs all.1 once.1)

pub ordered_list : (now : ℕ) (q : Timers) (lists : KeyedRoots) → now < 2 ^ 32 → AreKeyed lists → Fits q lists → DueFirst now (wait_list now q lists).items
ordered_list now q lists n keyed f =
    let items : List KeyedItem = (root_at q.root lists).items in
    let set' : AllByRecursion (λ (y : KeyedItem). 0 < y.key) items = all-weaker (IsTimer (length q.expiries)) (λ (y : KeyedItem). 0 < y.key) items (λ y t. t.set) f.timers in
    due_first now (walked now items) (walked_by_distance now items n (ticks_of _ items f.timers) (keyed.keyed q.root f.exists).rising) (all-walked (λ (y : KeyedItem). 0 < y.key) now items set')

pub whole_sweep : (now : ℕ) (q : Timers) (lists : KeyedRoots) (ids : List ℕ) (new : WaitList) → now < 2 ^ 32 → AreKeyed lists → Fits q lists → SweepsBy now (wait_list now q lists) ids new → (ids ≡ fired now (wait_list now q lists)) × (new ≡ swept now (wait_list now q lists))
whole_sweep now q lists ids new n keyed f h =
    let w : WaitList = wait_list now q lists in
    let tasks : ℕ = length q.expiries in
    let items : List KeyedItem = walked now (root_at q.root lists).items in
    let apart : TasksApart w.items = tasks_apart tasks items (all-walked (IsTimer tasks) now (root_at q.root lists).items f.timers) (once_walked now (root_at q.root lists).items (keyed.keyed q.root f.exists).once) in
    let parts : SweepsBy now (list_of (due now w ++ not_due now w.items) q.expiries) ids new = subst (λ (ys : List WaitItem). SweepsBy now (list_of ys q.expiries) ids new) (sym (ordered_list now q lists n keyed f)) h in
    let later : AllByRecursion (λ (y : WaitItem). is_due now y ≡ false) (not_due now w.items) = all-weaker (λ (y : WaitItem). not (is_due now y) ≡ true) (λ (y : WaitItem). is_due now y ≡ false) (not_due now w.items) (λ y k. not-true _ k) (filter-passes (λ (y : WaitItem). not (is_due now y)) w.items) in
    let r = steps_sweep now q.expiries (due now w) (not_due now w.items) ids new (filter-passes (is_due now) w.items) later (apart-filter (is_due now) w.items apart) parts in
    (r.0, r.1 ∙ sym (swept_is now w))

pub lists_stay : (now later : ℕ) (q : Timers) (lists : KeyedRoots) → now < 2 ^ 32 → later < 2 ^ 32 → Fits q lists → AreNear now (root_at q.root lists).items → AreNear later (root_at q.root lists).items → wait_list now q lists ≡ wait_list later q lists
lists_stay now later q lists n m f near near' =
    ap (λ (xs : List KeyedItem). let w : WaitList = record { items = map wait_item xs; expiries = q.expiries } in w) (walks_stay now later (root_at q.root lists).items n m (ticks_of _ _ f.timers) near near')
