-- The queue beside another one in the same lists.
use Rattle.std.proofs.Common.{◌≡◌, ℕ, ◌+◌, ◌*◌, ◌/◌, false, map, length, sym, ap, ◌∙◌, arith, inl, inr}
use Rattle.std.proofs.lemmas.Bool.{cases_Bool, cases_eq}
use Rattle.sched_base.specs.KeyedList.{KeyedList, KeyedRoots, root_at, holds, ChangesRoot}
use Rattle.sched_base.proofs.Once.{in_all, item_of_held}
use Rattle.queue_model.specs.WaitList.{WaitList}
use Rattle.queue_model.specs.Walk.{walked}
use Rattle.wait_queue.specs.Timers.{Timers, entry_of, wait_item, wait_list, IsTimer, Fits}

pub stays_beside : (q : Timers) (lists new : KeyedRoots) (other : ℕ) → Fits q lists → ChangesRoot other lists new → (other ≡ q.root → ⊥) → ((task : ℕ) → holds (entry_of task) (root_at other new) ≡ false) → Fits q new × ((now : ℕ) → wait_list now q new ≡ wait_list now q lists)
stays_beside q lists new other f c ne none =
    let same : root_at q.root new ≡ root_at q.root lists = c.others q.root (λ e. ne (sym e)) in
    let long : length new.roots ≡ length lists.roots = c.roots in
    let entries : new.entries ≡ lists.entries = c.entries in (
      record {
        exists = rw long f.exists;
        room = rw entries f.room;
        numbers = rw entries f.numbers;
        timers = rw same f.timers;
        apart = λ r task within away below. elim (cases_eq r other) [
          | inl e ↦ ap (λ k. holds (entry_of task) (root_at k new)) e ∙ none task
          | inr far ↦ ap (holds (entry_of task)) (c.others r far) ∙ f.apart r task (rw long at within) away below
        ];
      },
      λ now. ap (λ (l : KeyedList). let w : WaitList = record { items = map wait_item (walked now l.items); expiries = q.expiries } in w) same,
    )

pub own_entries : (q : Timers) (lists : KeyedRoots) (task : ℕ) → Fits q lists → holds (2 * task + 1) (root_at q.root lists) ≡ false
own_entries q lists task f =
    elim (cases_Bool (holds (2 * task + 1) (root_at q.root lists))) [
      | inl k ↦
          let w = item_of_held (2 * task + 1) (root_at q.root lists).items k in
          let timer : IsTimer (length q.expiries) w.0 = in_all (IsTimer (length q.expiries)) w.0 (root_at q.root lists).items f.timers w.1 in
          let even : w.0.entry ≡ 2 * (w.0.entry / 2) = timer.entry in
          let own : w.0.entry ≡ 2 * task + 1 = w.2 in
          absurd (omega arith)
      | inr k ↦ k
    ]
