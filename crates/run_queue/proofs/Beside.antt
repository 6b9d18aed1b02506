-- The queue beside another one in the same lists.
use Rattle.std.proofs.Common.{◌≡◌, ℕ, ◌+◌, ◌*◌, ◌/◌, false, List, map, length, sym, ap, ◌∙◌, arith, inl, inr}
use Rattle.std.proofs.lemmas.Bool.{cases_Bool, cases_eq}
use Rattle.sched_base.specs.KeyedList.{KeyedItem, KeyedList, KeyedRoots, root_at, holds, ChangesRoot}
use Rattle.sched_base.proofs.Once.{in_all, item_of_held}
use Rattle.queue_model.specs.RunList.{RunList}
use Rattle.queue_model.specs.Walk.{walked}
use Rattle.run_queue.specs.Runners.{Runners, entry_of, now_of, run_item, run_list, in_order, IsRunner, Fits}

pub stays_beside : (q : Runners) (lists new : KeyedRoots) (other : ℕ) → Fits q lists → ChangesRoot other lists new → (other ≡ q.root → ⊥) → ((task : ℕ) → holds (entry_of task) (root_at other new) ≡ false) → Fits q new × (run_list q new ≡ run_list q lists)
stays_beside q lists new other f c ne none =
    let same : root_at q.root new ≡ root_at q.root lists = c.others q.root (λ e. ne (sym e)) in
    let long : length new.roots ≡ length lists.roots = c.roots in
    let entries : new.entries ≡ lists.entries = c.entries in
    let order : in_order q new ≡ in_order q lists = ap (λ (l : KeyedList). walked (now_of q.count) l.items) same in (
      record {
        exists = rw long f.exists;
        depth = f.depth;
        runners = rw (same, entries) f.runners;
        fresh = rw order f.fresh;
        waiting = rw order f.waiting;
        apart = λ r task within away. elim (cases_eq r other) [
          | inl e ↦ ap (λ k. holds (entry_of task) (root_at k new)) e ∙ none task
          | inr far ↦ ap (holds (entry_of task)) (c.others r far) ∙ f.apart r task (rw long at within) away
        ];
      },
      ap (λ (ys : List KeyedItem). let l : RunList = record { count = q.count; items = map (run_item q.count) ys } in l) order,
    )

pub own_entries : (q : Runners) (lists : KeyedRoots) (task : ℕ) → Fits q lists → holds (2 * task) (root_at q.root lists) ≡ false
own_entries q lists task f =
    elim (cases_Bool (holds (2 * task) (root_at q.root lists))) [
      | inl k ↦
          let w = item_of_held (2 * task) (root_at q.root lists).items k in
          let runner : IsRunner lists.entries w.0 = in_all (IsRunner lists.entries) w.0 (root_at q.root lists).items f.runners w.1 in
          let odd : w.0.entry ≡ 2 * (w.0.entry / 2) + 1 = runner.entry in
          let own : w.0.entry ≡ 2 * task = w.2 in
          absurd (omega arith)
      | inr k ↦ k
    ]
