-- The earliest expiry of a settled list.
use Rattle.std.proofs.Common.{◌≡◌, ℕ, zero, suc, ◌^◌, ◌<◌, ◌≤◌, Bool, true, false, eqb, List, [], ◌∷◌, Option, None, Some, map, length, get_or, refl, sym, ap, subst, ◌∙◌, arith, inl, inr, eq-eqb, ◌≤ℤ◌, pos, ◌+ℤ◌}
use Rattle.std.specs.Prelude.{ℤ, MatchOption}
use Rattle.std.specs.List.{AllByRecursion, list_any}
use Rattle.std.proofs.lemmas.Int.{ints}
use Rattle.std.proofs.lemmas.Bool.{cases_Bool, false≢true, ne_eqb}
use Rattle.sched_base.specs.KeyedList.{KeyedItem, KeyedRoots, AreKeyed, root_at}
use Rattle.sched_base.proofs.Inserted.{all-inserted, all-weaker, all-both, all-map}
use Rattle.queue_model.specs.Ticks.{distance, is_set}
use Rattle.queue_model.specs.WaitList.{WaitItem, WaitList, placed}
use Rattle.queue_model.specs.Settle.{first_moved, settled_by, settled, IsSettled}
use Rattle.queue_model.specs.SweepStep.{TasksApart}
use Rattle.queue_model.specs.Clock.{off, Covered, Window}
use Rattle.queue_model.specs.Walk.{walked, IsByDistance}
use Rattle.queue_model.proofs.Settles.{off_is}
use Rattle.queue_model.proofs.Walk.{walked_by_distance, all-walked}
use Rattle.wait_queue.specs.Timers.{Timers, wait_item, wait_list, IsTimer, Fits, first_key}
use Rattle.wait_queue.specs.Earliest.{NoneEarly, IsEarliest, SettledQueuesTell, StayLate}
use Rattle.wait_queue.proofs.Meaning.{ticks_of}

abbrev list_of : List WaitItem → List ℕ → WaitList
list_of items es = record { items = items; expiries = es }

abbrev Late : ℕ → List ℕ → WaitItem → Type 0
Late now es y = is_set (get_or es y.task 0) ≡ true → distance y.key now ≤ℤ distance (get_or es y.task 0) now

le_trans : (a b c : ℤ) → a ≤ℤ b → b ≤ℤ c → a ≤ℤ c
le_trans a b c h g = omega (arith, ints)

le_same : (a b : ℤ) → a ≡ b → a ≤ℤ b
le_same a b h = omega (arith, ints)

-- ---- what a settled list tells

is_set-positive : (t : ℕ) → 0 < t → is_set t ≡ true
is_set-positive t h = rw (ne_eqb t 0 (λ e. omega arith)) refl

tells : (now : ℕ) (es : List ℕ) (ks : List KeyedItem) → IsByDistance now ks → AllByRecursion (λ (k : KeyedItem). 0 < k.key) ks → NoneEarly now (list_of (map wait_item ks) es) → IsSettled (list_of (map wait_item ks) es) → MatchOption (first_key (map wait_item ks)) (map wait_item ks ≡ []) (λ t. IsEarliest now t (list_of (map wait_item ks) es))
tells now es [] ordered set late stands = refl
tells now es (k ∷ ks) ordered set late stands =
    let y : WaitItem = wait_item k in
    let t : ℕ = get_or es y.task 0 in
    let e : t ≡ y.key = stands in
    let later : AllByRecursion (λ (z : WaitItem). distance y.key now ≤ℤ distance z.key now) (map wait_item ks) = all-map wait_item (λ (z : WaitItem). distance y.key now ≤ℤ distance z.key now) ks ordered.0 in
    record {
      set = is_set-positive k.key set.0;
      some = rw (eq-eqb t y.key e) refl;
      least = (
        λ is. le_same (distance y.key now) (distance t now) (ap (λ u. distance u now) (sym e)),
        all-weaker (λ (z : WaitItem). (distance y.key now ≤ℤ distance z.key now) × Late now es z) (λ (z : WaitItem). is_set (get_or es z.task 0) ≡ true → distance y.key now ≤ℤ distance (get_or es z.task 0) now) (map wait_item ks) (λ z h is. le_trans (distance y.key now) (distance z.key now) (distance (get_or es z.task 0) now) h.0 (h.1 is)) (all-both _ _ (map wait_item ks) later late.1),
      );
    }

pub queues_tell : SettledQueuesTell
queues_tell now q lists n keyed f late stands =
    let items : List KeyedItem = (root_at q.root lists).items in
    let set' : AllByRecursion (λ (y : KeyedItem). 0 < y.key) items = all-weaker (IsTimer (length q.expiries)) (λ (y : KeyedItem). 0 < y.key) items (λ y t. t.set) f.timers in
    tells now q.expiries (walked now items) (walked_by_distance now items n (ticks_of _ items f.timers) (keyed.keyed q.root f.exists).rising) (all-walked (λ (y : KeyedItem). 0 < y.key) now items set') late stands

-- ---- settling

late_moved : (now : ℕ) (es : List ℕ) (items : List WaitItem) (y : WaitItem) (ys : List WaitItem) → AllByRecursion (Late now es) ys → AllByRecursion (Late now es) (first_moved now (list_of items es) y ys)
late_moved now es items y ys h =
    elim (cases_Bool (is_set (get_or es y.task 0))) [
      | inl k ↦ rw k (all-inserted (Late now es) _ _ ys (λ is. le_same (distance (get_or es y.task 0) now) (distance (get_or es y.task 0) now) refl) h)
      | inr k ↦ rw k h
    ]

late_settled : (now n : ℕ) (items : List WaitItem) (es : List ℕ) → NoneEarly now (list_of items es) → NoneEarly now (settled_by now n (list_of items es))
late_settled now zero items es h = h
late_settled now (suc n) [] es h = h
late_settled now (suc n) (y ∷ ys) es h =
    elim (cases_Bool (eqb (get_or es y.task 0) y.key)) [
      | inl k ↦ rw k h
      | inr k ↦ rw k (late_settled now n (first_moved now (list_of (y ∷ ys) es) y ys) es (late_moved now es (y ∷ ys) y ys h.1))
    ]

-- ---- windows

off_before : (a b now : ℕ) → off a now ≤ off b now → distance a now ≤ℤ distance b now
off_before a b now h = offsets (distance a now) (distance b now) (off a now) (off b now) h (off_is a now) (off_is b now)
  where
    offsets : (x y : ℤ) (m n : ℕ) → m ≤ n → x +ℤ pos (2 ^ 31) ≡ pos m → y +ℤ pos (2 ^ 31) ≡ pos n → x ≤ℤ y
    offsets x y m n le ex ey = omega (arith, ints)

-- what covers a task is no item of another one
covered_apart : (now i t : ℕ) (ys : List WaitItem) → AllByRecursion (λ (z : WaitItem). eqb i z.task ≡ false) ys → Covered now i t ys → ⊥
covered_apart now i t [] h c = c
covered_apart now i t (y ∷ ys) h c =
    elim c [
      | inl w ↦ false≢true (sym h.0 ∙ eq-eqb i y.task (sym w.0))
      | inr w ↦ covered_apart now i t ys h.1 w
    ]

covers_itself : (now t : ℕ) (y : WaitItem) (ys : List WaitItem) → AllByRecursion (λ (z : WaitItem). eqb y.task z.task ≡ false) ys → Covered now y.task t (y ∷ ys) → off y.key now ≤ off t now
covers_itself now t y ys apart c = elim c [ inl w ↦ w.1 | inr w ↦ absurd (covered_apart now y.task t ys apart w) ]

-- an item of another task covers nothing of this one
covered_on : (now i t : ℕ) (y : WaitItem) (ys : List WaitItem) → eqb y.task i ≡ false → Covered now i t (y ∷ ys) → Covered now i t ys
covered_on now i t y ys ne c = elim c [ inl w ↦ absurd (false≢true (sym ne ∙ eq-eqb y.task i w.0)) | inr w ↦ w ]

late_window : (now : ℕ) (es : List ℕ) (ys : List WaitItem) → TasksApart ys → AllByRecursion (λ (y : WaitItem). is_set (get_or es y.task 0) ≡ true → Covered now y.task (get_or es y.task 0) ys) ys → AllByRecursion (Late now es) ys
late_window now es [] apart h = tt
late_window now es (y ∷ ys) apart h = (
  λ is. off_before y.key (get_or es y.task 0) now (covers_itself now (get_or es y.task 0) y ys apart.0 (h.0 is)),
  late_window now es ys apart.1 (all-weaker (λ (z : WaitItem). (eqb y.task z.task ≡ false) × (is_set (get_or es z.task 0) ≡ true → Covered now z.task (get_or es z.task 0) (y ∷ ys))) (λ (z : WaitItem). is_set (get_or es z.task 0) ≡ true → Covered now z.task (get_or es z.task 0) ys) ys (λ z w is. covered_on now z.task (get_or es z.task 0) y ys w.0 (w.1 is)) (all-both _ _ ys apart.0 h.1)),
)

always : (P : WaitItem → Type 0) (ys : List WaitItem) → ((y : WaitItem) → P y) → AllByRecursion P ys
always P [] h = tt
always P (y ∷ ys) h = (h y, always P ys h)

pub stay_late : StayLate
stay_late = record {
  settled = λ now l h. late_settled now (length l.items) l.items l.expiries h;
  window = λ low now l apart h. late_window now l.expiries l.items apart (always _ l.items (λ y is. (h.ends y.task is).2));
}
