-- Laws of walks over keyed lists (docs/TIMERS.md, "Walks" and "The window"), of settled lists (docs/MODEL.md, "Settled lists")
-- and of sweeps in steps (docs/TIMERS.md, "Sweeps in steps").
use Rattle.std.specs.Prelude.{◌≡◌, ℕ, ◌^◌, ◌<◌, ◌≤◌, true, int_le, nat_le, List, [], ◌∷◌, None, Some}
use Rattle.sched_base.specs.KeyedList.{KeyedItem, inserted, IsRising, first_entry, entry_from}
use Rattle.queue_model.specs.Ticks.{distance, is_set}
use Rattle.queue_model.specs.WaitList.{WaitItem, WaitList, expiry_of}
use Rattle.queue_model.specs.Sweep.{due, fired, swept}
use Rattle.queue_model.specs.SweepStep.{DueFirst, TasksApart, first_fired, swept_once}
use Rattle.queue_model.specs.Settle.{settled, IsSettled}
use Rattle.queue_model.specs.Clock.{off, Window}
use Rattle.queue_model.specs.Walk.{turned, walked, either_entry, HasTicks, IsByDistance}
use Rattle.queue_model.specs.Window.{AreNear}

-- a walk that begins half the circle back comes to the items in the order of their distance from now
abbrev pub WalksGoByDistance : Type 0
WalksGoByDistance = (now : ℕ) (items : List KeyedItem) → now < 2 ^ 32 → HasTicks items → IsRising items → IsByDistance now (walked now items)

-- its first entry is the first one from its start on, or else the first of all
abbrev pub WalksBeginByLookUps : Type 0
WalksBeginByLookUps = (start : ℕ) (items : List KeyedItem) → first_entry (turned start items) ≡ either_entry (entry_from start items) (first_entry items)

-- an insertion by key is an insertion by distance in the walk
abbrev pub WalksTakeInsertions : Type 0
WalksTakeInsertions = (now : ℕ) (x : KeyedItem) (items : List KeyedItem) → now < 2 ^ 32 → x.key < 2 ^ 32 → HasTicks items → IsRising items → walked now (inserted (λ y. nat_le y.key x.key) x items) ≡ inserted (λ y. int_le (distance y.key now) (distance x.key now)) x (walked now items)

-- while all keys are near, it does not matter from which tick the walk is seen
abbrev pub WalksStay : Type 0
WalksStay = (now later : ℕ) (items : List KeyedItem) → now < 2 ^ 32 → later < 2 ^ 32 → HasTicks items → AreNear now items → AreNear later items → walked now items ≡ walked later items

-- a list settled ends with its first item at its expiry, and keeps the window; then no expiry that is set comes before the
-- first key, and where there is no item none is set
pub record SettledLists : Type 0 where
  pub settles : (now : ℕ) (l : WaitList) → IsSettled (settled now l)
  pub keeps : (low now : ℕ) (l : WaitList) → Window low now l → Window low now (settled now l)
  pub first : (low now : ℕ) (l : WaitList) (y : WaitItem) (ys : List WaitItem) → Window low now l → IsSettled l → l.items ≡ y ∷ ys → (expiry_of l y.task ≡ y.key) × ((i : ℕ) → is_set (expiry_of l i) ≡ true → off y.key now ≤ off (expiry_of l i) now)
  pub none : (low now : ℕ) (l : WaitList) → Window low now l → l.items ≡ [] → (i : ℕ) → is_set (expiry_of l i) ≡ true → ⊥

-- a step that fires none is the sweep; one that fires task i fires the first of those that the sweep fires, and the sweep of
-- the list that it leaves is the rest of the sweep
pub record SweepGoesOn (now : ℕ) (l : WaitList) : Type 0 where
  pub none : first_fired now l ≡ None → (fired now l ≡ []) × (swept now l ≡ swept_once now l)
  pub some : (i : ℕ) → first_fired now l ≡ Some i → (fired now l ≡ i ∷ fired now (swept_once now l)) × (swept now l ≡ swept now (swept_once now l))

abbrev pub SweepsGoOn : Type 0
SweepsGoOn = (now : ℕ) (l : WaitList) → DueFirst now l.items → TasksApart (due now l) → SweepGoesOn now l
