-- The earliest expiry of the items of a wait list (docs/TIMERS.md, "Settling").
use Rattle.std.specs.Prelude.{◌≡◌, ℕ, ◌^◌, ◌<◌, ◌==◌, ◌≤ℤ◌, true, [], MatchOption}
use Rattle.std.specs.List.{AllByRecursion, list_any}
use Rattle.sched_base.specs.KeyedList.{KeyedRoots, AreKeyed}
use Rattle.queue_model.specs.Ticks.{distance, is_set}
use Rattle.queue_model.specs.WaitList.{WaitList, expiry_of}
use Rattle.queue_model.specs.Settle.{settled, IsSettled}
use Rattle.queue_model.specs.SweepStep.{TasksApart}
use Rattle.queue_model.specs.Clock.{Window}
use Rattle.wait_queue.specs.Timers.{Timers, wait_list, Fits, first_key}

-- no item has a set expiry that comes before its key, as seen from now
abbrev pub NoneEarly : ℕ → WaitList → Type 0
NoneEarly now l =
    AllByRecursion (λ y. is_set (expiry_of l y.task) ≡ true → distance y.key now ≤ℤ distance (expiry_of l y.task) now) l.items

-- t is a set expiry of an item, and no other one comes before it, as seen from now
pub record IsEarliest (now t : ℕ) (l : WaitList) : Type 0 where
  pub set : is_set t ≡ true
  pub some : list_any (λ y. expiry_of l y.task == t) l.items ≡ true
  pub least : AllByRecursion (λ y. is_set (expiry_of l y.task) ≡ true → distance t now ≤ℤ distance (expiry_of l y.task) now) l.items

-- the first key of a settled list in which no item has a set expiry before its key is the earliest expiry of all items; there
-- is none exactly where the list is empty
abbrev pub SettledQueuesTell : Type 0
SettledQueuesTell =
    (now : ℕ) (q : Timers) (lists : KeyedRoots) → now < 2 ^ 32 → AreKeyed lists → Fits q lists → NoneEarly now (wait_list now q lists) → IsSettled (wait_list now q lists) →
    MatchOption (first_key (wait_list now q lists).items) ((wait_list now q lists).items ≡ []) (λ t. IsEarliest now t (wait_list now q lists))

-- settling leaves it so, and it is so in each window, which arming, sweeps and settling keep
pub record StayLate : Type 0 where
  pub settled : (now : ℕ) (l : WaitList) → NoneEarly now l → NoneEarly now (settled now l)
  pub window : (low now : ℕ) (l : WaitList) → TasksApart l.items → Window low now l → NoneEarly now l
