-- The window of ticks in which the order of timers does not depend on now (docs/TIMERS.md, "The window").
use Rattle.std.specs.Prelude.{ℕ, ◌-◌, ◌+◌, ◌^◌, pos, negsuc, ◌≤ℤ◌, List}
use Rattle.std.specs.List.{AllByRecursion}
use Rattle.sched_base.specs.KeyedList.{KeyedItem}
use Rattle.queue_model.specs.Ticks.{distance}

-- a tick lies at most 2^20 behind now, and at most 2^30 + 1 ahead of it
abbrev pub IsNear : ℕ → ℕ → Type 0
IsNear now t = (negsuc (2 ^ 20 - 1) ≤ℤ distance t now) × (distance t now ≤ℤ pos (2 ^ 30 + 1))

-- all keys do
abbrev pub AreNear : ℕ → List KeyedItem → Type 0
AreNear now items = AllByRecursion (λ y. IsNear now y.key) items
