-- The window of a worker's timers, seen from its tick (docs/MODEL.md, "Settled lists").
use Rattle.std.specs.Prelude.{◌≡◌, ◌≢◌, ℕ, ◌+◌, ◌-◌, ◌%◌, ◌^◌, ◌<◌, ◌≤◌, List, [], ◌∷◌, true, ◌⊎◌}
use Rattle.std.specs.List.{AllByRecursion}
use Rattle.queue_model.specs.Ticks.{is_set}
use Rattle.queue_model.specs.WaitList.{WaitItem, WaitList, expiry_of}

-- the distance of t from now, counted from half the circle before now on
abbrev pub off : ℕ → ℕ → ℕ
off t now = ((t + (2 ^ 32 - now)) % 2 ^ 32 + 2 ^ 31) % 2 ^ 32

-- a set tick from an offset on, and at most 2^30 + 1 ahead
abbrev pub IsWithin : ℕ → ℕ → ℕ → Type 0
IsWithin low now t = (t ≢ 0) × (t < 2 ^ 32) × (low ≤ off t now) × (off t now ≤ 2 ^ 31 + 2 ^ 30 + 1)

-- some item of task i has a key that comes no later than t
abbrev pub Covered : ℕ → ℕ → ℕ → List WaitItem → Type 0
Covered now i t [] = ⊥
Covered now i t (y ∷ ys) = ((y.task ≡ i) × (off y.key now ≤ off t now)) ⊎ Covered now i t ys

-- the items come by their keys, as seen from now
abbrev pub Sorted : ℕ → List WaitItem → Type 0
Sorted now [] = Unit {0}
Sorted now (y ∷ ys) = AllByRecursion (λ z. off y.key now ≤ off z.key now) ys × Sorted now ys

-- all keys are within and in order, and each expiry that is set has an item that comes no later
pub record Window (low now : ℕ) (l : WaitList) : Type 0 where
  pub keys : AllByRecursion (λ y. IsWithin low now y.key) l.items
  pub sorted : Sorted now l.items
  pub ends : (i : ℕ) → is_set (expiry_of l i) ≡ true → (expiry_of l i < 2 ^ 32) × (off (expiry_of l i) now ≤ 2 ^ 31 + 2 ^ 30 + 1) × Covered now i (expiry_of l i) l.items

-- before a sweep a tick lies at most 2^20 behind, after it ahead
abbrev pub behind : ℕ
behind = 2 ^ 31 - 2 ^ 20

abbrev pub ahead : ℕ
ahead = 2 ^ 31 + 1
