-- Keyed lists in the order in which a walk comes to them that begins half the circle back (docs/TIMERS.md, "Walks").
use Rattle.std.specs.Prelude.{ℕ, ◌+◌, ◌-◌, ◌%◌, ◌^◌, ◌<◌, nat_le, nat_lt, List, [], ◌∷◌, ◌++◌, Option, None, Some, filter, ◌≤ℤ◌}
use Rattle.std.specs.List.{AllByRecursion}
use Rattle.sched_base.specs.KeyedList.{KeyedItem}
use Rattle.queue_model.specs.Ticks.{distance}

-- the tick half the circle before now
abbrev pub half_back : ℕ → ℕ
half_back now = (now + (2 ^ 32 - 2 ^ 31)) % 2 ^ 32

-- the items from this key on, and behind them those before it
abbrev pub turned : ℕ → List KeyedItem → List KeyedItem
turned start items = filter (λ y. nat_le start y.key) items ++ filter (λ y. nat_lt y.key start) items

-- the items in the order of a walk that begins half the circle before now
abbrev pub walked : ℕ → List KeyedItem → List KeyedItem
walked now items = turned (half_back now) items

-- the first of two entries that is there
abbrev pub either_entry : Option ℕ → Option ℕ → Option ℕ
either_entry (Some entry) other = Some entry
either_entry None other = other

-- all keys are numbers of 32 bits
abbrev pub HasTicks : List KeyedItem → Type 0
HasTicks items = AllByRecursion (λ y. y.key < 2 ^ 32) items

-- the distance from now never falls along these items
abbrev pub IsByDistance : ℕ → List KeyedItem → Type 0
IsByDistance now [] = Unit {0}
IsByDistance now (x ∷ xs) = AllByRecursion (λ y. distance x.key now ≤ℤ distance y.key now) xs × IsByDistance now xs
