-- What a wait queue over lent keyed lists means, and when it fits them (docs/TIMERS.md, "Wait queues").
use Rattle.std.specs.Prelude.{◌≡◌, ℕ, ◌+◌, ◌*◌, ◌/◌, ◌^◌, ◌<◌, ◌≤◌, Bool, true, false, List, [], ◌∷◌, Option, None, Some, find, map, length}
use Rattle.std.specs.List.{AllByRecursion}
use Rattle.std.specs.Option.{option_map}
use Rattle.sched_base.specs.KeyedList.{KeyedItem, KeyedRoots, root_at, holds, IsFree}
use Rattle.queue_model.specs.WaitList.{WaitItem, WaitList, is_of}
use Rattle.queue_model.specs.Walk.{walked}

-- a wait queue: the root with its items, and for each task the tick at which it is due, 0 for unset
pub record Timers : Type 0 where
  pub root : ℕ
  pub expiries : List ℕ

-- the entry of a task
abbrev pub entry_of : ℕ → ℕ
entry_of task = 2 * task

-- the same root, and as many expiries
pub record IsSameQueue (q r : Timers) : Type 0 where
  pub root : r.root ≡ q.root
  pub tasks : length r.expiries ≡ length q.expiries

-- an item of the root as one of the wait list
abbrev pub wait_item : KeyedItem → WaitItem
wait_item y = record { key = y.key; task = y.entry / 2 }

-- the wait list that a queue and the lists stand for, as seen from now
abbrev pub wait_list : ℕ → Timers → KeyedRoots → WaitList
wait_list now q lists = record { items = map wait_item (walked now (root_at q.root lists).items); expiries = q.expiries }

-- an item of a task below this number, under a tick that is set
pub record IsTimer (tasks : ℕ) (y : KeyedItem) : Type 0 where
  pub entry : y.entry ≡ entry_of (y.entry / 2)
  pub task : y.entry / 2 < tasks
  pub set : 0 < y.key
  pub tick : y.key < 2 ^ 32

-- the lists have the queue's root and its entries, its root holds nothing but timers of its tasks, and no other root holds one
pub record Fits (q : Timers) (lists : KeyedRoots) : Type 0 where
  pub exists : q.root < length lists.roots
  pub room : 2 * length q.expiries ≤ lists.entries
  pub numbers : lists.entries ≤ 2 ^ 32
  pub timers : AllByRecursion (IsTimer (length q.expiries)) (root_at q.root lists).items
  pub apart : (other task : ℕ) → other < length lists.roots → (other ≡ q.root → ⊥) → task < length q.expiries → holds (entry_of task) (root_at other lists) ≡ false

-- lists that a new queue fits: its root is there and empty, and the entries of its tasks are there and free
pub record IsReady (root tasks : ℕ) (lists : KeyedRoots) : Type 0 where
  pub exists : root < length lists.roots
  pub empty : (root_at root lists).items ≡ []
  pub room : 2 * tasks ≤ lists.entries
  pub numbers : lists.entries ≤ 2 ^ 32
  pub free : (task : ℕ) → task < tasks → IsFree (entry_of task) lists

-- the key of the first item
abbrev pub first_key : List WaitItem → Option ℕ
first_key [] = None
first_key (y ∷ ys) = Some y.key

-- the key of a task's item
abbrev pub key_of_task : ℕ → List WaitItem → Option ℕ
key_of_task task items = option_map (λ y. y.key) (find (is_of task) items)

-- whether there is no item
abbrev pub is_none_left : List WaitItem → Bool
is_none_left [] = true
is_none_left (y ∷ ys) = false

-- how many insertions were made into the queue's root so far
abbrev pub insertions_of : Timers → KeyedRoots → ℕ
insertions_of q lists = (root_at q.root lists).insertions

-- at most n insertions were made into the queue's root
pub record Inserts (n : ℕ) (q : Timers) (old new : KeyedRoots) : Type 0 where
  pub grows : insertions_of q old ≤ insertions_of q new
  pub bound : insertions_of q new ≤ insertions_of q old + n
