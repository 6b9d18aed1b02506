-- What a run queue over lent keyed lists means, and when it fits them (docs/TIMERS.md, "Run queues").
use Rattle.std.specs.Prelude.{◌≡◌, ℕ, ◌+◌, ◌*◌, ◌/◌, ◌%◌, ◌^◌, ◌<◌, ◌≤◌, ℤ, pos, ◌+ℤ◌, ◌≤ℤ◌, false, List, [], ◌∷◌, Option, None, Some, map, length}
use Rattle.std.specs.List.{AllByRecursion}
use Rattle.sched_base.specs.KeyedList.{KeyedItem, KeyedRoots, root_at, holds}
use Rattle.queue_model.specs.Ticks.{distance}
use Rattle.queue_model.specs.RunList.{RunItem, RunList}
use Rattle.queue_model.specs.Walk.{walked}

-- a run queue: the root with its items, the depth, how many tasks were ever put in, and how many wait
pub record Runners : Type 0 where
  pub root : ℕ
  pub depth : ℕ
  pub count : ℕ
  pub waiting : ℕ

-- the entry of a task
abbrev pub entry_of : ℕ → ℕ
entry_of task = 2 * task + 1

-- the count as it is seen by keys that wrap
abbrev pub now_of : ℕ → ℕ
now_of count = count % 2 ^ 32

-- the whole number for which a stored key stands: the one nearest to the count
abbrev pub unwrapped : ℕ → ℕ → ℤ
unwrapped count key = pos count +ℤ distance key (now_of count)

-- an item of the root as one of the run list
abbrev pub run_item : ℕ → KeyedItem → RunItem
run_item count y = record { key = unwrapped count y.key; task = y.entry / 2 }

-- the items of the root in the order of their unwrapped keys
abbrev pub in_order : Runners → KeyedRoots → List KeyedItem
in_order q lists = walked (now_of q.count) (root_at q.root lists).items

-- the run list that a queue and the lists stand for
abbrev pub run_list : Runners → KeyedRoots → RunList
run_list q lists = record { count = q.count; items = map (run_item q.count) (in_order q lists) }

-- the task of the first item
abbrev pub first_task : List RunItem → Option ℕ
first_task [] = None
first_task (y ∷ ys) = Some y.task

-- an item of a task among the lists' entries
pub record IsRunner (entries : ℕ) (y : KeyedItem) : Type 0 where
  pub entry : y.entry ≡ entry_of (y.entry / 2)
  pub exists : y.entry < entries
  pub key : y.key < 2 ^ 32

-- no key lies more than 1024 times the depth ahead of the count; none lies further behind it than that and the number of items behind it
abbrev pub IsFresh : ℕ → ℕ → List KeyedItem → Type 0
IsFresh depth now [] = Unit {0}
IsFresh depth now (y ∷ ys) = (pos 0 ≤ℤ (distance y.key now +ℤ pos (1024 * depth + length ys))) × (distance y.key now ≤ℤ pos (1024 * depth)) × IsFresh depth now ys

-- the lists have the queue's root, which holds nothing but its fresh items, and no other root holds an entry of a task
pub record Fits (q : Runners) (lists : KeyedRoots) : Type 0 where
  pub exists : q.root < length lists.roots
  pub depth : q.depth ≤ 1000
  pub runners : AllByRecursion (IsRunner lists.entries) (root_at q.root lists).items
  pub fresh : IsFresh q.depth (now_of q.count) (in_order q lists)
  pub waiting : length (in_order q lists) ≡ q.waiting
  pub apart : (other task : ℕ) → other < length lists.roots → (other ≡ q.root → ⊥) → holds (entry_of task) (root_at other lists) ≡ false

-- lists that a new queue fits: its root is there and empty, and no other root holds an entry of a task
pub record IsReady (root : ℕ) (lists : KeyedRoots) : Type 0 where
  pub exists : root < length lists.roots
  pub empty : (root_at root lists).items ≡ []
  pub apart : (other task : ℕ) → other < length lists.roots → (other ≡ root → ⊥) → holds (entry_of task) (root_at other lists) ≡ false
