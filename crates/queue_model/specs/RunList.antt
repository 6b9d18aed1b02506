-- The run list of a worker, and the deal of shared tasks from one (docs/MODEL.md, "Run lists").
use Rattle.std.specs.Prelude.{ℕ, ◌+◌, ◌%◌, ◌==◌, ℤ, pos, ◌+ℤ◌, ◌*ℤ◌, int_le, Bool, not, List, map, take, drop, filter, fold}
use Rattle.std.specs.List.{list_any, enumerate_from}
use Rattle.sched_base.specs.KeyedList.{inserted}

-- one waiting task, and the key by which it is picked, the least one first
pub record RunItem : Type 0 where
  pub key : ℤ
  pub task : ℕ

-- the items in order, and how many tasks were ever put in
pub record RunList : Type 0 where
  pub count : ℕ
  pub items : List RunItem

-- a task that arrives: its key is the new count and depth times its nice; it stands behind all items of at most this key
abbrev pub arrived : ℕ → ℕ → ℤ → RunList → RunList
arrived depth i nice l =
    let key = pos (l.count + 1) +ℤ (nice *ℤ pos depth) in
    record { count = l.count + 1; items = inserted (λ y. int_le y.key key) (record { key = key; task = i }) l.items }

-- the n tasks that are picked first
abbrev pub least : ℕ → RunList → List ℕ
least n l = map (λ y. y.task) (take n l.items)

-- the list once they are picked
abbrev pub without_least : ℕ → RunList → RunList
without_least n l = record l { items = drop n l.items }

-- whether a task waits in the list
abbrev pub is_listed : ℕ → RunList → Bool
is_listed i l = list_any (λ y. y.task == i) l.items

-- the tasks that arrive one after another, those left out that wait in the list already
abbrev pub gathered : ℕ → (ℕ → ℤ) → List ℕ → RunList → RunList
gathered depth nice ids l = fold (λ l i. arrived depth i (nice i) l) l (filter (λ i. not (is_listed i l)) ids)

-- the deal of the n first tasks to workers in turn: pairs of a worker and a task
abbrev pub hands_out : ℕ → ℕ → RunList → List (ℕ × ℕ)
hands_out workers n l = map (λ p. (p.0 % workers, p.1)) (enumerate_from 0 (least n l))
