-- Where entries stand in logs (docs/WEAVE.md, "The index").
use Rattle.std.specs.Prelude.{ℕ, zero, suc, ◌+◌, ◌-◌, ◌*◌, ◌^◌, Bool, if◌then◌else◌, List, [], ◌∷◌, drop, length, sum_by, slice_index, slice_index_or}
use Rattle.task_machine.specs.declared.calls.Entry.{Entry}
use Rattle.task_machine.specs.Logged.{Logged}

-- a table of places: how many rows and columns it has, and its cells, row after row
pub record PlaceTable : Type 0 where
  pub rows : ℕ
  pub columns : ℕ
  pub cells : List ℕ

-- the place in row r and column c
unfoldable pub place_at : PlaceTable → ℕ → ℕ → ℕ
place_at t r c = slice_index t.cells (r * t.columns + c)

-- the place that stands where there is no such entry
abbrev pub none : ℕ
none = 2 ^ 64 - 1

-- the place of the first entry that passes, where places are counted from p on
abbrev pub first_place : (Entry → Bool) → ℕ → List Entry → ℕ
first_place f p [] = none
first_place f p (e ∷ es) = if f e then p else first_place f (suc p) es

-- the first place of the log, from p on, of an entry that passes
abbrev pub next_place : (Entry → Bool) → List Entry → ℕ → ℕ
next_place f log p = first_place f p (drop p log)

-- a log with no entries
abbrev pub no_log : Logged
no_log = record { entries = []; room = 0 }

-- log k; there are no entries where there is no such log
abbrev pub log_at : List Logged → ℕ → List Entry
log_at logs k = (slice_index_or logs k no_log).entries

-- the entry at place p of log k, or this one where there is none
abbrev pub entry_at : List Logged → ℕ → ℕ → Entry → Entry
entry_at logs k p d = slice_index_or (log_at logs k) p d

-- the entries that are left of log k, where those from place k of this list on are left
abbrev pub left_of : List Logged → List ℕ → ℕ → List Entry
left_of logs next k = drop (slice_index next k) (log_at logs k)

-- how many entries the logs have together
abbrev pub entry_count : List Logged → ℕ
entry_count logs = sum_by (λ log. length log.entries) logs

-- a sum over the m numbers from n on
abbrev pub sum_over : (ℕ → ℕ) → ℕ → ℕ → ℕ
sum_over f n zero = 0
sum_over f n (suc m) = f n + sum_over f (suc n) m
