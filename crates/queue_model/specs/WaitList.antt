-- The wait list of a worker: tasks in the order in which they are due (docs/MODEL.md, "Wait lists").
use Rattle.std.specs.Prelude.{ℕ, ◌==◌, pos, int_le, int_lt, Bool, not, List, Option, None, Some, filter, find, slice_index, slice_set, if◌then◌else◌}
use Rattle.sched_base.specs.KeyedList.{inserted}
use Rattle.queue_model.specs.Ticks.{distance, is_set}

-- one armed task, and the tick under which it stands
pub record WaitItem : Type 0 where
  pub key : ℕ
  pub task : ℕ

-- the items in order, and for each task the tick at which it is due, 0 for unset
pub record WaitList : Type 0 where
  pub items : List WaitItem
  pub expiries : List ℕ

-- the tick at which a task is due, 0 for unset
abbrev pub expiry_of : WaitList → ℕ → ℕ
expiry_of l i = slice_index l.expiries i

-- that tick changed; the items stay as they are
abbrev pub with_expiry : ℕ → ℕ → WaitList → WaitList
with_expiry i t l = record l { expiries = slice_set l.expiries i t }

-- whether an item is that of a task
abbrev pub is_of : ℕ → WaitItem → Bool
is_of i y = y.task == i

-- the items but for those of a task
abbrev pub without : ℕ → List WaitItem → List WaitItem
without i items = filter (λ y. not (is_of i y)) items

-- a task put in at a key, behind all items that are due no later as seen from now
abbrev pub placed : ℕ → ℕ → ℕ → List WaitItem → List WaitItem
placed now i key items = inserted (λ y. int_le (distance y.key now) (distance key now)) (record { key = key; task = i }) items

-- a task armed for tick t, given its item where it has one: put in, or moved where t is earlier than its key
abbrev pub armed_at : ℕ → ℕ → ℕ → Option WaitItem → List WaitItem → List WaitItem
armed_at now i t None items = placed now i t items
armed_at now i t (Some y) items = if int_lt (distance t y.key) (pos 0) then placed now i t (without i items) else items

-- a task armed for its expiry, if that is set
abbrev pub armed : ℕ → ℕ → WaitList → WaitList
armed now i l =
    let t = expiry_of l i in
    if is_set t then record l { items = armed_at now i t (find (is_of i) l.items) l.items } else l

-- a task dropped: it is not in the list, and its expiry is unset
abbrev pub unlinked : ℕ → WaitList → WaitList
unlinked i l = record (with_expiry i 0 l) { items = without i l.items }
