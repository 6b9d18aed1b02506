-- Who has which task in its hands between rounds, by the entries of its caller (docs/MODEL.md, "A round on threads").
use Rattle.std.specs.Prelude.{◌≡◌, ◌≢◌, ℕ, ◌+◌, ◌*◌, ◌<◌, Bool, true, false, if◌then◌else◌, List, length, slice_index}
use Rattle.std.specs.Int.{bit_at}
use Rattle.task_machine.specs.declared.calls.Call.{Call}
use Rattle.task_machine.specs.declared.calls.Call.TheVariants as calls
use Rattle.task_machine.specs.declared.calls.Reply.{Reply}
use Rattle.task_machine.specs.declared.calls.Reply.TheVariants as replies
use Rattle.task_machine.specs.declared.calls.Entry.{Entry}
use Rattle.task_machine.specs.Own.{Own, away, holding, drawing, running, saw_busy, own_next}
use Rattle.task_machine.specs.Event.{apart, event_at}
use Rattle.wake_board.specs.Start.{no_holder}

-- the holder of a task of caller k by what the caller has of it
abbrev pub holder_by : ℕ → Own → ℕ
holder_by k away = no_holder
holder_by k holding = k
holder_by k drawing = no_holder
holder_by k running = no_holder

-- task i, where it is caller k's own, got this holder, and each other task kept its
pub record Gives (k i holder : ℕ) (homes old new : List ℕ) : Type 0 where
  pub given : i < length old → slice_index homes i ≡ k → slice_index new i ≡ holder
  pub others : (j : ℕ) → j ≢ i → slice_index new j ≡ slice_index old j
  pub foreign : slice_index homes i ≢ k → slice_index new i ≡ slice_index old i
  pub count : length new ≡ length old

-- after an entry of caller k each task of its own has the holder by what the caller has of it then
pub record Holds (k : ℕ) (e : Entry) (homes old new : List ℕ) : Type 0 where
  pub own : (i : ℕ) (o : Own) → i < length old → slice_index homes i ≡ k → slice_index old i ≡ holder_by k o → slice_index new i ≡ holder_by k (own_next o (event_at i e))
  pub others : (i : ℕ) → slice_index homes i ≢ k → slice_index new i ≡ slice_index old i
  pub count : length new ≡ length old

-- the entry leaves task i in its caller's hands, or does not, and is nothing for other tasks
pub record Moves (i : ℕ) (held : Bool) (e : Entry) : Type 0 where
  pub here : (k : ℕ) (o : Own) → holder_by k (own_next o (event_at i e)) ≡ (if held then k else no_holder)
  pub others : (j : ℕ) → j ≢ i → event_at j e ≡ apart

-- the entry leaves what its caller has in its hands as it is
abbrev pub Stays : Entry → Type 0
Stays e = (k i : ℕ) (o : Own) → holder_by k (own_next o (event_at i e)) ≡ holder_by k o

-- whether a reply tells what was seen of a task, and whether it was seen with something to run for
abbrev pub is_seen : Reply → Bool
is_seen (replies.Task x) = true
is_seen r = false

abbrev pub saw_work : Reply → Bool
saw_work (replies.Task x) = saw_busy x
saw_work r = false

-- the mask of a get's reply
abbrev pub mask_in : Reply → ℕ
mask_in (replies.Group n) = n
mask_in r = 0

-- a get
abbrev pub is_get : Call → Bool
is_get (calls.Get g) = true
is_get c = false

-- the tasks of a mask are held by caller k from bit n on, where they are its own
pub record Grouped (k g mask n : ℕ) (homes old new : List ℕ) : Type 0 where
  pub taken : (b : ℕ) → b < n → bit_at mask b ≡ 1 → 64 * g + b < length old → slice_index homes (64 * g + b) ≡ k → slice_index new (64 * g + b) ≡ k
  pub left : (b : ℕ) → b < n → bit_at mask b ≢ 1 → slice_index new (64 * g + b) ≡ slice_index old (64 * g + b)
  pub others : (i : ℕ) → ((b : ℕ) → b < n → i ≢ 64 * g + b) → slice_index new i ≡ slice_index old i
  pub foreign : (i : ℕ) → slice_index homes i ≢ k → slice_index new i ≡ slice_index old i
  pub count : length new ≡ length old
