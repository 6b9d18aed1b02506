-- What holds of all words and of all boards (docs/BOARD.md, "Laws").
use Rattle.std.specs.Prelude.{◌≡◌, ◌≢◌, ◌⊎◌, ℕ, ◌+◌, ◌-◌, ◌/◌, ◌%◌, ◌^◌, ◌<◌, ◌≤◌, Bool, true, List, length, replicate, slice_index, slice_set}
use Rattle.std.specs.Int.{bit_at}
use Rattle.atomic_table.specs.Table as table
use lib.ListN.{get_elem?}
use mathlib.Core.Option.{some}
use Rattle.task_machine.specs.declared.task.Place.{Place}
use Rattle.task_machine.specs.declared.task.Place.TheVariants as places
use Rattle.task_machine.specs.declared.task.Stand.{Stand}
use Rattle.task_machine.specs.declared.task.Seen.TheVariants as views
use Rattle.task_machine.specs.declared.calls.Entry.{Entry}
use Rattle.task_machine.specs.Task.{resting, put, seated}
use Rattle.task_machine.specs.declared.calls.Call.{Call}
use Rattle.task_machine.specs.declared.calls.Reply.{Reply}
use Rattle.task_machine.specs.Step.{State, task_at, put_task, bit}
use Rattle.task_machine.specs.Since.{is_take}
use Rattle.task_machine.specs.Event.{event_at}
use Rattle.task_machine.specs.Own.{Own, holding, drawing, running, own_at, own_next, own_of}
use Rattle.task_word.specs.Word.{seen_in}
use Rattle.wake_board.specs.declared.body.Body.{Body}
use Rattle.wake_board.specs.declared.views.Opening.{Opening}
use Rattle.wake_board.specs.declared.views.Out.{Out}
use Rattle.wake_board.specs.declared.views.View.{View}
use Rattle.wake_board.specs.Rows.{WordRow, width, box_at, task_word, box_word, blank_row, row_seated, row_dealt}
use Rattle.wake_board.specs.Start.{start_of, IsShared, no_holder}
use Rattle.wake_board.specs.Outs.{gained}
use Rattle.wake_board.specs.Between.{BodyFits, StandBetween}
use Rattle.wake_board.specs.Rule.{IsKept}
use Rattle.wake_board.specs.Seen.{Held, entry_by, Calls}
use Rattle.wake_board.specs.Own.{known_takes}
use Rattle.wake_board.specs.Ends.{own_by}

-- words and holders stand for one state at most
abbrev pub WordsStandForOneState : Type 0
WordsStandForOneState =
    (ws : WordRow) (homes holders : List ℕ) (nexts : List (List ℕ)) (m n : State) → StandBetween ws homes holders nexts m → StandBetween ws homes holders nexts n → m ≡ n

-- new words stand, with nobody as a holder, for the state in which all tasks rest
abbrev pub NewWordsStand : Type 0
NewWordsStand =
    (n w : ℕ) (homes : List ℕ) (nexts : List (List ℕ)) → w ≤ 64 → ((i : ℕ) → i < n → slice_index homes i ≤ w) → StandBetween (blank_row n w) homes (replicate n no_holder) nexts (record { workers = w; tasks = replicate n resting })

-- words and holders that stand for a state stand, after a task that was never taken was seated in its home, for the state
-- in which it is seated there; and such a task's word is 0
abbrev pub SeatedWordsStand : Type 0
SeatedWordsStand =
    (ws : WordRow) (homes holders : List ℕ) (nexts : List (List ℕ)) (m : State) (i b : ℕ) → length ws.row ≡ width ws.workers ws.tasks → StandBetween ws homes holders nexts m → i < ws.tasks → (task_at m i).place ≡ places.Rest → (task_at m i).takes ≡ 0 → slice_index homes i ≡ b → (task_word ws i ≡ 0) × StandBetween (row_seated ws i b) homes holders nexts (put_task m i (seated b (task_at m i)))

-- words and holders that stand for a state stand, after a task of the shared box was dealt to a worker, whose box is its
-- home from then on, for the state in which it is in that box; and such a task's bit in the shared box is set
abbrev pub DealtWordsStand : Type 0
DealtWordsStand =
    (ws : WordRow) (homes holders : List ℕ) (nexts : List (List ℕ)) (m : State) (i w : ℕ) → length ws.row ≡ width ws.workers ws.tasks → StandBetween ws homes holders nexts m → i < ws.tasks → w < ws.workers → (task_at m i).place ≡ places.Boxed ws.workers → (bit_at (box_word ws ws.workers (i / 64)) (i % 64) ≡ 1) × StandBetween (row_dealt ws i w) (slice_set homes i w) holders nexts (put_task m i (put (places.Boxed w) (task_at m i)))

-- what caller k has of task i, by the log of some seat
pub record HasBy (o : Opening) (seats : List View) (k i : ℕ) (has : Own) : Type 0 where
  pub seat : ℕ
  pub view : View
  pub place : ℕ
  pub log : List Entry
  pub at : get_elem? seats seat ≡ some view
  pub found : get_elem? view.logs place ≡ some log
  pub caller : view.first + place ≡ k
  pub own : own_of i (own_at k (task_at (start_of o).state i).place) log ≡ has

-- a pass or a box word has task i: it is in the hands of a pass, drawn by it or run by it, by the pass's own entries; or its
-- bit is set in a box
abbrev pub IsHadAt : Opening → table.State Body View → ℕ → Place → Type 0
IsHadAt o s i (places.Hands k) = HasBy o s.views k.0 i holding
IsHadAt o s i (places.Drawn k) = HasBy o s.views k.0 i drawing
IsHadAt o s i (places.Runs k) = HasBy o s.views k.0 i running
IsHadAt o s i (places.Boxed b) =
    (b ≤ (start_of o).state.workers) × (bit_at (slice_index s.words (box_at (length (start_of o).state.tasks) b (i / 64))) (i % 64) ≡ 1)
IsHadAt o s i places.Rest = ⊥
IsHadAt o s i places.Gone = ⊥

-- between any two steps a task with something to run for is in one pass's hands, drawn by one pass, run by one pass or in
-- one box, and no task is in two places
pub record TasksAreInOnePlace : Type 0 where
  pub somewhere : (o : Opening) (s : table.State Body View) (i : ℕ) (st : Stand) (n : ℕ) (b : Bool) (t : ℕ) → IsKept o s → i < length (start_of o).state.tasks → seen_in (slice_index s.words (i + 1)) ≡ views.Live st n b t → (n ≢ 0) ⊎ (b ≡ true) → (p : Place) × IsHadAt o s i p
  pub once : (o : Opening) (s : table.State Body View) (i : ℕ) (p q : Place) → IsKept o s → i < length (start_of o).state.tasks → IsHadAt o s i p → IsHadAt o s i q → p ≡ q

-- what a pass has of each task after a call is told by what it had, by the call and by the reply; and so are the takes that
-- it knows
pub record CallsTellOwn : Type 0 where
  pub own : (old new : Held) (c : Call) (r : Reply) (i : ℕ) → Calls old c r new → own_by new i ≡ own_next (own_by old i) (event_at i (entry_by old.who c r))
  pub takes : (old new : Held) (c : Call) (r : Reply) (i : ℕ) → Calls old c r new → known_takes new.start new.entries i ≡ known_takes old.start old.entries i + bit (is_take i c)

-- a shared task that is not gone has room to be taken once more
abbrev pub SharedTasksHaveRoom : Type 0
SharedTasksHaveRoom =
    (o : Opening) (s : table.State Body View) (i : ℕ) (st : Stand) (n : ℕ) (b : Bool) (t : ℕ) → IsKept o s → i < length (start_of o).state.tasks → IsShared (start_of o) i → seen_in (slice_index s.words (i + 1)) ≡ views.Live st n b t → t < 2 ^ 48 - 1

-- the body of task i is at home, with t takes and the row that comes after so many
abbrev pub IsHomeWith : Opening → table.State Body View → ℕ → ℕ → Type 0
IsHomeWith o s i t =
    (body : Body) × (get_elem? s.homes i ≡ some (some body)) × BodyFits (start_of o).nexts i body t

-- a body of task i is out with seat p
pub record IsOutAt (s : table.State Body View) (p i : ℕ) (x : Out) : Type 0 where
  pub view : View
  pub place : ℕ
  pub at : get_elem? s.views p ≡ some view
  pub found : get_elem? view.outs place ≡ some x
  pub task : x.task ≡ i

-- the body of task i is out with the seat of the caller that has drawn the task or runs it; the takes with which it went out
-- tell its takes t
pub record IsOutWithHolder (o : Opening) (s : table.State Body View) (i t : ℕ) : Type 0 where
  pub out : Out
  pub caller : ℕ
  pub has : Own
  pub holder : HasBy o s.views caller i has
  pub leads : (has ≡ drawing) ⊎ (has ≡ running)
  pub away : IsOutAt s holder.seat i out
  pub takes : t ≡ out.takes + gained has

-- between any two steps the body of a shared task that is not gone is at home, with the task's takes and the row that comes
-- after so many, or out with the pass that has drawn the task or runs it; and not in two places
pub record BodiesAreInOnePlace : Type 0 where
  pub somewhere : (o : Opening) (s : table.State Body View) (i : ℕ) (st : Stand) (n : ℕ) (b : Bool) (t : ℕ) → IsKept o s → i < length (start_of o).state.tasks → IsShared (start_of o) i → seen_in (slice_index s.words (i + 1)) ≡ views.Live st n b t → IsHomeWith o s i t ⊎ IsOutWithHolder o s i t
  pub once : (o : Opening) (s : table.State Body View) (i p q : ℕ) (x y : Out) → IsKept o s → IsOutAt s p i x → IsOutAt s q i y → (p ≡ q) × (x ≡ y)
  pub not_both : (o : Opening) (s : table.State Body View) (i t p : ℕ) (x : Out) → IsKept o s → IsHomeWith o s i t → ¬ IsOutAt s p i x
