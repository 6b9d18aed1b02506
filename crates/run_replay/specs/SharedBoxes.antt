-- What is counted of the shared box in a round (docs/MODEL.md, "Replay").
use Rattle.std.specs.Prelude.{◌≡◌, ℕ, zero, suc, ◌+◌, ◌≤◌, ◌==◌, ◌&&◌, not, Bool, List, length, slice_index_or}
use Rattle.step_tables.specs.declared.tables.Script.{Script}
use Rattle.task_machine.specs.declared.calls.Entry.{Entry}
use Rattle.task_machine.specs.Task.{is_boxed}
use Rattle.task_machine.specs.Step.{State, task_at, bit}
use Rattle.run_model.specs.Standing.{was_drawn}
use Rattle.run_replay.specs.declared.shared_box.SharedBox.{SharedBox}

-- how many numbers below n pass a test
abbrev pub tally : (ℕ → Bool) → ℕ → ℕ
tally f zero = 0
tally f (suc n) = bit (f n) + tally f n

-- whether task i is in the shared box
abbrev pub is_shared_at : Script → State → ℕ → Bool
is_shared_at s state i = is_boxed s.workers (task_at state i).place

-- whether task i was in the shared box as the round was opened, and was not drawn since
abbrev pub waits : Script → State → List Entry → ℕ → Bool
waits s opened es i = is_shared_at s opened i && not (was_drawn i es)

-- after these entries of round r: how many tasks are in the box, and how many of them wait there since before the round; those
-- are the tasks in the box that were not posted in this round
pub record Counts (s : Script) (r : ℕ) (opened state : State) (es : List Entry) (b : SharedBox) : Type 0 where
  pub count : length b.posted.items ≡ length s.tasks
  pub inside : b.inside ≡ tally (is_shared_at s state) (length s.tasks)
  pub waiting : b.waiting ≡ tally (waits s opened es) (length s.tasks)
  pub early : (i : ℕ) → waits s opened es i ≡ is_shared_at s state i && not (slice_index_or b.posted.items i 0 == r + 1)
  pub past : (i : ℕ) → slice_index_or b.posted.items i 0 ≤ r + 1

-- between rounds, before round r
pub record CountsBetween (s : Script) (r : ℕ) (state : State) (b : SharedBox) : Type 0 where
  pub count : length b.posted.items ≡ length s.tasks
  pub inside : b.inside ≡ tally (is_shared_at s state) (length s.tasks)
  pub past : (i : ℕ) → slice_index_or b.posted.items i 0 ≤ r
