-- What a try for a shared task tells (docs/SHARED.md, "Draws").
use Rattle.std.specs.Prelude.{◌≡◌, ℕ, ◌<◌, ℤ, ◌<ℤ◌, ◌⊎◌, List, [], ◌∷◌, length}
use mathlib.Core.Option.{some}
use lib.ListN.{get_elem?}
use Rattle.task_machine.specs.declared.calls.Call.TheVariants as calls
use Rattle.task_machine.specs.declared.calls.Reply.TheVariants as replies
use Rattle.wake_board.specs.Seen.{Held, Attests, AreAbsent, with_call, with_misses}
use Rattle.shared_queue.specs.Dealing.{nice_in}

-- a task is among these
abbrev pub IsAmong : List ℕ → ℕ → Type 0
IsAmong tasks i = (j : ℕ) × (get_elem? tasks j ≡ some i)

-- task i is tried before task j: by nice, and at the same nice by number
abbrev pub ComesBefore : List ℤ → ℕ → ℕ → Type 0
ComesBefore ranks i j = (nice_in ranks i <ℤ nice_in ranks j) ⊎ ((nice_in ranks i ≡ nice_in ranks j) × (i < j))

-- each of these tasks was once absent from the shared box: some legal history from the opening, in which the pass's own
-- calls are its entries, leaves it out
abbrev pub WereAbsent : Held → List ℕ → Type 0
WereAbsent p tasks = (i : ℕ) → IsAmong tasks i → AreAbsent p.start p.who p.entries (i ∷ [])

-- nothing was drawn: the pass has no more than new misses, and they name every task
pub record FindsNone (ranks : List ℤ) (old new : Held) : Type 0 where
  pub tasks : List ℕ
  pub noted : new ≡ with_misses old tasks
  pub absent : WereAbsent old tasks
  pub every : (i : ℕ) → i < length ranks → IsAmong tasks i

-- task i was drawn: the pass has no more than new misses and the draw; the task is no new miss, but each task is that
-- comes before it
pub record Draws (ranks : List ℤ) (old : Held) (i : ℕ) (new : Held) : Type 0 where
  pub tasks : List ℕ
  pub exists : i < length ranks
  pub gained : new ≡ with_call (with_misses old tasks) (calls.Draw (record { 0 = i })) replies.Done
  pub attested : Attests old.start old.who (calls.Draw (record { 0 = i })) replies.Done new.entries
  pub absent : WereAbsent old tasks
  pub seen : IsAmong tasks i → ⊥
  pub first : (j : ℕ) → j < length ranks → ComesBefore ranks j i → IsAmong tasks j
