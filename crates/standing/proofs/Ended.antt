-- Settling at the end of a turn changes nothing of what a book lists, and no task of its timers.
use Rattle.std.proofs.Common.{◌≡◌, ℕ, ◌<◌, Bool, true, false, if◌then◌else◌, refl}
use Rattle.queue_model.proofs.ItemTasks.{TimersOf, settled-of}
use Rattle.queue_model.specs.Settle.{settled}
use Rattle.step_tables.specs.declared.tables.Script.{Script}
use Rattle.run_model.specs.Versions.{is_second}
use Rattle.run_model.specs.Book.{Book}
use Rattle.run_model.specs.Standing.{turn_ended}
use Rattle.turn_steps.specs.Times.{listed}
use Rattle.turn_steps.specs.Ranges.{TimersIn}

ended_if : (Q : ℕ → Type 0) (second : Bool) (T : ℕ) (b : Book) → TimersOf Q b.wait → TimersOf Q (if second then record b { wait = settled T b.wait } else b).wait
ended_if Q true T b h = settled-of Q T b.wait h
ended_if Q false T b h = h

pub ended-of : (Q : ℕ → Type 0) (s : Script) (T : ℕ) (b : Book) → TimersOf Q b.wait → TimersOf Q (turn_ended s T b).wait
ended-of Q s T b h = ended_if Q (is_second s) T b h

pub timers-ended : (s : Script) (T n : ℕ) (b : Book) → TimersIn n b → TimersIn n (turn_ended s T b)
timers-ended s T n b h = ended-of (λ i. i < n) s T b h

listed_if : (i : ℕ) (second : Bool) (T : ℕ) (b : Book) → listed i (if second then record b { wait = settled T b.wait } else b) ≡ listed i b
listed_if i true T b = refl
listed_if i false T b = refl

pub listed-ended : (s : Script) (T i : ℕ) (b : Book) → listed i (turn_ended s T b) ≡ listed i b
listed-ended s T i b = listed_if i (is_second s) T b
