use Rattle.std.proofs.Common.{◌≡◌, ◌<◌, true, ℕ}
use Rattle.task_word.specs.Word.{seen_in}
use Rattle.wake_board.specs.Rows.{task_word}
use Rattle.thread_loop.specs.Plants.{is_still_seen}
use Rattle.thread_loop.proofs.plant.Plant.is_still.Given as goal

-- the tasks so far rest or are gone
abbrev pub invariant-loop-number : goal.invariant-loop-number
invariant-loop-number l = record { still : (k : ℕ) → k < l.number → is_still_seen (seen_in (task_word l.self.words k)) ≡ true }
