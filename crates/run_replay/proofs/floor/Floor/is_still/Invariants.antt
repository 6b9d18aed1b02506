use Rattle.std.proofs.Common.{◌≡◌, ◌<◌, true, ℕ}
use Rattle.task_machine.specs.Step.{task_at}
use Rattle.run_model.specs.Standing.{is_still_at}
use Rattle.run_replay.proofs.floor.Floor.is_still.Given as goal

-- the tasks so far rest or are gone
abbrev pub invariant-loop-number : goal.invariant-loop-number
invariant-loop-number l = record { still : (k : ℕ) → k < l.number → is_still_at (task_at l.self.machine k).place ≡ true }
