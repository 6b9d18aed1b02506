use Rattle.std.proofs.Common.{◌≡◌}
use Rattle.run_replay.specs.SharedBoxes.{tally, is_shared_at}
use Rattle.run_replay.proofs.floor.Floor.shared.Given as goal

-- so many of the tasks so far are in the shared box
abbrev pub invariant-loop-number : goal.invariant-loop-number
invariant-loop-number l = l.inside ≡ tally (is_shared_at l.script l.self.machine) l.number
