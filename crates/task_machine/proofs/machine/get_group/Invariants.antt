use Rattle.std.proofs.Common.{◌≡◌, ℕ, ◌<◌, ◌≤◌, get_or}
use Rattle.task_machine.specs.declared.calls.Call.TheVariants as calls
use Rattle.task_machine.specs.Task.{resting}
use Rattle.task_machine.specs.Step.{moved}
use Rattle.task_machine.proofs.machine.get_group.Given as goal

-- the tasks so far are changed, and the others are as they were
abbrev pub invariant-loop-i : goal.invariant-loop-i
invariant-loop-i l =
    record {
      done : (k : ℕ) → k < l.i → get_or l.tasks k resting ≡ moved l.caller (calls.Get l.group) k (get_or l.fn.tasks k resting);
      left : (k : ℕ) → l.i ≤ k → get_or l.tasks k resting ≡ get_or l.fn.tasks k resting;
    }
