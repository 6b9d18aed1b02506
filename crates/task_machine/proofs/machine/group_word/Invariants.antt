use Rattle.std.proofs.Common.{◌-◌, ◌*◌}
use Rattle.task_machine.proofs.Words.{IsPart}
use Rattle.task_machine.proofs.machine.group_word.Given as goal

-- the word so far is that of the tasks so far
abbrev pub invariant-loop-i : goal.invariant-loop-i
invariant-loop-i l = IsPart l.tasks l.boxno (64 * l.group) l.word (l.i - 64 * l.group)
