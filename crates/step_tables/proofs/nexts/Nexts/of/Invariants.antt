use Rattle.std.proofs.Common.{◌≡◌, map, take}
use Rattle.step_tables.specs.Nexts.{next_rows}
use Rattle.step_tables.proofs.nexts.Nexts.of.Given as goal

abbrev pub invariant-loop-task : goal.invariant-loop-task
invariant-loop-task l = l.lists.items ≡ map next_rows (take l.task-index l.task-items)
