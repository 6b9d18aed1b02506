-- the tasks so far are made, and the draws stand behind theirs
use Rattle.std.proofs.Common.{◌≡◌}
use Rattle.script_gen.specs.Generated.{tasks_from}
use Rattle.script_gen.proofs.Tasks.{state_after}
use Rattle.script_gen.proofs.generating.tasks.Given as goal

abbrev pub invariant-loop-number : goal.invariant-loop-number
invariant-loop-number l = (l.list.items ≡ tasks_from l.size 0 l.seed l.number) × (l.draws.state ≡ state_after l.seed l.number)
