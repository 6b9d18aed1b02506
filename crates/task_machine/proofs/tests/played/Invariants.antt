use Rattle.task_machine.proofs.Takes.{TakesWithin}
use Rattle.task_machine.proofs.tests.played.Given as goal

-- each entry takes a task once at most
abbrev pub invariant-loop-entry : goal.invariant-loop-entry
invariant-loop-entry l = TakesWithin l.entry-index l.machine
