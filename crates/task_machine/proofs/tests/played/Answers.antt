use Rattle.task_machine.proofs.Takes.{TakesWithin-after}
use Rattle.task_machine.proofs.tests.played.Goals as goal

pub loop-entry-preserved : goal.loop-entry-preserved
loop-entry-preserved c =
    TakesWithin-after c.loop-entry.entry-index c.loop-entry.machine c.entry-item.result c.apply.new.self c.in_default.ensures.step c.loop-entry.invariant
