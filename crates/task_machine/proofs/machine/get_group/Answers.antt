use Rattle.std.proofs.Common.{arith}
use Rattle.task_machine.proofs.Lists.{each-from_get}
use Rattle.task_machine.proofs.machine.get_group.Goals as goal

pub returns : goal.returns
returns c =
    each-from_get c.args.caller c.args.group c.args.tasks.now c.loop-i.tasks c.loop-i.i c.loop-i.auto.tasks c.loop-i.invariant.done c.loop-i.invariant.left (omega arith)
