use Rattle.std.proofs.Common.{arith, ap, length}
use Rattle.step_tables.specs.declared.tables.TaskDef.{TaskDef}
use Rattle.std.proofs.Common.{List}
use Rattle.thread_loop.proofs.Scripts.{few_tasks, few_groups}
use Rattle.thread_loop.proofs.lookups.groups.Goals as goal

pub overflow_cast-tasks : goal.overflow_cast-tasks
overflow_cast-tasks c =
    let few = few_tasks c.args.script.now c.tasks.ensures.sound in
    let same = ap (λ (ts : List TaskDef). length ts) c.tasks.ensures.same in
    omega arith

pub returns-clause-few : goal.returns-clause-few
returns-clause-few c =
    let few = few_groups c.args.script.now c.tasks.ensures.sound in
    let same = c.div_ceil.ensures in
    rw (c.div_ceil.ensures, c.tasks.ensures.same) few
