use Rattle.std.proofs.Common.{ap, arith, length}
use Rattle.thread_loop.proofs.Opened.{few_tasks, few_workers, home_below, opens_all}
use Rattle.thread_loop.proofs.opening.machine_of.Goals as goal

pub overflow_cast-tasks : goal.overflow_cast-tasks
overflow_cast-tasks c = let few = few_tasks c.args.script.now c.tasks-tasks.ensures.sound in let same = ap length c.tasks-tasks.ensures.same in omega arith

pub new-requires-clause-few_tasks : goal.new-requires-clause-few_tasks
new-requires-clause-few_tasks c = let few = few_tasks c.args.script.now c.tasks-tasks.ensures.sound in let same = ap length c.tasks-tasks.ensures.same in omega arith

pub new-requires-clause-some_workers : goal.new-requires-clause-some_workers
new-requires-clause-some_workers c = let few = few_workers c.args.script.now c.tasks-tasks.ensures.sound in omega (arith, few.0, c.workers.ensures.same)

pub new-requires-clause-few_workers : goal.new-requires-clause-few_workers
new-requires-clause-few_workers c = let few = few_workers c.args.script.now c.tasks-tasks.ensures.sound in omega (arith, few.1, c.workers.ensures.same)

pub seat_init-requires-clause-box_exists : goal.seat_init-requires-clause-box_exists
seat_init-requires-clause-box_exists c = let below = home_below c.args.script.now c.loop-number.number c.tasks-tasks.ensures.sound in omega (arith, c.home_of.ensures, c.loop-number.invariant.opens.workers)

pub returns-clause-opens : goal.returns-clause-opens
returns-clause-opens c = let same = ap length c.tasks-tasks.ensures.same in opens_all c.args.script.now c.loop-number.number c.loop-number.machine (omega arith) c.loop-number.invariant.opens
