use Rattle.std.proofs.Common.{length, ap, arith}
use Rattle.thread_loop.proofs.Fresh.{fresh}
use Rattle.thread_loop.proofs.Ranges.{in_range}
use Rattle.thread_loop.proofs.queues.Queues.new.Goals as goal

pub overflow_cast-tasks : goal.overflow_cast-tasks
overflow_cast-tasks c = let few = (in_range c.args.script.now c.tasks.ensures.sound).few_tasks in let same = ap length c.tasks.ensures.same in omega arith

pub overflow_mul-tasks : goal.overflow_mul-tasks
overflow_mul-tasks c = let few = (in_range c.args.script.now c.tasks.ensures.sound).few_tasks in let same = ap length c.tasks.ensures.same in omega arith

pub new-requires : goal.new-requires
new-requires c = let few = (in_range c.args.script.now c.tasks.ensures.sound).few_tasks in let same = ap length c.tasks.ensures.same in omega arith

pub new-requires-3-clause-some : goal.new-requires-3-clause-some
new-requires-3-clause-some c = let range = in_range c.args.script.now c.tasks.ensures.sound in omega (arith, range.some_depth, c.depth.ensures.same)

pub new-requires-3-clause-shallow : goal.new-requires-3-clause-shallow
new-requires-3-clause-shallow c = let range = in_range c.args.script.now c.tasks.ensures.sound in omega (arith, range.few_depth, c.depth.ensures.same)

pub returns-clause-fits : goal.returns-clause-fits
returns-clause-fits c =
    let few = (in_range c.args.script.now c.tasks.ensures.sound).few_tasks in
    let same = ap length c.tasks.ensures.same in
    fresh _ _ _ _ _ _ _ same (omega arith) c.depth.ensures.same c.stay_keyed.ensures c.in_ok-forest.ensures.empty c.in_ok-new.ensures.unset c.in_ok-new.ensures.fits c.new-3.ensures.queue c.new-3.ensures.fits c.in_ok-new-2.ensures
