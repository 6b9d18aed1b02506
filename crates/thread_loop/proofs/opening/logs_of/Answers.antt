use Rattle.std.proofs.Common.{arith}
use Rattle.thread_loop.proofs.Opened.{few_workers}
use Rattle.thread_loop.proofs.opening.logs_of.Goals as goal

pub overflow_add-count : goal.overflow_add-count
overflow_add-count c = let few = few_workers c.args.script.now c.workers-count.ensures.sound in omega (arith, few.1, c.workers-count.ensures.same)
