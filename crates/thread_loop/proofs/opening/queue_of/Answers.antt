use Rattle.std.proofs.Common.{ap, length, arith, ◌∙◌}
use Rattle.turn_steps.proofs.Fit.{sound_parts, within-parts}
use Rattle.thread_loop.proofs.Opened.{few_tasks}
use Rattle.thread_loop.proofs.Nices.{are_nices}
use Rattle.thread_loop.proofs.opening.queue_of.Goals as goal

pub overflow_cast-tasks : goal.overflow_cast-tasks
overflow_cast-tasks c = let few = few_tasks c.args.script.now c.tasks.ensures.sound in let same = ap length c.tasks.ensures.same in omega arith

pub overflow_mul-tasks : goal.overflow_mul-tasks
overflow_mul-tasks c = let few = few_tasks c.args.script.now c.tasks.ensures.sound in let same = ap length c.tasks.ensures.same in omega arith

pub new-requires : goal.new-requires
new-requires c = let few = few_tasks c.args.script.now c.tasks.ensures.sound in let same = ap length c.tasks.ensures.same in omega arith

pub new-requires-2-clause-few : goal.new-requires-2-clause-few
new-requires-2-clause-few c = let few = few_tasks c.args.script.now c.tasks.ensures.sound in let same = ap length c.tasks.ensures.same in omega arith

pub new-requires-2-clause-some : goal.new-requires-2-clause-some
new-requires-2-clause-some c = let depth = within-parts 1 1000 c.args.script.now.depth (sound_parts c.args.script.now c.depth.ensures.sound).depth in omega (arith, depth.0, c.depth.ensures.same)

pub new-requires-2-clause-shallow : goal.new-requires-2-clause-shallow
new-requires-2-clause-shallow c = let depth = within-parts 1 1000 c.args.script.now.depth (sound_parts c.args.script.now c.depth.ensures.sound).depth in omega (arith, depth.1, c.depth.ensures.same)

pub rank-requires-clause-nices : goal.rank-requires-clause-nices
rank-requires-clause-nices c = are_nices c.args.script.now c.deref.result.now c.tasks.ensures.sound (c.deref.ensures.value ∙ c.in_ok-nices.ensures.same)
