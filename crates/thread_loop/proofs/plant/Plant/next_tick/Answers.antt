use Rattle.std.proofs.Common.{ap, ◌+◌, ◌%◌, ◌^◌, ◌∙◌}
use Rattle.thread_loop.specs.Plants.{standing_of}
use Rattle.thread_loop.proofs.NextTick.{next_jump, next_step}
use Rattle.thread_loop.proofs.plant.Plant.next_tick.Goals as goal

pub returns-in-Some : goal.returns-in-Some
returns-in-Some c = λ r e. next_jump c.args.script.now r c.args.self.now.tick c.in-Some.tick (standing_of c.args.self.now) (c.in-Some.ensures r e)

pub returns-in-None : goal.returns-in-None
returns-in-None c = λ r e. ap (λ n. (c.args.self.now.tick + n) % 2 ^ 32) c.step.ensures.same ∙ next_step c.args.script.now r c.args.self.now.tick (standing_of c.args.self.now) (c.in-None.ensures r e)
