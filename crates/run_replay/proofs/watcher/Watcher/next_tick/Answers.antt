use Rattle.std.proofs.Common.{ap, ◌+◌, ◌%◌, ◌^◌, ◌∙◌}
use Rattle.thread_loop.proofs.NextTick.{next_jump, next_step}
use Rattle.run_replay.specs.Watching.{standing_of}
use Rattle.run_replay.proofs.watcher.Watcher.next_tick.Goals as goal

pub returns-in-Some : goal.returns-in-Some
returns-in-Some c = next_jump c.args.script.now c.args.round c.args.now c.in-Some.tick (standing_of c.args.self.now) c.in-Some.ensures

pub returns-in-None : goal.returns-in-None
returns-in-None c = ap (λ n. (c.args.now + n) % 2 ^ 32) c.step.ensures.same ∙ next_step c.args.script.now c.args.round c.args.now (standing_of c.args.self.now) c.in-None.ensures
