use Rattle.std.proofs.Common.{arith}
use Rattle.run_replay.proofs.Watching.{few-over}
use Rattle.run_replay.proofs.watcher.Watcher.goes_on.Goals as goal

pub overflow_add-round : goal.overflow_add-round
overflow_add-round c = let few = few-over c.args.script.now c.args.round c.args.self.now c.requires in omega arith
