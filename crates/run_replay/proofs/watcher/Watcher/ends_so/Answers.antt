use Rattle.std.proofs.Common.{arith}
use Rattle.run_replay.proofs.Watching.{few-over}
use Rattle.run_replay.proofs.watcher.Watcher.ends_so.Goals as goal

pub overflow_add-result : goal.overflow_add-result
overflow_add-result c = let few = few-over c.args.script.now c.args.round c.args.self.now c.requires in omega arith
