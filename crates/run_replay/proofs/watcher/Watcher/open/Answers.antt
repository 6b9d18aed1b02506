use Rattle.std.proofs.Common.{refl}
use Rattle.run_replay.proofs.Rounds.{can-begin, within-begun}
use Rattle.run_replay.proofs.watcher.Watcher.open.Goals as goal

pub begin_turns-requires : goal.begin_turns-requires
begin_turns-requires c = can-begin c.args.script.now c.args.number c.args.tick c.args.self.now c.requires

pub returns-clause-within : goal.returns-clause-within
returns-clause-within c = within-begun c.args.script.now c.args.number c.args.tick c.args.self.now _ c.requires refl refl c.begin_turns.ensures.count c.begin_turns.ensures.begun (c.open.ensures c.args.script.now c.args.self.now.floor.machine c.requires.shared)
