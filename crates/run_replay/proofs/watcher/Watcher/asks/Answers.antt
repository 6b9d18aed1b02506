use Rattle.run_replay.proofs.Watching.{holds-within}
use Rattle.run_replay.proofs.watcher.Watcher.asks.Goals as goal

pub asks_for-requires-2-clause-held : goal.asks_for-requires-2-clause-held
asks_for-requires-2-clause-held c = holds-within c.args.script.now c.requires.0 c.requires.1 c.args.self.now c.requires.2
