use Rattle.std.proofs.Common.{refl}
use Rattle.run_replay.proofs.Opened.{begins-first}
use Rattle.run_replay.proofs.watcher.Watcher.new.Goals as goal

pub returns : goal.returns
returns c = begins-first c.args.script.now _ c.new.ensures.sound refl c.in_ok-floor.ensures.machine c.in_ok-floor.ensures.rows c.in_ok-workers.ensures.count c.in_ok-workers.ensures.books c.in_ok-workers.ensures.idle c.new-3.ensures (c.in_ok-shared.ensures c.in_ok-floor.floor.machine c.shared-inside.ensures)
