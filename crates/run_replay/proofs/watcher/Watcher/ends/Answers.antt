use Rattle.std.proofs.Common.{refl}
use Rattle.transcript.specs.declared.lines.Line.TheVariants as line
use Rattle.fronts.specs.Lines.{Track, ended, May}
use Rattle.run_replay.proofs.Facts.{on-true}
use Rattle.run_replay.proofs.Watching.{stands-ended}
use Rattle.run_replay.proofs.watcher.Watcher.ends.Goals as goal

pub returns : goal.returns
returns c = λ t at. (ended, on-true c.may_end.result (May c.args.script.now t (line.End c.args.rest c.args.last) ended) ((u : Track) → May c.args.script.now t (line.End c.args.rest c.args.last) u → ⊥) c.if-not-may_end.false (c.may_end.ensures t at), stands-ended c.args.script.now _ refl)
