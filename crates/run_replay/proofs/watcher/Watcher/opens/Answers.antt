use Rattle.transcript.specs.declared.lines.Line.TheVariants as line
use Rattle.fronts.specs.Lines.{Track, May}
use Rattle.run_replay.specs.Watching.{CanOpen}
use Rattle.run_replay.proofs.Facts.{on-true}
use Rattle.run_replay.proofs.Watching.{opened-round}
use Rattle.run_replay.proofs.watcher.Watcher.opens.Goals as goal

pub returns : goal.returns
returns c = λ t at.
    let s = c.args.script.now in
    let can = on-true c.may_open.result (CanOpen s t c.args.number c.args.tick c.may_open.new.self) ((u : Track) → May s t (line.Round c.args.number c.args.tick) u → ⊥) c.if-not-may_open.false (c.may_open.ensures t at) in
    opened-round s t c.may_open.new.self c.open.new.self c.args.number c.args.tick can c.open.ensures.position c.open.ensures.within
