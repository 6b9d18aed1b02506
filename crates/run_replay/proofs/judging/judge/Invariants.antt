use Rattle.std.proofs.Common.{take}
use Rattle.fronts.specs.Lines.{Track, begins}
use Rattle.run_replay.specs.Watching.{IsAt}
use Rattle.run_replay.proofs.Judged.{Leads}
use Rattle.run_replay.proofs.judging.judge.Given as goal

-- the lines so far lead to where the watcher is
abbrev pub invariant-loop-index : goal.invariant-loop-index
invariant-loop-index l = (t : Track) × IsAt l.script t l.watcher × Leads l.script begins (take l.index l.transcript) t
