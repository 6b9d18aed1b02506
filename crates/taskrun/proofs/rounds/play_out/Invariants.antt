use Rattle.std.proofs.Common.{◌≤◌}
use Rattle.taskrun.specs.Rounds.{Underway}
use Rattle.taskrun.proofs.rounds.play_out.Given as goal

-- the rounds so far are written, but for what is in the buffer, and the next one is made
abbrev pub invariant-loop-round : goal.invariant-loop-round
invariant-loop-round g l = record {
  under : Underway l.script (g.O.Sink.held l.fn.out) (g.O.Sink.held l.out) (g.C.Crew.told l.fn.crew) (g.C.Crew.told l.crew) l.text.items l.round l.course;
  counted : g.O.Sink.faults l.fn.out ≤ g.O.Sink.faults l.out;
}
