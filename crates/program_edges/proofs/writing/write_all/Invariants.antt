use Rattle.std.proofs.Common.{length, take, ◌-◌, ◌≤◌}
use Rattle.sched_base.specs.Streams.{Appends}
use Rattle.program_edges.proofs.writing.write_all.Given as goal

-- what was held at first, and then the text up to `at`, is held now
abbrev pub invariant-loop-at : goal.invariant-loop-at
invariant-loop-at g l =
    Appends (g.O.Sink.held l.fn.out) (g.O.Sink.held l.out) (take l.at l.text)
    × (g.O.Sink.faults l.fn.out ≤ g.O.Sink.faults l.out)
    × (l.at ≤ length l.text)

abbrev pub decreases-loop-at : goal.decreases-loop-at
decreases-loop-at g l = length l.text - l.at
