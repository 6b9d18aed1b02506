use Rattle.std.proofs.Common.{◌-◌, ◌≤◌, vec_len}
use Rattle.sched_base.specs.Streams.{Reads}
use Rattle.program_edges.proofs.reading.read_all.Given as goal

-- what was left at first is what was read, and then what is left now
abbrev pub invariant-loop-piece : goal.invariant-loop-piece
invariant-loop-piece g l =
    Reads (g.S.Source.left l.fn.src) (g.S.Source.left l.src) l.bytes.items
    × (g.S.Source.faults l.fn.src ≤ g.S.Source.faults l.src)
    × (vec_len l.bytes ≤ l.most)

abbrev pub decreases-loop-piece : goal.decreases-loop-piece
decreases-loop-piece g l = l.most - vec_len l.bytes
