-- The lines from here on are done, the last one first.
use Rattle.std.proofs.Common.{◌≡◌, ◌≤◌, length, drop, reverse}
use Rattle.run_picture.specs.Stretches.{AreStretches, stretches_of}
use Rattle.run_picture.proofs.stretches.stretches_of.Given as goal

abbrev pub invariant-loop-place : goal.invariant-loop-place
invariant-loop-place l =
    AreStretches (drop l.place l.lines) l.lanes × (l.stretches.items ≡ reverse (stretches_of (drop l.place l.lines)))
