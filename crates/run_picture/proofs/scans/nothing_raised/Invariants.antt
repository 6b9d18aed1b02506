-- So many, and none of them is anything.
use Rattle.std.proofs.Common.{◌≡◌, ℕ, ◌-◌, ◌≤◌, length, get_or, None}
use Rattle.run_picture.proofs.scans.nothing_raised.Given as goal

abbrev pub invariant-loop-raised : goal.invariant-loop-raised
invariant-loop-raised l =
    (length l.raised.items ≤ 4096) × ((i : ℕ) → get_or l.raised.items i None ≡ None)

abbrev pub decreases-loop-raised : goal.decreases-loop-raised
decreases-loop-raised l = 4096 - length l.raised.items
