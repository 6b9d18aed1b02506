use Rattle.std.proofs.Common.{◌≡◌, ℕ, ◌<◌, get_or}
use Rattle.std.specs.Mem.Slots.{slots_items}
use Rattle.wake_board.proofs.words.copy_row.Given as goal

-- the first words are read
abbrev pub invariant-loop-i : goal.invariant-loop-i
invariant-loop-i l = (k : ℕ) → k < l.i → get_or l.row k 0 ≡ get_or (slots_items l.closed.words) k 0
