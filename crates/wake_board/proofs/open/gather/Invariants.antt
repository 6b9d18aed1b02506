use Rattle.std.proofs.Common.{◌≡◌, ℕ, ◌<◌, length, vec_len, get_or, None}
use Rattle.wake_board.specs.Gathered.{Gathers}
use Rattle.wake_board.proofs.open.gather.Given as goal

-- the last passes are taken in, and the first ones are left
abbrev pub invariant-loop-place : goal.invariant-loop-place
invariant-loop-place l =
    record {
      table : l.seat.table_id ≡ l.shared.table_id;
      left : (j : ℕ) → j < length l.places.items → get_or l.places.items j None ≡ get_or l.fn.places.items j None;
      fewer : length l.places.items < length l.fn.places.items;
      all : Gathers l.fn.places.items (length l.places.items) l.seat.me.0;
    }

abbrev pub decreases-loop-place : goal.decreases-loop-place
decreases-loop-place l = vec_len l.places
