use Rattle.std.proofs.Common.{◌≡◌, ℕ, ◌+◌, ◌<◌, [], length, get_or, Some, None}
use Rattle.wake_board.specs.Start.{start_of}
use Rattle.wake_board.specs.Ends.{fresh}
use Rattle.wake_board.proofs.Deals.{view_from}
use Rattle.wake_board.proofs.open.deal_passes.Given as goal

-- so many passes are dealt, and the seat has the logs of the callers that follow
abbrev pub invariant-loop-k : goal.invariant-loop-k
invariant-loop-k l =
    record {
      table : l.seat.table_id ≡ l.shared.table_id;
      seat : (n : ℕ) × (n + l.k ≡ l.callers) × (l.seat.me ≡ (view_from l.shared.key l.k n, []));
      count : length l.places.items ≡ l.k;
      each : (j : ℕ) → j < l.k → get_or l.places.items j None ≡ Some (fresh (record { board = l.shared.table_id; start = start_of l.shared.key }) j);
    }
