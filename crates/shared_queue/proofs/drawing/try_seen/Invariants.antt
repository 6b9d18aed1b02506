use Rattle.std.proofs.Common.{ℕ, length}
use Rattle.std.specs.List.{sum_by}
use Rattle.wake_board.specs.Seen.{Held, IsPassOf}
use Rattle.shared_queue.specs.Looking.{Looked}
use Rattle.shared_queue.proofs.drawing.try_seen.Given as goal

-- what was tried is cleared in the words
abbrev pub invariant-tries : goal.invariant-tries
invariant-tries l = record {
  board : IsPassOf l.board l.pass;
  looked : (p : Held) → Looked (length l.ranking) (length l.initial.words) l.initial.words p l.initial.pass → Looked (length l.ranking) (length l.initial.words) l.words p l.pass;
}

abbrev pub decreases-tries : goal.decreases-tries
decreases-tries l = sum_by (λ (x : ℕ). x) l.words
