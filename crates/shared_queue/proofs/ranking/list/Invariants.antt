use Rattle.std.proofs.Common.{◌≡◌, ℕ, ◌<◌}
use Rattle.shared_queue.specs.Dealing.{nice_in}
use Rattle.shared_queue.specs.Spans.{place_at}
use Rattle.shared_queue.proofs.ranking.list.Given as goal

-- the places before this one are filled
abbrev pub invariant-loop-number : goal.invariant-loop-number
invariant-loop-number l = (q : ℕ) → q < l.number → place_at l.order q ≡ (nice_in l.nices q, q)
