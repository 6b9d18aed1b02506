use Rattle.std.proofs.Common.{◌≡◌, ℕ, ◌<◌}
use Rattle.shared_queue.specs.Looking.{seen_bit}
use Rattle.shared_queue.specs.Spans.{IsOf, span_at}
use Rattle.shared_queue.proofs.spans.first_set.Given as goal

-- no task of the spans before this one is set
abbrev pub invariant-loop-span : goal.invariant-loop-span
invariant-loop-span l = (k i : ℕ) → k < l.span-index → IsOf (span_at l.spans k) i → seen_bit l.words i ≡ 1 → ⊥
