-- The union of two sets below 128 is below 128.
use Rattle.std.proofs.lemmas.Nat.{or_lt}
use Rattle.sched_base.proofs.reason_set.Reasons.union.Goals as goal

pub invariant_of-result : goal.invariant_of-result
invariant_of-result c = or_lt 7 _ _ c.self.invariant c.other.invariant
