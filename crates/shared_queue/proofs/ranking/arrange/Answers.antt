use Rattle.std.proofs.Common.{arith}
use Rattle.shared_queue.proofs.Ranked.{ranked_spans}
use Rattle.shared_queue.proofs.ranking.arrange.Goals as goal

pub returns-clause-spans : goal.returns-clause-spans
returns-clause-spans c =
    ranked_spans c.args.nices.now c.list.new.order c.sort_unstable.new.self c.lay.new.spans.items (omega arith) c.list.ensures.places c.sort_unstable.ensures.permutation c.lay.ensures.laid
