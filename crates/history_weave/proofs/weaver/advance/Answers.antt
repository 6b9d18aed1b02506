use Rattle.std.proofs.Common.{arith, ◌∙◌, below_more}
use Rattle.history_weave.proofs.Advances.{stuck-same}
use Rattle.history_weave.proofs.Weaves.{never_stuck}
use Rattle.history_weave.proofs.weaver.advance.Goals as goal

pub loop-k-preserved : goal.loop-k-preserved
loop-k-preserved c =
    let v = c.loop-k.invariant in
    let e = c.if-try_caller-2.ensures in
    record {
      index = e.index_kept ∙ v.index;
      machine = e.machine_kept ∙ v.machine;
      entries = e.entries_kept ∙ v.entries;
      stuck = below_more _ _ v.stuck (stuck-same c.args.logs.now c.loop-k.index c.args.index.now c.loop-k.machine c.args.machine.now c.loop-k.k v.index v.machine e.stuck);
    }

pub unreachable-requires : goal.unreachable-requires
unreachable-requires c =
    never_stuck c.args.machine.now c.args.logs.now c.args.index.now.next.items c.requires.goes_on.0 c.requires.goes_on.1 (λ k lt. c.loop-k.invariant.stuck k (omega arith))
