use Rattle.std.proofs.Common.{sym, arith}
use Rattle.thread_loop.proofs.Hands.{follows-more, follows-all}
use Rattle.thread_loop.proofs.holders.hold.Goals as goal

pub loop-entry-preserved : goal.loop-entry-preserved
loop-entry-preserved c = record {
  follows = follows-more c.args.who c.args.entries.now c.loop-entry.entry-index c.entry-item.result c.args.homes.now c.args.holders.now c.loop-entry.holders c.hold_one.new.holders (omega arith) (sym c.entry-item.is) c.hold_one.ensures c.loop-entry.invariant.follows;
}

pub returns-clause-own : goal.returns-clause-own
returns-clause-own c = follows-all c.args.who c.args.entries.now c.loop-entry.entry-index c.args.homes.now c.args.holders.now c.loop-entry.holders (omega arith) c.loop-entry.invariant.follows
