use Rattle.std.proofs.Common.{arith}
use Rattle.task_machine.proofs.Takes.{TakesWithin-after}
use Rattle.merge_bench.proofs.Cutting.{history-on}
use Rattle.merge_bench.proofs.merges.lead.Goals as goal

pub loop-entry-preserved : goal.loop-entry-preserved
loop-entry-preserved c =
    let i = c.loop-entry.invariant in
    let step = c.in_default.ensures.step in
    record {
      history = history-on c.args.machine.now c.loop-entry.machine c.apply.new.self c.args.entries.now c.loop-entry.entry-index c.entry-item.result (omega arith) c.entry-item.is i.history step;
      taken = TakesWithin-after c.loop-entry.entry-index c.loop-entry.machine c.entry-item.result c.apply.new.self step i.taken;
    }
