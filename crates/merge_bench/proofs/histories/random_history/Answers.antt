use Rattle.std.proofs.Common.{◌∙◌, arith}
use Rattle.merge_bench.proofs.histories.random_history.Goals as goal

pub loop-i-preserved : goal.loop-i-preserved
loop-i-preserved c =
    let i = c.loop-i.invariant in
    let e = c.play.ensures.entries in
    let r = c.play.ensures.room in
    let before = i.entries in
    let room = i.room in
    record {
      taken = c.play.ensures.taken c.loop-i._i i.taken;
      tasks = c.play.ensures.tasks ∙ i.tasks;
      entries = omega arith;
      room = omega arith;
    }
