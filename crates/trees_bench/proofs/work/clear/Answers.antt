use Rattle.std.proofs.Common.{◌∙◌, arith, below_more}
use Rattle.sched_base.specs.KeyedList.{IsPlaced}
use Rattle.eb32_core.specs.Forest.{Grove, seen_of}
use Rattle.trees_bench.specs.Filled.{HasOneRoot}
use Rattle.trees_bench.proofs.Filling.{grows_then, grows_out, free_out, free_kept, placed_kept}
use Rattle.trees_bench.proofs.work.clear.Goals as goal

pub loop-entry-preserved : goal.loop-entry-preserved
loop-entry-preserved g c =
    let i = c.loop-entry.invariant in
    let f : Grove = c.loop-entry.forest in
    let one : HasOneRoot f = i.grows.roots ∙ c.requires.root in
    let placed : IsPlaced c.loop-entry.entry (seen_of f) = i.placed c.loop-entry.entry (omega arith) (omega (arith, i.end)) in
    record {
      grows = grows_then 0 0 _ f _ i.grows (grows_out f _ _ one placed c.delete.ensures.deletes);
      end = i.end;
      free = below_more _ _ (λ e h. free_kept f _ _ one placed c.delete.ensures.deletes e (i.free e h)) (free_out f _ _ one placed c.delete.ensures.deletes);
      placed = λ e low below. placed_kept f _ _ one placed c.delete.ensures.deletes e (λ k. omega arith) (i.placed e (omega arith) below);
    }
