use Rattle.std.proofs.Common.{◌∙◌, arith, below_more}
use Rattle.eb32_core.specs.Forest.{Grove}
use Rattle.trees_bench.specs.Filled.{HasOneRoot}
use Rattle.trees_bench.proofs.Filling.{grows_then, grows_in, placed_in, placed_still, free_still}
use Rattle.trees_bench.proofs.work.fill.Goals as goal

pub loop-entry-preserved : goal.loop-entry-preserved
loop-entry-preserved g c =
    let i = c.loop-entry.invariant in
    let f : Grove = c.loop-entry.forest in
    let one : HasOneRoot f = i.grows.roots ∙ c.requires.root in
    record {
      grows = grows_then _ 1 _ f _ i.grows (grows_in f _ _ _ one c.insert.ensures.inserts);
      end = i.end;
      placed = below_more _ _ (λ e h. placed_still f _ _ _ one c.insert.ensures.inserts e (i.placed e h)) (placed_in f _ _ _ one c.insert.ensures.inserts);
      free = λ e low below. free_still f _ _ _ one c.insert.ensures.inserts e (λ k. omega arith) (i.free e (omega arith) below);
    }
