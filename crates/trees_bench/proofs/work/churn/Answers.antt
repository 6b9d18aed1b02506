use Rattle.std.proofs.Common.{◌<◌, ◌∙◌, arith, length, subst}
use Rattle.eb32_core.specs.Forest.{Grove}
use Rattle.trees_bench.specs.Filled.{HasOneRoot, Grows}
use Rattle.trees_bench.proofs.Filling.{grows_then, grows_out, free_out, grows_moved, all_moved}
use Rattle.trees_bench.proofs.work.churn.Goals as goal

pub insert-requires-clause-root_exists : goal.insert-requires-clause-root_exists
insert-requires-clause-root_exists g c =
    let one : HasOneRoot c.loop.forest = c.loop.invariant.grows.roots ∙ c.requires.root in
    let out : Grows 0 c.loop.forest c.delete.new.self = grows_out c.loop.forest _ _ one c.trees_stand_in_roots.ensures c.delete.ensures.deletes in
    omega (arith, one, out.roots, c.roots_are_counted.ensures)

pub insert-requires-clause-entry_exists : goal.insert-requires-clause-entry_exists
insert-requires-clause-entry_exists g c =
    let one : HasOneRoot c.loop.forest = c.loop.invariant.grows.roots ∙ c.requires.root in
    let out : Grows 0 c.loop.forest c.delete.new.self = grows_out c.loop.forest _ _ one c.trees_stand_in_roots.ensures c.delete.ensures.deletes in
    let below : c.in-Some.entry < length c.loop.forest.parts.elements = subst (λ a. c.in-Some.entry < length a.elements) c.arena-in-loop.ensures.same c.in-Some.ensures.0 in
    omega (arith, out.entries)

pub insert-requires-clause-free : goal.insert-requires-clause-free
insert-requires-clause-free g c =
    free_out c.loop.forest _ _ (c.loop.invariant.grows.roots ∙ c.requires.root) c.trees_stand_in_roots.ensures c.delete.ensures.deletes

pub insert-requires-clause-room : goal.insert-requires-clause-room
insert-requires-clause-room g c =
    let i = c.loop.invariant in
    let out : Grows 0 c.loop.forest c.delete.new.self = grows_out c.loop.forest _ _ (i.grows.roots ∙ c.requires.root) c.trees_stand_in_roots.ensures c.delete.ensures.deletes in
    omega (arith, i.grows.insertions, out.insertions, i.end, c.requires.room)

pub loop-preserved : goal.loop-preserved
loop-preserved g c =
    let i = c.loop.invariant in
    let f : Grove = c.loop.forest in
    let one : HasOneRoot f = i.grows.roots ∙ c.requires.root in
    record {
      grows = grows_then _ 1 _ f _ i.grows (grows_moved f _ _ _ _ one c.trees_stand_in_roots.ensures c.delete.ensures.deletes c.insert.ensures.inserts);
      end = i.end;
      placed = all_moved f _ _ _ _ one c.trees_stand_in_roots.ensures c.delete.ensures.deletes c.insert.ensures.inserts i.placed;
    }
