use Rattle.std.proofs.Common.{◌∙◌, arith, w32, SFits, rules}
use Rattle.std.proofs.lemmas.Int.{to_z-of_z}
use Rattle.shared_queue.specs.Spans.{place_at}
use Rattle.shared_queue.proofs.Laying.{laid_none, laid_more, laid_length}
use Rattle.shared_queue.proofs.spans.lay.Goals as goal

pub loop-place-init : goal.loop-place-init
loop-place-init c = record {
  laid = laid_none c.args.order.now c.clear.new.self.items c.clear.ensures.items;
  few = omega (arith, c.clear.ensures.len);
  capacity = c.clear.ensures.capacity;
}

pub loop-place-preserved : goal.loop-place-preserved
loop-place-preserved c =
    let p = c.loop-place.place-index in
    let order = c.args.order.now in
    let old = c.loop-place.spans.items in
    let new = c.put.new.spans.items in
    let fits' : SFits w32 (place_at order p).0 = search rules in
    let said = simp to_z-of_z at c.put.ensures.put in
    record {
      laid = laid_more p order old new c.requires.sorted (omega arith) c.loop-place.invariant.laid said;
      few = omega (arith, c.loop-place.spans.ok, c.put.new.spans.ok, laid_length old new (place_at order p).0 (place_at order p).1 said);
      capacity = c.put.ensures.capacity ∙ c.loop-place.invariant.capacity;
    }
