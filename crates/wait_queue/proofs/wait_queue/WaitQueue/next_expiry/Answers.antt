use Rattle.std.proofs.Common.{List, map, sym, ap, ◌∙◌}
use Rattle.sched_base.specs.KeyedList.{KeyedItem}
use Rattle.queue_model.proofs.WalkItems.{none_is}
use Rattle.wait_queue.specs.Timers.{wait_item, first_key}
use Rattle.wait_queue.proofs.Meaning.{first_of}
use Rattle.wait_queue.proofs.wait_queue.WaitQueue.next_expiry.Goals as goal

pub key_of-requires : goal.key_of-requires
key_of-requires g c = let f = first_of c.args.now c.in-Some.entry c.args.self.now _ c.requires c.stay_keyed.ensures (sym c.in-Some.ensures) in (c.args.self.now.root, f.stands)

pub returns-in-Some : goal.returns-in-Some
returns-in-Some g c =
    let f = first_of c.args.now c.in-Some.entry c.args.self.now _ c.requires c.stay_keyed.ensures (sym c.in-Some.ensures) in
    sym (c.key_of.ensures c.args.self.now.root f.stands) ∙ f.key ∙ ap (λ (xs : List KeyedItem). first_key (map wait_item xs)) (sym f.walk)

pub returns-in-None : goal.returns-in-None
returns-in-None g c = ap (λ (xs : List KeyedItem). first_key (map wait_item xs)) (sym (none_is _ (sym c.in-None.ensures)))
