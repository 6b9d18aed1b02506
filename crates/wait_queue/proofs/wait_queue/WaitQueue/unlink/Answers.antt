use Rattle.std.proofs.Common.{◌≡◌, refl, ◌*◌, not, sym, ap, subst, ◌∙◌}
use Rattle.std.proofs.lemmas.List.{length-set}
use Rattle.sched_base.specs.KeyedList.{KeyedRoots}
use Rattle.queue_model.specs.WaitList.{unlinked}
use Rattle.wait_queue.specs.Timers.{Timers, Fits, wait_list}
use Rattle.wait_queue.proofs.Meaning.{unset, absent_here, found_here, unlink_absent, unlink_present, fits_after_deletion, fits_after_change}
use Rattle.wait_queue.proofs.wait_queue.WaitQueue.unlink.Goals as goal

pub returns-then-is_none-clause-list : goal.returns-then-is_none-clause-list
returns-then-is_none-clause-list g c = λ now.
    let lists : KeyedRoots = g.K.KeyedLists.seen c.args.lists.now in
    let free = absent_here c.args.id.0 c.args.self.now lists c.requires.fits c.root_of.result (c.is_none.ensures ∙ ap not c.if-is_none.true) c.root_of.ensures.one in
    subst (λ (x : Timers). wait_list now (unset c.args.id.0 x) lists ≡ unlinked c.args.id.0 (wait_list now c.args.self.now lists)) (sym c.self.view_is) (unlink_absent now c.args.id.0 c.args.self.now lists c.requires.fits c.stay_keyed.ensures free)

pub returns-clause-list : goal.returns-clause-list
returns-clause-list g c = λ now.
    let lists : KeyedRoots = g.K.KeyedLists.seen c.args.lists.now in
    let after : KeyedRoots = g.K.KeyedLists.seen c.delete.new.self in
    let stands = found_here c.args.id.0 c.args.self.now lists c.requires.fits c.requires.exists c.root_of.result (c.is_none.ensures ∙ ap not c.if-is_none.false) c.root_of.ensures.found in
    subst (λ (x : Timers). wait_list now (unset c.args.id.0 x) after ≡ unlinked c.args.id.0 (wait_list now c.args.self.now lists)) (sym c.self.view_is) (unlink_present now c.args.id.0 c.args.self.now lists after c.requires.fits (c.delete.ensures c.args.self.now.root stands))

pub returns-clause-fits : goal.returns-clause-fits
returns-clause-fits g c =
    let lists : KeyedRoots = g.K.KeyedLists.seen c.args.lists.now in
    let after : KeyedRoots = g.K.KeyedLists.seen c.delete.new.self in
    let stands = found_here c.args.id.0 c.args.self.now lists c.requires.fits c.requires.exists c.root_of.result (c.is_none.ensures ∙ ap not c.if-is_none.false) c.root_of.ensures.found in
    let fits : Fits c.args.self.now after = rw (c.delete.ensures c.args.self.now.root stands) (fits_after_deletion c.args.self.now lists c.requires.fits (2 * c.args.id.0)) in
    subst (λ (x : Timers). Fits (unset c.args.id.0 x) after) (sym c.self.view_is) (fits_after_change c.args.self.now (unset c.args.id.0 c.args.self.now) after refl (length-set c.args.self.now.expiries c.args.id.0 0) fits)
