use Rattle.std.proofs.Common.{not, sym, ap, ◌∙◌}
use Rattle.wait_queue.proofs.Meaning.{key_absent, absent_here, found_here, key_in_list}
use Rattle.wait_queue.proofs.wait_queue.WaitQueue.key.Goals as goal

pub key_of-requires : goal.key_of-requires
key_of-requires g c = (c.args.self.now.root, found_here c.args.id.0 c.args.self.now _ c.requires.fits c.requires.exists c.root_of.result (c.is_none.ensures ∙ ap not c.if-is_none.false) c.root_of.ensures.found)

pub returns-then-is_none : goal.returns-then-is_none
returns-then-is_none g c = λ now. key_absent now c.args.id.0 c.args.self.now _ c.requires.fits c.stay_keyed.ensures (absent_here c.args.id.0 c.args.self.now _ c.requires.fits c.root_of.result (c.is_none.ensures ∙ ap not c.if-is_none.true) c.root_of.ensures.one)

pub returns : goal.returns
returns g c = λ now.
    let stands = found_here c.args.id.0 c.args.self.now _ c.requires.fits c.requires.exists c.root_of.result (c.is_none.ensures ∙ ap not c.if-is_none.false) c.root_of.ensures.found in
    sym (c.key_of.ensures c.args.self.now.root stands) ∙ sym (key_in_list now c.args.id.0 c.args.self.now _ c.requires.fits c.stay_keyed.ensures)
