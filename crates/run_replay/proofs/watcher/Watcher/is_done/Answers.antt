use Rattle.std.proofs.Common.{arith, ap, length}
use Rattle.run_replay.proofs.Watching.{holds-within, done-or-not}
use Rattle.run_replay.proofs.watcher.Watcher.is_done.Goals as goal

pub next_call-requires-2-clause-held : goal.next_call-requires-2-clause-held
next_call-requires-2-clause-held c = holds-within c.args.script.now c.requires.0 c.requires.1 c.args.self.now c.requires.2

pub returns : goal.returns
returns c = λ g es h same.
    let items = ap length c.deref-worker-items.ensures.value in
    done-or-not c.args.script.now g es c.args.self.now c.args.round c.next_call-2.result c.is_none.result h same (λ k d lt. c.loop-worker.invariant.none k d (omega arith)) c.next_call-2.ensures c.is_none.ensures
