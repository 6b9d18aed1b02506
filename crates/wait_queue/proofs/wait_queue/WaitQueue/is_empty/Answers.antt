use Rattle.std.proofs.Common.{◌≡◌, sym, ap, ◌∙◌}
use Rattle.std.specs.Option.{is_some}
use Rattle.wait_queue.specs.Timers.{Timers}
use Rattle.wait_queue.proofs.Meaning.{vacant}
use Rattle.wait_queue.proofs.wait_queue.WaitQueue.is_empty.Goals as goal

pub returns : goal.returns
returns g c = λ now.
    let same : c.self.inside.root ≡ c.args.self.now.root = ap (λ (q : Timers). q.root) c.self.view_is in
    vacant now _ c.is_none.result (sym (ap is_some (rw same at c.first.ensures)) ∙ c.is_none.ensures)
