use Rattle.std.proofs.Common.{◌≡◌, sym, ap, ◌∙◌}
use Rattle.sched_base.specs.KeyedList.{root_at, first_entry}
use Rattle.queue_model.specs.Walk.{half_back, either_entry}
use Rattle.queue_model.proofs.Walk.{first_walked}
use Rattle.wait_queue.specs.Timers.{Timers}
use Rattle.wait_queue.proofs.wait_queue.WaitQueue.first_walked.Goals as goal

pub returns-in-Some : goal.returns-in-Some
returns-in-Some g c =
    let same : c.self.inside.root ≡ c.args.self.now.root = ap (λ (q : Timers). q.root) c.self.view_is in
    let items = (root_at c.args.self.now.root (g.K.KeyedLists.seen c.args.lists.now)).items in
    sym (first_walked (half_back c.args.now) items ∙ ap (λ o. either_entry o (first_entry items)) (sym (rw same at c.in-Some.ensures)))

pub returns-in-None : goal.returns-in-None
returns-in-None g c =
    let same : c.self.inside.root ≡ c.args.self.now.root = ap (λ (q : Timers). q.root) c.self.view_is in
    let items = (root_at c.args.self.now.root (g.K.KeyedLists.seen c.args.lists.now)).items in
    rw same at c.first.ensures ∙ sym (first_walked (half_back c.args.now) items ∙ ap (λ o. either_entry o (first_entry items)) (sym (rw same at c.in-None.ensures)))
