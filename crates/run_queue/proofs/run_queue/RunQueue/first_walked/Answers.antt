use Rattle.std.proofs.Common.{◌≡◌, ℕ, sym, ap, ◌∙◌}
use Rattle.sched_base.specs.KeyedList.{root_at, first_entry}
use Rattle.queue_model.specs.Walk.{half_back, either_entry}
use Rattle.queue_model.proofs.Walk.{first_walked}
use Rattle.run_queue.specs.Runners.{Runners, now_of}
use Rattle.run_queue.proofs.run_queue.RunQueue.first_walked.Goals as goal

pub returns-in-Some : goal.returns-in-Some
returns-in-Some g c =
    let same : c.self.inside.root ≡ c.args.self.now.root = ap (λ (q : Runners). q.root) c.self.view_is in
    let same_low : c.low-start.result ≡ now_of c.args.self.now.count = c.low-start.ensures ∙ ap (λ (q : Runners). now_of q.count) c.self.view_is in
    let start : ℕ = half_back (now_of c.args.self.now.count) in
    let items = (root_at c.args.self.now.root (g.K.KeyedLists.seen c.args.lists.now)).items in
    sym (first_walked start items ∙ ap (λ o. either_entry o (first_entry items)) (sym (rw (same, same_low) at c.in-Some.ensures)))

pub returns-in-None : goal.returns-in-None
returns-in-None g c =
    let same : c.self.inside.root ≡ c.args.self.now.root = ap (λ (q : Runners). q.root) c.self.view_is in
    let same_low : c.low-start.result ≡ now_of c.args.self.now.count = c.low-start.ensures ∙ ap (λ (q : Runners). now_of q.count) c.self.view_is in
    let start : ℕ = half_back (now_of c.args.self.now.count) in
    let items = (root_at c.args.self.now.root (g.K.KeyedLists.seen c.args.lists.now)).items in
    rw same at c.first.ensures ∙ sym (first_walked start items ∙ ap (λ o. either_entry o (first_entry items)) (sym (rw (same, same_low) at c.in-None.ensures)))
