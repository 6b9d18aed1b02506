use Rattle.std.proofs.Common.{◌≡◌, ℕ, map, ap, subst}
use Rattle.sched_base.specs.KeyedList.{KeyedRoots, root_at}
use Rattle.queue_model.specs.Walk.{walked}
use Rattle.run_queue.specs.Runners.{Runners, now_of, run_item}
use Rattle.shared_queue.specs.Sharing.{Sharing, shared_list}
use Rattle.shared_queue.proofs.shared_queue.SharedQueue.lists.Goals as goal

pub returns-clause-list : goal.returns-clause-list
returns-clause-list g c =
    let q : Runners = c.self.inside.queue in
    let s : KeyedRoots = g.K.KeyedLists.seen c.self.inside.lists in
    subst (λ (x : Sharing). (shared_list x).items ≡ map (run_item (shared_list x).count) (walked (now_of (shared_list x).count) (root_at 0 s).items)) c.self.view_is (ap (λ (root : ℕ). map (run_item q.count) (walked (now_of q.count) (root_at root s).items)) c.self.invariant.root)
