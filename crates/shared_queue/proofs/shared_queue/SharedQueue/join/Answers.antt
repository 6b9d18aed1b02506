use Rattle.std.proofs.Common.{◌≡◌, ℕ, false, subst, sym, ◌∙◌, w32, SFits, rules}
use Rattle.std.proofs.lemmas.Int.{to_z-of_z}
use Rattle.sched_base.specs.KeyedList.{KeyedRoots, StandsIn}
use Rattle.queue_model.specs.RunList.{is_listed}
use Rattle.run_queue.specs.Runners.{Runners, entry_of, run_list}
use Rattle.run_queue.proofs.Meaning.{free_from_none, not_listed}
use Rattle.shared_queue.specs.Sharing.{Sharing, shared_list}
use Rattle.shared_queue.proofs.Gathers.{joined, joined_same, joined_new, listed_there, some_there}
use Rattle.shared_queue.proofs.shared_queue.SharedQueue.join.Goals as goal

pub insert-requires-clause-absent : goal.insert-requires-clause-absent
insert-requires-clause-absent g c =
    let q : Runners = c.self.inside.queue in
    let s : KeyedRoots = g.K.KeyedLists.seen c.self.inside.lists in
    not_listed c.args.id.0 q s c.self.invariant.fits (free_from_none (entry_of c.args.id.0) s c.root_of.result (sym c.if-is_none.ensures) c.root_of.ensures.one)

pub returns-then-is_none-clause-list : goal.returns-then-is_none-clause-list
returns-then-is_none-clause-list g c =
    let q : Runners = c.self.inside.queue in
    let s : KeyedRoots = g.K.KeyedLists.seen c.self.inside.lists in
    let i : ℕ = c.args.id.0 in
    let apart : is_listed i (run_list q s) ≡ false = not_listed i q s c.self.invariant.fits (free_from_none (entry_of i) s c.root_of.result (sym c.if-is_none.ensures) c.root_of.ensures.one) in
    let new = run_list c.insert.new.self (g.K.KeyedLists.seen c.insert.new.lists) in
    let fits' : SFits w32 c.args.nice = search rules in
    let said = simp to_z-of_z at c.insert.ensures.list in
    subst (λ (x : Sharing). new ≡ joined x.queue.depth i c.args.nice (shared_list x)) c.self.view_is (said ∙ joined_new q.depth i c.args.nice (run_list q s) apart)

pub returns-else-is_none-clause-list : goal.returns-else-is_none-clause-list
returns-else-is_none-clause-list g c =
    let q : Runners = c.self.inside.queue in
    let s : KeyedRoots = g.K.KeyedLists.seen c.self.inside.lists in
    let i : ℕ = c.args.id.0 in
    let there = some_there (λ (root : ℕ). StandsIn root (entry_of i) s) c.root_of.result c.if-is_none.ensures c.root_of.ensures.found in
    subst (λ (x : Sharing). shared_list x ≡ joined x.queue.depth i c.args.nice (shared_list x)) c.self.view_is (joined_same q.depth i c.args.nice (run_list q s) (listed_there i there.0 q s c.self.invariant.fits there.1))
