use Rattle.std.proofs.Common.{◌≡◌, ◌<◌, ℕ, true, length, arith, ap, subst, sym}
use Rattle.sched_base.specs.KeyedList.{KeyedRoots}
use Rattle.queue_model.specs.RunList.{is_listed}
use Rattle.run_queue.specs.Runners.{Runners, run_list}
use Rattle.shared_queue.specs.Sharing.{Sharing, shared_list}
use Rattle.shared_queue.specs.Dealing.{AreBoxed}
use Rattle.shared_queue.proofs.Deals.{first_once, listed_exists, boxed_after}
use Rattle.shared_queue.proofs.shared_queue.SharedQueue.deal_one.Goals as goal

pub deal-requires-clause-exists : goal.deal-requires-clause-exists
deal-requires-clause-exists g c =
    let q : Runners = c.self.inside.queue in
    let s : KeyedRoots = g.K.KeyedLists.seen c.self.inside.lists in
    let once = first_once q s c.in-Some.id.0 c.self.invariant.fits c.stay_keyed.ensures (sym c.in-Some.ensures.picked) in
    let below = once.0 in
    let count : length c.self.inside.ranks ≡ length c.args.self.now.ranks = ap (λ (x : Sharing). length x.ranks) c.self.view_is in
    let entries = c.self.invariant.entries in
    omega arith

pub bounds-homes-id : goal.bounds-homes-id
bounds-homes-id g c =
    let q : Runners = c.self.inside.queue in
    let s : KeyedRoots = g.K.KeyedLists.seen c.self.inside.lists in
    let once = first_once q s c.in-Some.id.0 c.self.invariant.fits c.stay_keyed.ensures (sym c.in-Some.ensures.picked) in
    let below = once.0 in
    let count : length c.self.inside.ranks ≡ length c.args.self.now.ranks = ap (λ (x : Sharing). length x.ranks) c.self.view_is in
    let entries = c.self.invariant.entries in
    omega arith

pub returns-clause-boxed : goal.returns-clause-boxed
returns-clause-boxed g c =
    let q : Runners = c.self.inside.queue in
    let s : KeyedRoots = g.K.KeyedLists.seen c.self.inside.lists in
    let i : ℕ = c.in-Some.id.0 in
    let once = first_once q s i c.self.invariant.fits c.stay_keyed.ensures (sym c.in-Some.ensures.picked) in
    let below = once.0 in
    let count : length c.self.inside.ranks ≡ length c.args.self.now.ranks = ap (λ (x : Sharing). length x.ranks) c.self.view_is in
    let entries = c.self.invariant.entries in
    let all : (j : ℕ) → is_listed j (run_list q s) ≡ true → j < c.args.words.now.tasks = λ j h. (let l = listed_exists q s j c.self.invariant.fits h in omega arith) in
    let boxed : AreBoxed (run_list q s) c.args.words.now = subst (λ (x : Sharing). AreBoxed (shared_list x) c.args.words.now) (sym c.self.view_is) c.requires.boxed in
    boxed_after (run_list q s) (run_list c.pick.new.self (g.K.KeyedLists.seen c.pick.new.lists)) c.args.words.now c.deal.new.self i c.args.worker c.in-Some.ensures.list c.deal.ensures (omega arith) all c.requires.worker once.1 boxed
