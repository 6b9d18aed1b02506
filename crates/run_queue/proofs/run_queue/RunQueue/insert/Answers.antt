use Rattle.std.proofs.Common.{◌≡◌, ◌+◌, ◌<◌, ◌≤◌, ◌^◌, ℕ, pos, ◌*ℤ◌, length, arith, rules, w32, SFits, sym, ap, subst, ◌∙◌}
use Rattle.std.proofs.lemmas.Int.{to_z-of_z}
use Rattle.sched_base.specs.KeyedList.{KeyedRoots, inserted_into}
use Rattle.queue_model.specs.Ticks.{distance}
use Rattle.queue_model.specs.RunList.{arrived}
use Rattle.run_queue.specs.Runners.{Runners, run_list, in_order, entry_of, now_of, Fits}
use Rattle.run_queue.proofs.Keys.{IsClose, scaled}
use Rattle.run_queue.proofs.Meaning.{raised, free_task, few_waiting, arrives, fits_after}
use Rattle.run_queue.proofs.run_queue.RunQueue.insert.Goals as goal

pub insert-requires-clause-free : goal.insert-requires-clause-free
insert-requires-clause-free g c =
    let q : Runners = c.args.self.now in
    let lists : KeyedRoots = g.K.KeyedLists.seen c.args.lists.now in
    let i : ℕ = c.args.id.0 in
    free_task i q lists c.requires.fits c.requires.absent

pub overflow_add-self-2 : goal.overflow_add-self-2
overflow_add-self-2 g c =
    let q : Runners = c.args.self.now in
    let lists : KeyedRoots = g.K.KeyedLists.seen c.args.lists.now in
    let i : ℕ = c.args.id.0 in
    let key : ℕ = c.stored_key-key.result in
    let same_count : c.self.inside.count ≡ q.count = ap (λ (x : Runners). x.count) c.self.view_is in
    let same_depth : c.self.inside.depth ≡ q.depth = ap (λ (x : Runners). x.depth) c.self.view_is in
    let same_root' : c.self.inside.root ≡ q.root = ap (λ (x : Runners). x.root) c.self.view_is in
    let fits' : SFits w32 c.args.nice = search rules in
    let said = simp (to_z-of_z, same_count, same_depth) at c.stored_key-key.ensures in
    let at_nice : distance key (now_of (q.count + 1)) ≡ c.args.nice *ℤ pos q.depth = said in
    let close : IsClose q.depth (now_of (q.count + 1)) key = rw at_nice (scaled c.args.nice q.depth c.requires.not_low c.requires.not_high) in
    let tick : key < 2 ^ 32 = omega arith in
    let few : length (in_order q lists) ≤ 2 ^ 20 = few_waiting q lists c.requires.fits c.stay_keyed.ensures c.requires.few i key c.args.nice c.requires.exists c.requires.absent tick at_nice close in
    let wait : length (in_order q lists) ≡ q.waiting = c.requires.fits.waiting in
    let same_waiting : c.self.inside.waiting ≡ q.waiting = ap (λ (x : Runners). x.waiting) c.self.view_is in
    let below : c.self.inside.waiting + 1 < 2 ^ 32 = omega arith in
    search rules

pub returns-clause-list : goal.returns-clause-list
returns-clause-list g c =
    let q : Runners = c.args.self.now in
    let lists : KeyedRoots = g.K.KeyedLists.seen c.args.lists.now in
    let i : ℕ = c.args.id.0 in
    let key : ℕ = c.stored_key-key.result in
    let same_count : c.self.inside.count ≡ q.count = ap (λ (x : Runners). x.count) c.self.view_is in
    let same_depth : c.self.inside.depth ≡ q.depth = ap (λ (x : Runners). x.depth) c.self.view_is in
    let same_root' : c.self.inside.root ≡ q.root = ap (λ (x : Runners). x.root) c.self.view_is in
    let fits' : SFits w32 c.args.nice = search rules in
    let said = simp (to_z-of_z, same_count, same_depth) at c.stored_key-key.ensures in
    let at_nice : distance key (now_of (q.count + 1)) ≡ c.args.nice *ℤ pos q.depth = said in
    let close : IsClose q.depth (now_of (q.count + 1)) key = rw at_nice (scaled c.args.nice q.depth c.requires.not_low c.requires.not_high) in
    let tick : key < 2 ^ 32 = omega arith in
    let after' : KeyedRoots = g.K.KeyedLists.seen c.insert.new.self in
    let e : after' ≡ inserted_into q.root (entry_of i) key lists = rw same_root' at c.insert.ensures in
    let at_new = ap (λ (u : KeyedRoots). run_list (raised q) u) e ∙ arrives q lists c.requires.fits c.stay_keyed.ensures c.requires.few i key c.args.nice c.requires.exists c.requires.absent tick at_nice close in
    subst (λ (x : Runners). run_list (raised x) after' ≡ arrived q.depth i c.args.nice (run_list q lists)) (sym c.self.view_is) at_new

pub returns-clause-fits : goal.returns-clause-fits
returns-clause-fits g c =
    let q : Runners = c.args.self.now in
    let lists : KeyedRoots = g.K.KeyedLists.seen c.args.lists.now in
    let i : ℕ = c.args.id.0 in
    let key : ℕ = c.stored_key-key.result in
    let same_count : c.self.inside.count ≡ q.count = ap (λ (x : Runners). x.count) c.self.view_is in
    let same_depth : c.self.inside.depth ≡ q.depth = ap (λ (x : Runners). x.depth) c.self.view_is in
    let same_root' : c.self.inside.root ≡ q.root = ap (λ (x : Runners). x.root) c.self.view_is in
    let fits' : SFits w32 c.args.nice = search rules in
    let said = simp (to_z-of_z, same_count, same_depth) at c.stored_key-key.ensures in
    let at_nice : distance key (now_of (q.count + 1)) ≡ c.args.nice *ℤ pos q.depth = said in
    let close : IsClose q.depth (now_of (q.count + 1)) key = rw at_nice (scaled c.args.nice q.depth c.requires.not_low c.requires.not_high) in
    let tick : key < 2 ^ 32 = omega arith in
    let after' : KeyedRoots = g.K.KeyedLists.seen c.insert.new.self in
    let e : after' ≡ inserted_into q.root (entry_of i) key lists = rw same_root' at c.insert.ensures in
    let new : Fits (raised q) after' = rw e (fits_after q lists c.requires.fits c.stay_keyed.ensures c.requires.few i key c.args.nice c.requires.exists c.requires.absent tick at_nice close) in
    subst (λ (x : Runners). Fits (raised x) after') (sym c.self.view_is) new
