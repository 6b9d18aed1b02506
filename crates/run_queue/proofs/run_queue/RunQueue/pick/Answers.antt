use Rattle.std.proofs.Common.{◌≡◌, ℕ, sym, ap, subst}
use Rattle.sched_base.specs.KeyedList.{KeyedList, KeyedRoots, deleted_from}
use Rattle.queue_model.specs.RunList.{without_least}
use Rattle.run_queue.specs.Runners.{Runners, run_list, Fits}
use Rattle.run_queue.proofs.Meaning.{lowered, stands, list_out, fits_out, changes_out, root_out}
use Rattle.run_queue.proofs.run_queue.RunQueue.pick.Goals as goal

pub delete-requires : goal.delete-requires
delete-requires g c =
    let q : Runners = c.args.self.now in
    let lists : KeyedRoots = g.K.KeyedLists.seen c.args.lists.now in
    let entry : ℕ = c.in-Some.entry in
    let h = c.in-Some.ensures in
    (q.root, stands q lists c.requires c.stay_keyed.ensures entry h)

pub returns-clause-list : goal.returns-clause-list
returns-clause-list g c =
    let q : Runners = c.args.self.now in
    let lists : KeyedRoots = g.K.KeyedLists.seen c.args.lists.now in
    let entry : ℕ = c.in-Some.entry in
    let h = c.in-Some.ensures in
    let after : KeyedRoots = g.K.KeyedLists.seen c.delete.new.self in
    let out : after ≡ deleted_from q.root entry lists = c.delete.ensures q.root (stands q lists c.requires c.stay_keyed.ensures entry h) in
    subst (λ (x : Runners). run_list (lowered x) after ≡ without_least 1 (run_list q lists)) (sym c.self.view_is) (list_out q lists c.requires c.stay_keyed.ensures entry h after out)

pub returns-clause-fits : goal.returns-clause-fits
returns-clause-fits g c =
    let q : Runners = c.args.self.now in
    let lists : KeyedRoots = g.K.KeyedLists.seen c.args.lists.now in
    let entry : ℕ = c.in-Some.entry in
    let h = c.in-Some.ensures in
    let after : KeyedRoots = g.K.KeyedLists.seen c.delete.new.self in
    let out : after ≡ deleted_from q.root entry lists = c.delete.ensures q.root (stands q lists c.requires c.stay_keyed.ensures entry h) in
    subst (λ (x : Runners). Fits (lowered x) after) (sym c.self.view_is) (fits_out q lists c.requires c.stay_keyed.ensures entry h after out)

pub returns-clause-others : goal.returns-clause-others
returns-clause-others g c =
    let q : Runners = c.args.self.now in
    let lists : KeyedRoots = g.K.KeyedLists.seen c.args.lists.now in
    let entry : ℕ = c.in-Some.entry in
    let h = c.in-Some.ensures in
    let after : KeyedRoots = g.K.KeyedLists.seen c.delete.new.self in
    let out : after ≡ deleted_from q.root entry lists = c.delete.ensures q.root (stands q lists c.requires c.stay_keyed.ensures entry h) in
    changes_out q lists c.requires c.stay_keyed.ensures entry h after out

pub returns-clause-insertions : goal.returns-clause-insertions
returns-clause-insertions g c =
    let q : Runners = c.args.self.now in
    let lists : KeyedRoots = g.K.KeyedLists.seen c.args.lists.now in
    let entry : ℕ = c.in-Some.entry in
    let h = c.in-Some.ensures in
    let after : KeyedRoots = g.K.KeyedLists.seen c.delete.new.self in
    let out : after ≡ deleted_from q.root entry lists = c.delete.ensures q.root (stands q lists c.requires c.stay_keyed.ensures entry h) in
    ap (λ (l : KeyedList). l.insertions) (root_out q lists c.requires c.stay_keyed.ensures entry h after out)
