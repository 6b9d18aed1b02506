use Rattle.std.proofs.Common.{◌≡◌, ◌+◌, ◌<◌, ◌^◌, ◌/◌, ℕ, true, false, get_or, length, refl, arith, sym, ap}
use Rattle.sched_base.specs.KeyedList.{KeyedRoots, inserted_into, deleted_from}
use Rattle.queue_model.specs.Ticks.{is_set}
use Rattle.wait_queue.specs.Looks.{Moved}
use Rattle.wait_queue.specs.Timers.{Timers, Fits, wait_list, insertions_of}
use Rattle.wait_queue.proofs.Meaning.{expiry_is}
use Rattle.wait_queue.proofs.FirstItem.{first, task_exists, fits_out, changes_out, inserts_out, count_out, free_out, exists_out, fits_back, changes_back, inserts_back}
use Rattle.wait_queue.proofs.Settling.{moves_some}
use Rattle.wait_queue.proofs.FirstMoved.{left_empty, left_there, moved_out, moved_back}
use Rattle.wait_queue.proofs.wait_queue.WaitQueue.settle_first.Goals as goal

pub returns-in_default-clause-left : goal.returns-in_default-clause-left
returns-in_default-clause-left g c =
    λ no. (left_empty c.args.now c.args.self.now (g.K.KeyedLists.seen c.args.lists.now) c.in_default.ensures, refl)

pub index-expiry-requires : goal.index-expiry-requires
index-expiry-requires g c =
    let q : Timers = c.args.self.now in
    let lists : KeyedRoots = g.K.KeyedLists.seen c.args.lists.now in
    let n : c.args.now < 2 ^ 32 = omega arith in
    let entry : ℕ = c.in-Some.entry in
    let h = c.in-Some.ensures in
    let w = first c.args.now entry q lists c.requires.fits c.stay_keyed.ensures n h in
    let exists = task_exists c.args.now entry q lists c.requires.fits c.stay_keyed.ensures n h in
    omega (arith, exists, ap (λ (x : Timers). length x.expiries) c.self.view_is, c.self.inside.expiries.ok)

pub key_of-requires : goal.key_of-requires
key_of-requires g c =
    let q : Timers = c.args.self.now in
    let lists : KeyedRoots = g.K.KeyedLists.seen c.args.lists.now in
    let n : c.args.now < 2 ^ 32 = omega arith in
    let entry : ℕ = c.in-Some.entry in
    let h = c.in-Some.ensures in
    let w = first c.args.now entry q lists c.requires.fits c.stay_keyed.ensures n h in
    (q.root, w.stands)

pub returns-then-key_of-expiry-clause-left : goal.returns-then-key_of-expiry-clause-left
returns-then-key_of-expiry-clause-left g c =
    let q : Timers = c.args.self.now in
    let lists : KeyedRoots = g.K.KeyedLists.seen c.args.lists.now in
    let n : c.args.now < 2 ^ 32 = omega arith in
    let entry : ℕ = c.in-Some.entry in
    let h = c.in-Some.ensures in
    let w = first c.args.now entry q lists c.requires.fits c.stay_keyed.ensures n h in
    let exists = task_exists c.args.now entry q lists c.requires.fits c.stay_keyed.ensures n h in
    let t : ℕ = c.index-expiry.result.now in
    let k : ℕ = c.key_of.result in
    let e = c.key_of.ensures q.root w.stands in
    let is : t ≡ get_or q.expiries (entry / 2) 0 = expiry_is q c.self.inside.root c.self.inside.expiries.items (entry / 2) t c.self.view_is exists c.index-expiry.ensures in
    λ no. (left_there c.args.now entry q lists c.requires.fits c.stay_keyed.ensures n h k t e is c.if-key_of-expiry.true, refl)

pub delete-requires : goal.delete-requires
delete-requires g c =
    let q : Timers = c.args.self.now in
    let lists : KeyedRoots = g.K.KeyedLists.seen c.args.lists.now in
    let n : c.args.now < 2 ^ 32 = omega arith in
    let entry : ℕ = c.in-Some.entry in
    let h = c.in-Some.ensures in
    let w = first c.args.now entry q lists c.requires.fits c.stay_keyed.ensures n h in
    (q.root, w.stands)

pub returns-then-not-is_set-clause-moved : goal.returns-then-not-is_set-clause-moved
returns-then-not-is_set-clause-moved g c =
    let q : Timers = c.args.self.now in
    let lists : KeyedRoots = g.K.KeyedLists.seen c.args.lists.now in
    let n : c.args.now < 2 ^ 32 = omega arith in
    let entry : ℕ = c.in-Some.entry in
    let h = c.in-Some.ensures in
    let w = first c.args.now entry q lists c.requires.fits c.stay_keyed.ensures n h in
    let exists = task_exists c.args.now entry q lists c.requires.fits c.stay_keyed.ensures n h in
    let t : ℕ = c.index-expiry.result.now in
    let k : ℕ = c.key_of.result in
    let e = c.key_of.ensures q.root w.stands in
    let is : t ≡ get_or q.expiries (entry / 2) 0 = expiry_is q c.self.inside.root c.self.inside.expiries.items (entry / 2) t c.self.view_is exists c.index-expiry.ensures in
    let s' : KeyedRoots = g.K.KeyedLists.seen c.delete.new.self in
    let out : s' ≡ deleted_from q.root entry lists = c.delete.ensures q.root w.stands in
    λ yes. moved_out c.args.now entry q lists c.requires.fits c.stay_keyed.ensures n h k t e is c.if-key_of-expiry.false (sym c.if-not-is_set.ensures) s' out

pub returns-then-not-is_set-clause-fits : goal.returns-then-not-is_set-clause-fits
returns-then-not-is_set-clause-fits g c =
    let q : Timers = c.args.self.now in
    let lists : KeyedRoots = g.K.KeyedLists.seen c.args.lists.now in
    let n : c.args.now < 2 ^ 32 = omega arith in
    let entry : ℕ = c.in-Some.entry in
    let h = c.in-Some.ensures in
    let w = first c.args.now entry q lists c.requires.fits c.stay_keyed.ensures n h in
    let s' : KeyedRoots = g.K.KeyedLists.seen c.delete.new.self in
    let out : s' ≡ deleted_from q.root entry lists = c.delete.ensures q.root w.stands in
    fits_out c.args.now entry q lists c.requires.fits c.stay_keyed.ensures n h s' out

pub returns-then-not-is_set-clause-others : goal.returns-then-not-is_set-clause-others
returns-then-not-is_set-clause-others g c =
    let q : Timers = c.args.self.now in
    let lists : KeyedRoots = g.K.KeyedLists.seen c.args.lists.now in
    let n : c.args.now < 2 ^ 32 = omega arith in
    let entry : ℕ = c.in-Some.entry in
    let h = c.in-Some.ensures in
    let w = first c.args.now entry q lists c.requires.fits c.stay_keyed.ensures n h in
    let s' : KeyedRoots = g.K.KeyedLists.seen c.delete.new.self in
    let out : s' ≡ deleted_from q.root entry lists = c.delete.ensures q.root w.stands in
    changes_out c.args.now entry q lists c.requires.fits c.stay_keyed.ensures n h s' out

pub returns-then-not-is_set-clause-insertions : goal.returns-then-not-is_set-clause-insertions
returns-then-not-is_set-clause-insertions g c =
    let q : Timers = c.args.self.now in
    let lists : KeyedRoots = g.K.KeyedLists.seen c.args.lists.now in
    let n : c.args.now < 2 ^ 32 = omega arith in
    let entry : ℕ = c.in-Some.entry in
    let h = c.in-Some.ensures in
    let w = first c.args.now entry q lists c.requires.fits c.stay_keyed.ensures n h in
    let s' : KeyedRoots = g.K.KeyedLists.seen c.delete.new.self in
    let out : s' ≡ deleted_from q.root entry lists = c.delete.ensures q.root w.stands in
    inserts_out c.args.now entry q lists c.requires.fits c.stay_keyed.ensures n h s' out

pub insert-requires-clause-root_exists : goal.insert-requires-clause-root_exists
insert-requires-clause-root_exists g c =
    let q : Timers = c.args.self.now in
    let lists : KeyedRoots = g.K.KeyedLists.seen c.args.lists.now in
    let n : c.args.now < 2 ^ 32 = omega arith in
    let entry : ℕ = c.in-Some.entry in
    let h = c.in-Some.ensures in
    let w = first c.args.now entry q lists c.requires.fits c.stay_keyed.ensures n h in
    let s' : KeyedRoots = g.K.KeyedLists.seen c.delete.new.self in
    let out : s' ≡ deleted_from q.root entry lists = c.delete.ensures q.root w.stands in
    let same : c.self.inside.root ≡ q.root = ap (λ (x : Timers). x.root) c.self.view_is in
    let f = fits_out c.args.now entry q lists c.requires.fits c.stay_keyed.ensures n h s' out in
    rw same f.exists

pub insert-requires-clause-entry_exists : goal.insert-requires-clause-entry_exists
insert-requires-clause-entry_exists g c =
    let q : Timers = c.args.self.now in
    let lists : KeyedRoots = g.K.KeyedLists.seen c.args.lists.now in
    let n : c.args.now < 2 ^ 32 = omega arith in
    let entry : ℕ = c.in-Some.entry in
    let h = c.in-Some.ensures in
    let w = first c.args.now entry q lists c.requires.fits c.stay_keyed.ensures n h in
    let s' : KeyedRoots = g.K.KeyedLists.seen c.delete.new.self in
    let out : s' ≡ deleted_from q.root entry lists = c.delete.ensures q.root w.stands in
    exists_out c.args.now entry q lists c.requires.fits c.stay_keyed.ensures n h s' out

pub insert-requires-clause-free : goal.insert-requires-clause-free
insert-requires-clause-free g c =
    let q : Timers = c.args.self.now in
    let lists : KeyedRoots = g.K.KeyedLists.seen c.args.lists.now in
    let n : c.args.now < 2 ^ 32 = omega arith in
    let entry : ℕ = c.in-Some.entry in
    let h = c.in-Some.ensures in
    let w = first c.args.now entry q lists c.requires.fits c.stay_keyed.ensures n h in
    let s' : KeyedRoots = g.K.KeyedLists.seen c.delete.new.self in
    let out : s' ≡ deleted_from q.root entry lists = c.delete.ensures q.root w.stands in
    free_out c.args.now entry q lists c.requires.fits c.stay_keyed.ensures n h s' out

pub insert-requires-clause-room : goal.insert-requires-clause-room
insert-requires-clause-room g c =
    let q : Timers = c.args.self.now in
    let lists : KeyedRoots = g.K.KeyedLists.seen c.args.lists.now in
    let n : c.args.now < 2 ^ 32 = omega arith in
    let entry : ℕ = c.in-Some.entry in
    let h = c.in-Some.ensures in
    let w = first c.args.now entry q lists c.requires.fits c.stay_keyed.ensures n h in
    let exists = task_exists c.args.now entry q lists c.requires.fits c.stay_keyed.ensures n h in
    let t : ℕ = c.index-expiry.result.now in
    let k : ℕ = c.key_of.result in
    let e = c.key_of.ensures q.root w.stands in
    let is : t ≡ get_or q.expiries (entry / 2) 0 = expiry_is q c.self.inside.root c.self.inside.expiries.items (entry / 2) t c.self.view_is exists c.index-expiry.ensures in
    let s' : KeyedRoots = g.K.KeyedLists.seen c.delete.new.self in
    let out : s' ≡ deleted_from q.root entry lists = c.delete.ensures q.root w.stands in
    let same : c.self.inside.root ≡ q.root = ap (λ (x : Timers). x.root) c.self.view_is in
    let armed : is_set t ≡ true = sym c.if-not-is_set.ensures in
    let tick : t < 2 ^ 32 = omega arith in
    let count : insertions_of q s' ≡ insertions_of q lists = count_out c.args.now entry q lists c.requires.fits c.stay_keyed.ensures n h s' out in
    let moves : Moved c.args.now (wait_list c.args.now q lists) (wait_list c.args.now q (inserted_into q.root entry t s')) = moved_back c.args.now entry q lists c.requires.fits c.stay_keyed.ensures n h k t e is c.if-key_of-expiry.false armed tick s' (inserted_into q.root entry t s') out refl in
    rw (same, count) (c.requires.room (moves_some c.args.now _ _ moves))

pub returns-clause-moved : goal.returns-clause-moved
returns-clause-moved g c =
    let q : Timers = c.args.self.now in
    let lists : KeyedRoots = g.K.KeyedLists.seen c.args.lists.now in
    let n : c.args.now < 2 ^ 32 = omega arith in
    let entry : ℕ = c.in-Some.entry in
    let h = c.in-Some.ensures in
    let w = first c.args.now entry q lists c.requires.fits c.stay_keyed.ensures n h in
    let exists = task_exists c.args.now entry q lists c.requires.fits c.stay_keyed.ensures n h in
    let t : ℕ = c.index-expiry.result.now in
    let k : ℕ = c.key_of.result in
    let e = c.key_of.ensures q.root w.stands in
    let is : t ≡ get_or q.expiries (entry / 2) 0 = expiry_is q c.self.inside.root c.self.inside.expiries.items (entry / 2) t c.self.view_is exists c.index-expiry.ensures in
    let s' : KeyedRoots = g.K.KeyedLists.seen c.delete.new.self in
    let out : s' ≡ deleted_from q.root entry lists = c.delete.ensures q.root w.stands in
    let same : c.self.inside.root ≡ q.root = ap (λ (x : Timers). x.root) c.self.view_is in
    let armed : is_set t ≡ true = sym c.if-not-is_set.ensures in
    let tick : t < 2 ^ 32 = omega arith in
    let s'' : KeyedRoots = g.K.KeyedLists.seen c.insert.new.self in
    let back : s'' ≡ inserted_into q.root entry t s' = rw same at c.insert.ensures in
    λ yes. moved_back c.args.now entry q lists c.requires.fits c.stay_keyed.ensures n h k t e is c.if-key_of-expiry.false armed tick s' s'' out back

pub returns-clause-fits : goal.returns-clause-fits
returns-clause-fits g c =
    let q : Timers = c.args.self.now in
    let lists : KeyedRoots = g.K.KeyedLists.seen c.args.lists.now in
    let n : c.args.now < 2 ^ 32 = omega arith in
    let entry : ℕ = c.in-Some.entry in
    let h = c.in-Some.ensures in
    let w = first c.args.now entry q lists c.requires.fits c.stay_keyed.ensures n h in
    let exists = task_exists c.args.now entry q lists c.requires.fits c.stay_keyed.ensures n h in
    let t : ℕ = c.index-expiry.result.now in
    let k : ℕ = c.key_of.result in
    let e = c.key_of.ensures q.root w.stands in
    let is : t ≡ get_or q.expiries (entry / 2) 0 = expiry_is q c.self.inside.root c.self.inside.expiries.items (entry / 2) t c.self.view_is exists c.index-expiry.ensures in
    let s' : KeyedRoots = g.K.KeyedLists.seen c.delete.new.self in
    let out : s' ≡ deleted_from q.root entry lists = c.delete.ensures q.root w.stands in
    let same : c.self.inside.root ≡ q.root = ap (λ (x : Timers). x.root) c.self.view_is in
    let armed : is_set t ≡ true = sym c.if-not-is_set.ensures in
    let tick : t < 2 ^ 32 = omega arith in
    let s'' : KeyedRoots = g.K.KeyedLists.seen c.insert.new.self in
    let back : s'' ≡ inserted_into q.root entry t s' = rw same at c.insert.ensures in
    fits_back c.args.now entry q lists c.requires.fits c.stay_keyed.ensures n h s' out t tick armed s'' back

pub returns-clause-others : goal.returns-clause-others
returns-clause-others g c =
    let q : Timers = c.args.self.now in
    let lists : KeyedRoots = g.K.KeyedLists.seen c.args.lists.now in
    let n : c.args.now < 2 ^ 32 = omega arith in
    let entry : ℕ = c.in-Some.entry in
    let h = c.in-Some.ensures in
    let w = first c.args.now entry q lists c.requires.fits c.stay_keyed.ensures n h in
    let exists = task_exists c.args.now entry q lists c.requires.fits c.stay_keyed.ensures n h in
    let t : ℕ = c.index-expiry.result.now in
    let k : ℕ = c.key_of.result in
    let e = c.key_of.ensures q.root w.stands in
    let is : t ≡ get_or q.expiries (entry / 2) 0 = expiry_is q c.self.inside.root c.self.inside.expiries.items (entry / 2) t c.self.view_is exists c.index-expiry.ensures in
    let s' : KeyedRoots = g.K.KeyedLists.seen c.delete.new.self in
    let out : s' ≡ deleted_from q.root entry lists = c.delete.ensures q.root w.stands in
    let same : c.self.inside.root ≡ q.root = ap (λ (x : Timers). x.root) c.self.view_is in
    let armed : is_set t ≡ true = sym c.if-not-is_set.ensures in
    let tick : t < 2 ^ 32 = omega arith in
    let s'' : KeyedRoots = g.K.KeyedLists.seen c.insert.new.self in
    let back : s'' ≡ inserted_into q.root entry t s' = rw same at c.insert.ensures in
    changes_back c.args.now entry q lists c.requires.fits c.stay_keyed.ensures n h s' out t tick armed s'' back

pub returns-clause-insertions : goal.returns-clause-insertions
returns-clause-insertions g c =
    let q : Timers = c.args.self.now in
    let lists : KeyedRoots = g.K.KeyedLists.seen c.args.lists.now in
    let n : c.args.now < 2 ^ 32 = omega arith in
    let entry : ℕ = c.in-Some.entry in
    let h = c.in-Some.ensures in
    let w = first c.args.now entry q lists c.requires.fits c.stay_keyed.ensures n h in
    let exists = task_exists c.args.now entry q lists c.requires.fits c.stay_keyed.ensures n h in
    let t : ℕ = c.index-expiry.result.now in
    let k : ℕ = c.key_of.result in
    let e = c.key_of.ensures q.root w.stands in
    let is : t ≡ get_or q.expiries (entry / 2) 0 = expiry_is q c.self.inside.root c.self.inside.expiries.items (entry / 2) t c.self.view_is exists c.index-expiry.ensures in
    let s' : KeyedRoots = g.K.KeyedLists.seen c.delete.new.self in
    let out : s' ≡ deleted_from q.root entry lists = c.delete.ensures q.root w.stands in
    let same : c.self.inside.root ≡ q.root = ap (λ (x : Timers). x.root) c.self.view_is in
    let armed : is_set t ≡ true = sym c.if-not-is_set.ensures in
    let tick : t < 2 ^ 32 = omega arith in
    let s'' : KeyedRoots = g.K.KeyedLists.seen c.insert.new.self in
    let back : s'' ≡ inserted_into q.root entry t s' = rw same at c.insert.ensures in
    inserts_back c.args.now entry q lists c.requires.fits c.stay_keyed.ensures n h s' out t tick armed s'' back
