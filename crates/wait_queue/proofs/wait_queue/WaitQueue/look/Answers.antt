use Rattle.std.proofs.Common.{◌≡◌, ◌+◌, ◌<◌, ◌^◌, ◌/◌, ℕ, true, false, get_or, length, arith, sym, ap, subst}
use Rattle.sched_base.specs.KeyedList.{KeyedRoots, inserted_into, deleted_from}
use Rattle.queue_model.specs.Ticks.{is_expired, is_set}
use Rattle.wait_queue.specs.Looks.{Fires}
use Rattle.wait_queue.specs.Timers.{Timers, Fits, wait_list, insertions_of}
use Rattle.wait_queue.proofs.Meaning.{expiry_is, unset}
use Rattle.wait_queue.proofs.FirstItem.{first, task_exists, settles_ahead, fires_first, fits_fired, fits_out, changes_out, inserts_out, count_out, due_old, passes_forgotten, free_out, exists_out, passes_back, fits_back, changes_back, inserts_back}
use Rattle.wait_queue.proofs.wait_queue.WaitQueue.look.Goals as goal

pub key_of-requires : goal.key_of-requires
key_of-requires g c =
    let q : Timers = c.args.self.now in
    let lists : KeyedRoots = g.K.KeyedLists.seen c.args.lists.now in
    let n : c.args.now < 2 ^ 32 = omega arith in
    let entry : ℕ = c.in-Some.entry in
    let h = c.in-Some.ensures in
    let w = first c.args.now entry q lists c.requires.fits c.stay_keyed.ensures n h in
    (q.root, w.stands)

pub returns-then-not-is_expired-clause-saw : goal.returns-then-not-is_expired-clause-saw
returns-then-not-is_expired-clause-saw g c =
    let q : Timers = c.args.self.now in
    let lists : KeyedRoots = g.K.KeyedLists.seen c.args.lists.now in
    let n : c.args.now < 2 ^ 32 = omega arith in
    let entry : ℕ = c.in-Some.entry in
    let h = c.in-Some.ensures in
    let w = first c.args.now entry q lists c.requires.fits c.stay_keyed.ensures n h in
    let e = c.key_of.ensures q.root w.stands in
    settles_ahead c.args.now entry q lists c.requires.fits c.stay_keyed.ensures n h c.key_of.result e (sym c.if-not-is_expired.ensures)

pub delete-requires : goal.delete-requires
delete-requires g c =
    let q : Timers = c.args.self.now in
    let lists : KeyedRoots = g.K.KeyedLists.seen c.args.lists.now in
    let n : c.args.now < 2 ^ 32 = omega arith in
    let entry : ℕ = c.in-Some.entry in
    let h = c.in-Some.ensures in
    let w = first c.args.now entry q lists c.requires.fits c.stay_keyed.ensures n h in
    (q.root, w.stands)

pub index-expiry-requires : goal.index-expiry-requires
index-expiry-requires g c =
    let q : Timers = c.args.self.now in
    let lists : KeyedRoots = g.K.KeyedLists.seen c.args.lists.now in
    let n : c.args.now < 2 ^ 32 = omega arith in
    let entry : ℕ = c.in-Some.entry in
    let h = c.in-Some.ensures in
    let w = first c.args.now entry q lists c.requires.fits c.stay_keyed.ensures n h in
    let exists = task_exists c.args.now entry q lists c.requires.fits c.stay_keyed.ensures n h in
    omega (arith, exists, ap (λ (x : Timers). length x.expiries) c.self.view_is, c.self.inside.expiries.ok)

pub index_mut-requires : goal.index_mut-requires
index_mut-requires g c =
    let q : Timers = c.args.self.now in
    let lists : KeyedRoots = g.K.KeyedLists.seen c.args.lists.now in
    let n : c.args.now < 2 ^ 32 = omega arith in
    let entry : ℕ = c.in-Some.entry in
    let h = c.in-Some.ensures in
    let w = first c.args.now entry q lists c.requires.fits c.stay_keyed.ensures n h in
    let exists = task_exists c.args.now entry q lists c.requires.fits c.stay_keyed.ensures n h in
    omega (arith, exists, ap (λ (x : Timers). length x.expiries) c.self.view_is, c.self.inside.expiries.ok)

pub returns-then-is_expired-clause-saw : goal.returns-then-is_expired-clause-saw
returns-then-is_expired-clause-saw g c =
    let q : Timers = c.args.self.now in
    let lists : KeyedRoots = g.K.KeyedLists.seen c.args.lists.now in
    let n : c.args.now < 2 ^ 32 = omega arith in
    let entry : ℕ = c.in-Some.entry in
    let h = c.in-Some.ensures in
    let w = first c.args.now entry q lists c.requires.fits c.stay_keyed.ensures n h in
    let k : ℕ = c.key_of.result in
    let e = c.key_of.ensures q.root w.stands in
    let d : is_expired k c.args.now ≡ true = sym c.if-not-is_expired.ensures in
    let s' : KeyedRoots = g.K.KeyedLists.seen c.delete.new.self in
    let out : s' ≡ deleted_from q.root entry lists = c.delete.ensures q.root w.stands in
    let t : ℕ = c.index-expiry.result.now in
    let exists = task_exists c.args.now entry q lists c.requires.fits c.stay_keyed.ensures n h in
    let is : t ≡ get_or q.expiries (entry / 2) 0 = expiry_is q c.self.inside.root c.self.inside.expiries.items (entry / 2) t c.self.view_is exists c.index-expiry.ensures in
    subst (λ (x : Timers). Fires (entry / 2) c.args.now (wait_list c.args.now q lists) (wait_list c.args.now (unset (entry / 2) x) s')) (sym c.self.view_is) (fires_first c.args.now entry q lists c.requires.fits c.stay_keyed.ensures n h k e d s' out t is (sym c.if-is_expired.ensures))

pub returns-then-is_expired-clause-fits : goal.returns-then-is_expired-clause-fits
returns-then-is_expired-clause-fits g c =
    let q : Timers = c.args.self.now in
    let lists : KeyedRoots = g.K.KeyedLists.seen c.args.lists.now in
    let n : c.args.now < 2 ^ 32 = omega arith in
    let entry : ℕ = c.in-Some.entry in
    let h = c.in-Some.ensures in
    let w = first c.args.now entry q lists c.requires.fits c.stay_keyed.ensures n h in
    let k : ℕ = c.key_of.result in
    let e = c.key_of.ensures q.root w.stands in
    let d : is_expired k c.args.now ≡ true = sym c.if-not-is_expired.ensures in
    let s' : KeyedRoots = g.K.KeyedLists.seen c.delete.new.self in
    let out : s' ≡ deleted_from q.root entry lists = c.delete.ensures q.root w.stands in
    subst (λ (x : Timers). Fits (unset (entry / 2) x) s') (sym c.self.view_is) (fits_fired c.args.now entry q lists c.requires.fits c.stay_keyed.ensures n h k e d s' out)

pub returns-then-is_expired-clause-others : goal.returns-then-is_expired-clause-others
returns-then-is_expired-clause-others g c =
    let q : Timers = c.args.self.now in
    let lists : KeyedRoots = g.K.KeyedLists.seen c.args.lists.now in
    let n : c.args.now < 2 ^ 32 = omega arith in
    let entry : ℕ = c.in-Some.entry in
    let h = c.in-Some.ensures in
    let w = first c.args.now entry q lists c.requires.fits c.stay_keyed.ensures n h in
    let k : ℕ = c.key_of.result in
    let e = c.key_of.ensures q.root w.stands in
    let d : is_expired k c.args.now ≡ true = sym c.if-not-is_expired.ensures in
    let s' : KeyedRoots = g.K.KeyedLists.seen c.delete.new.self in
    let out : s' ≡ deleted_from q.root entry lists = c.delete.ensures q.root w.stands in
    changes_out c.args.now entry q lists c.requires.fits c.stay_keyed.ensures n h s' out

pub returns-then-is_expired-clause-insertions : goal.returns-then-is_expired-clause-insertions
returns-then-is_expired-clause-insertions g c =
    let q : Timers = c.args.self.now in
    let lists : KeyedRoots = g.K.KeyedLists.seen c.args.lists.now in
    let n : c.args.now < 2 ^ 32 = omega arith in
    let entry : ℕ = c.in-Some.entry in
    let h = c.in-Some.ensures in
    let w = first c.args.now entry q lists c.requires.fits c.stay_keyed.ensures n h in
    let k : ℕ = c.key_of.result in
    let e = c.key_of.ensures q.root w.stands in
    let d : is_expired k c.args.now ≡ true = sym c.if-not-is_expired.ensures in
    let s' : KeyedRoots = g.K.KeyedLists.seen c.delete.new.self in
    let out : s' ≡ deleted_from q.root entry lists = c.delete.ensures q.root w.stands in
    inserts_out c.args.now entry q lists c.requires.fits c.stay_keyed.ensures n h s' out

pub returns-then-not-is_set-clause-saw : goal.returns-then-not-is_set-clause-saw
returns-then-not-is_set-clause-saw g c =
    let q : Timers = c.args.self.now in
    let lists : KeyedRoots = g.K.KeyedLists.seen c.args.lists.now in
    let n : c.args.now < 2 ^ 32 = omega arith in
    let entry : ℕ = c.in-Some.entry in
    let h = c.in-Some.ensures in
    let w = first c.args.now entry q lists c.requires.fits c.stay_keyed.ensures n h in
    let k : ℕ = c.key_of.result in
    let e = c.key_of.ensures q.root w.stands in
    let d : is_expired k c.args.now ≡ true = sym c.if-not-is_expired.ensures in
    let s' : KeyedRoots = g.K.KeyedLists.seen c.delete.new.self in
    let out : s' ≡ deleted_from q.root entry lists = c.delete.ensures q.root w.stands in
    let t : ℕ = c.index-expiry.result.now in
    let exists = task_exists c.args.now entry q lists c.requires.fits c.stay_keyed.ensures n h in
    let is : t ≡ get_or q.expiries (entry / 2) 0 = expiry_is q c.self.inside.root c.self.inside.expiries.items (entry / 2) t c.self.view_is exists c.index-expiry.ensures in
    passes_forgotten c.args.now entry q lists c.requires.fits c.stay_keyed.ensures n h k e d s' out t is (sym c.if-not-is_set.ensures)

pub returns-then-not-is_set-clause-fits : goal.returns-then-not-is_set-clause-fits
returns-then-not-is_set-clause-fits g c =
    let q : Timers = c.args.self.now in
    let lists : KeyedRoots = g.K.KeyedLists.seen c.args.lists.now in
    let n : c.args.now < 2 ^ 32 = omega arith in
    let entry : ℕ = c.in-Some.entry in
    let h = c.in-Some.ensures in
    let w = first c.args.now entry q lists c.requires.fits c.stay_keyed.ensures n h in
    let k : ℕ = c.key_of.result in
    let e = c.key_of.ensures q.root w.stands in
    let d : is_expired k c.args.now ≡ true = sym c.if-not-is_expired.ensures in
    let s' : KeyedRoots = g.K.KeyedLists.seen c.delete.new.self in
    let out : s' ≡ deleted_from q.root entry lists = c.delete.ensures q.root w.stands in
    fits_out c.args.now entry q lists c.requires.fits c.stay_keyed.ensures n h s' out

pub returns-then-not-is_set-clause-others : goal.returns-then-not-is_set-clause-others
returns-then-not-is_set-clause-others g c =
    let q : Timers = c.args.self.now in
    let lists : KeyedRoots = g.K.KeyedLists.seen c.args.lists.now in
    let n : c.args.now < 2 ^ 32 = omega arith in
    let entry : ℕ = c.in-Some.entry in
    let h = c.in-Some.ensures in
    let w = first c.args.now entry q lists c.requires.fits c.stay_keyed.ensures n h in
    let k : ℕ = c.key_of.result in
    let e = c.key_of.ensures q.root w.stands in
    let d : is_expired k c.args.now ≡ true = sym c.if-not-is_expired.ensures in
    let s' : KeyedRoots = g.K.KeyedLists.seen c.delete.new.self in
    let out : s' ≡ deleted_from q.root entry lists = c.delete.ensures q.root w.stands in
    changes_out c.args.now entry q lists c.requires.fits c.stay_keyed.ensures n h s' out

pub returns-then-not-is_set-clause-insertions : goal.returns-then-not-is_set-clause-insertions
returns-then-not-is_set-clause-insertions g c =
    let q : Timers = c.args.self.now in
    let lists : KeyedRoots = g.K.KeyedLists.seen c.args.lists.now in
    let n : c.args.now < 2 ^ 32 = omega arith in
    let entry : ℕ = c.in-Some.entry in
    let h = c.in-Some.ensures in
    let w = first c.args.now entry q lists c.requires.fits c.stay_keyed.ensures n h in
    let k : ℕ = c.key_of.result in
    let e = c.key_of.ensures q.root w.stands in
    let d : is_expired k c.args.now ≡ true = sym c.if-not-is_expired.ensures in
    let s' : KeyedRoots = g.K.KeyedLists.seen c.delete.new.self in
    let out : s' ≡ deleted_from q.root entry lists = c.delete.ensures q.root w.stands in
    inserts_out c.args.now entry q lists c.requires.fits c.stay_keyed.ensures n h s' out

pub insert-requires-clause-root_exists : goal.insert-requires-clause-root_exists
insert-requires-clause-root_exists g c =
    let q : Timers = c.args.self.now in
    let lists : KeyedRoots = g.K.KeyedLists.seen c.args.lists.now in
    let n : c.args.now < 2 ^ 32 = omega arith in
    let entry : ℕ = c.in-Some.entry in
    let h = c.in-Some.ensures in
    let w = first c.args.now entry q lists c.requires.fits c.stay_keyed.ensures n h in
    let k : ℕ = c.key_of.result in
    let e = c.key_of.ensures q.root w.stands in
    let d : is_expired k c.args.now ≡ true = sym c.if-not-is_expired.ensures in
    let s' : KeyedRoots = g.K.KeyedLists.seen c.delete.new.self in
    let out : s' ≡ deleted_from q.root entry lists = c.delete.ensures q.root w.stands in
    let t : ℕ = c.index-expiry.result.now in
    let exists = task_exists c.args.now entry q lists c.requires.fits c.stay_keyed.ensures n h in
    let is : t ≡ get_or q.expiries (entry / 2) 0 = expiry_is q c.self.inside.root c.self.inside.expiries.items (entry / 2) t c.self.view_is exists c.index-expiry.ensures in
    let tick : t < 2 ^ 32 = omega arith in
    let later : is_expired t c.args.now ≡ false = sym c.if-is_expired.ensures in
    let armed : is_set t ≡ true = sym c.if-not-is_set.ensures in
    let same : c.self.inside.root ≡ q.root = ap (λ (x : Timers). x.root) c.self.view_is in
    let f = fits_out c.args.now entry q lists c.requires.fits c.stay_keyed.ensures n h s' out in
    rw same f.exists

pub insert-requires-clause-entry_exists : goal.insert-requires-clause-entry_exists
insert-requires-clause-entry_exists g c =
    let q : Timers = c.args.self.now in
    let lists : KeyedRoots = g.K.KeyedLists.seen c.args.lists.now in
    let n : c.args.now < 2 ^ 32 = omega arith in
    let entry : ℕ = c.in-Some.entry in
    let h = c.in-Some.ensures in
    let w = first c.args.now entry q lists c.requires.fits c.stay_keyed.ensures n h in
    let k : ℕ = c.key_of.result in
    let e = c.key_of.ensures q.root w.stands in
    let d : is_expired k c.args.now ≡ true = sym c.if-not-is_expired.ensures in
    let s' : KeyedRoots = g.K.KeyedLists.seen c.delete.new.self in
    let out : s' ≡ deleted_from q.root entry lists = c.delete.ensures q.root w.stands in
    let t : ℕ = c.index-expiry.result.now in
    let exists = task_exists c.args.now entry q lists c.requires.fits c.stay_keyed.ensures n h in
    let is : t ≡ get_or q.expiries (entry / 2) 0 = expiry_is q c.self.inside.root c.self.inside.expiries.items (entry / 2) t c.self.view_is exists c.index-expiry.ensures in
    let tick : t < 2 ^ 32 = omega arith in
    let later : is_expired t c.args.now ≡ false = sym c.if-is_expired.ensures in
    let armed : is_set t ≡ true = sym c.if-not-is_set.ensures in
    let same : c.self.inside.root ≡ q.root = ap (λ (x : Timers). x.root) c.self.view_is in
    exists_out c.args.now entry q lists c.requires.fits c.stay_keyed.ensures n h s' out

pub insert-requires-clause-free : goal.insert-requires-clause-free
insert-requires-clause-free g c =
    let q : Timers = c.args.self.now in
    let lists : KeyedRoots = g.K.KeyedLists.seen c.args.lists.now in
    let n : c.args.now < 2 ^ 32 = omega arith in
    let entry : ℕ = c.in-Some.entry in
    let h = c.in-Some.ensures in
    let w = first c.args.now entry q lists c.requires.fits c.stay_keyed.ensures n h in
    let k : ℕ = c.key_of.result in
    let e = c.key_of.ensures q.root w.stands in
    let d : is_expired k c.args.now ≡ true = sym c.if-not-is_expired.ensures in
    let s' : KeyedRoots = g.K.KeyedLists.seen c.delete.new.self in
    let out : s' ≡ deleted_from q.root entry lists = c.delete.ensures q.root w.stands in
    let t : ℕ = c.index-expiry.result.now in
    let exists = task_exists c.args.now entry q lists c.requires.fits c.stay_keyed.ensures n h in
    let is : t ≡ get_or q.expiries (entry / 2) 0 = expiry_is q c.self.inside.root c.self.inside.expiries.items (entry / 2) t c.self.view_is exists c.index-expiry.ensures in
    let tick : t < 2 ^ 32 = omega arith in
    let later : is_expired t c.args.now ≡ false = sym c.if-is_expired.ensures in
    let armed : is_set t ≡ true = sym c.if-not-is_set.ensures in
    let same : c.self.inside.root ≡ q.root = ap (λ (x : Timers). x.root) c.self.view_is in
    free_out c.args.now entry q lists c.requires.fits c.stay_keyed.ensures n h s' out

pub insert-requires-clause-room : goal.insert-requires-clause-room
insert-requires-clause-room g c =
    let q : Timers = c.args.self.now in
    let lists : KeyedRoots = g.K.KeyedLists.seen c.args.lists.now in
    let n : c.args.now < 2 ^ 32 = omega arith in
    let entry : ℕ = c.in-Some.entry in
    let h = c.in-Some.ensures in
    let w = first c.args.now entry q lists c.requires.fits c.stay_keyed.ensures n h in
    let k : ℕ = c.key_of.result in
    let e = c.key_of.ensures q.root w.stands in
    let d : is_expired k c.args.now ≡ true = sym c.if-not-is_expired.ensures in
    let s' : KeyedRoots = g.K.KeyedLists.seen c.delete.new.self in
    let out : s' ≡ deleted_from q.root entry lists = c.delete.ensures q.root w.stands in
    let t : ℕ = c.index-expiry.result.now in
    let exists = task_exists c.args.now entry q lists c.requires.fits c.stay_keyed.ensures n h in
    let is : t ≡ get_or q.expiries (entry / 2) 0 = expiry_is q c.self.inside.root c.self.inside.expiries.items (entry / 2) t c.self.view_is exists c.index-expiry.ensures in
    let tick : t < 2 ^ 32 = omega arith in
    let later : is_expired t c.args.now ≡ false = sym c.if-is_expired.ensures in
    let armed : is_set t ≡ true = sym c.if-not-is_set.ensures in
    let same : c.self.inside.root ≡ q.root = ap (λ (x : Timers). x.root) c.self.view_is in
    let count : insertions_of q s' ≡ insertions_of q lists = count_out c.args.now entry q lists c.requires.fits c.stay_keyed.ensures n h s' out in
    let some = ap length (due_old c.args.now entry q lists c.requires.fits c.stay_keyed.ensures n h k e d s' out) in
    let room : insertions_of q s' + 1 < 2 ^ 63 = omega (arith, count, some, c.requires.room) in
    rw same room

pub returns-clause-saw : goal.returns-clause-saw
returns-clause-saw g c =
    let q : Timers = c.args.self.now in
    let lists : KeyedRoots = g.K.KeyedLists.seen c.args.lists.now in
    let n : c.args.now < 2 ^ 32 = omega arith in
    let entry : ℕ = c.in-Some.entry in
    let h = c.in-Some.ensures in
    let w = first c.args.now entry q lists c.requires.fits c.stay_keyed.ensures n h in
    let k : ℕ = c.key_of.result in
    let e = c.key_of.ensures q.root w.stands in
    let d : is_expired k c.args.now ≡ true = sym c.if-not-is_expired.ensures in
    let s' : KeyedRoots = g.K.KeyedLists.seen c.delete.new.self in
    let out : s' ≡ deleted_from q.root entry lists = c.delete.ensures q.root w.stands in
    let t : ℕ = c.index-expiry.result.now in
    let exists = task_exists c.args.now entry q lists c.requires.fits c.stay_keyed.ensures n h in
    let is : t ≡ get_or q.expiries (entry / 2) 0 = expiry_is q c.self.inside.root c.self.inside.expiries.items (entry / 2) t c.self.view_is exists c.index-expiry.ensures in
    let tick : t < 2 ^ 32 = omega arith in
    let later : is_expired t c.args.now ≡ false = sym c.if-is_expired.ensures in
    let armed : is_set t ≡ true = sym c.if-not-is_set.ensures in
    let same : c.self.inside.root ≡ q.root = ap (λ (x : Timers). x.root) c.self.view_is in
    let s'' : KeyedRoots = g.K.KeyedLists.seen c.insert.new.self in
    let back : s'' ≡ inserted_into q.root entry t s' = rw same at c.insert.ensures in
    passes_back c.args.now entry q lists c.requires.fits c.stay_keyed.ensures n h k e d s' out t is tick later armed s'' back

pub returns-clause-fits : goal.returns-clause-fits
returns-clause-fits g c =
    let q : Timers = c.args.self.now in
    let lists : KeyedRoots = g.K.KeyedLists.seen c.args.lists.now in
    let n : c.args.now < 2 ^ 32 = omega arith in
    let entry : ℕ = c.in-Some.entry in
    let h = c.in-Some.ensures in
    let w = first c.args.now entry q lists c.requires.fits c.stay_keyed.ensures n h in
    let k : ℕ = c.key_of.result in
    let e = c.key_of.ensures q.root w.stands in
    let d : is_expired k c.args.now ≡ true = sym c.if-not-is_expired.ensures in
    let s' : KeyedRoots = g.K.KeyedLists.seen c.delete.new.self in
    let out : s' ≡ deleted_from q.root entry lists = c.delete.ensures q.root w.stands in
    let t : ℕ = c.index-expiry.result.now in
    let exists = task_exists c.args.now entry q lists c.requires.fits c.stay_keyed.ensures n h in
    let is : t ≡ get_or q.expiries (entry / 2) 0 = expiry_is q c.self.inside.root c.self.inside.expiries.items (entry / 2) t c.self.view_is exists c.index-expiry.ensures in
    let tick : t < 2 ^ 32 = omega arith in
    let later : is_expired t c.args.now ≡ false = sym c.if-is_expired.ensures in
    let armed : is_set t ≡ true = sym c.if-not-is_set.ensures in
    let same : c.self.inside.root ≡ q.root = ap (λ (x : Timers). x.root) c.self.view_is in
    let s'' : KeyedRoots = g.K.KeyedLists.seen c.insert.new.self in
    let back : s'' ≡ inserted_into q.root entry t s' = rw same at c.insert.ensures in
    fits_back c.args.now entry q lists c.requires.fits c.stay_keyed.ensures n h s' out t tick armed s'' back

pub returns-clause-others : goal.returns-clause-others
returns-clause-others g c =
    let q : Timers = c.args.self.now in
    let lists : KeyedRoots = g.K.KeyedLists.seen c.args.lists.now in
    let n : c.args.now < 2 ^ 32 = omega arith in
    let entry : ℕ = c.in-Some.entry in
    let h = c.in-Some.ensures in
    let w = first c.args.now entry q lists c.requires.fits c.stay_keyed.ensures n h in
    let k : ℕ = c.key_of.result in
    let e = c.key_of.ensures q.root w.stands in
    let d : is_expired k c.args.now ≡ true = sym c.if-not-is_expired.ensures in
    let s' : KeyedRoots = g.K.KeyedLists.seen c.delete.new.self in
    let out : s' ≡ deleted_from q.root entry lists = c.delete.ensures q.root w.stands in
    let t : ℕ = c.index-expiry.result.now in
    let exists = task_exists c.args.now entry q lists c.requires.fits c.stay_keyed.ensures n h in
    let is : t ≡ get_or q.expiries (entry / 2) 0 = expiry_is q c.self.inside.root c.self.inside.expiries.items (entry / 2) t c.self.view_is exists c.index-expiry.ensures in
    let tick : t < 2 ^ 32 = omega arith in
    let later : is_expired t c.args.now ≡ false = sym c.if-is_expired.ensures in
    let armed : is_set t ≡ true = sym c.if-not-is_set.ensures in
    let same : c.self.inside.root ≡ q.root = ap (λ (x : Timers). x.root) c.self.view_is in
    let s'' : KeyedRoots = g.K.KeyedLists.seen c.insert.new.self in
    let back : s'' ≡ inserted_into q.root entry t s' = rw same at c.insert.ensures in
    changes_back c.args.now entry q lists c.requires.fits c.stay_keyed.ensures n h s' out t tick armed s'' back

pub returns-clause-insertions : goal.returns-clause-insertions
returns-clause-insertions g c =
    let q : Timers = c.args.self.now in
    let lists : KeyedRoots = g.K.KeyedLists.seen c.args.lists.now in
    let n : c.args.now < 2 ^ 32 = omega arith in
    let entry : ℕ = c.in-Some.entry in
    let h = c.in-Some.ensures in
    let w = first c.args.now entry q lists c.requires.fits c.stay_keyed.ensures n h in
    let k : ℕ = c.key_of.result in
    let e = c.key_of.ensures q.root w.stands in
    let d : is_expired k c.args.now ≡ true = sym c.if-not-is_expired.ensures in
    let s' : KeyedRoots = g.K.KeyedLists.seen c.delete.new.self in
    let out : s' ≡ deleted_from q.root entry lists = c.delete.ensures q.root w.stands in
    let t : ℕ = c.index-expiry.result.now in
    let exists = task_exists c.args.now entry q lists c.requires.fits c.stay_keyed.ensures n h in
    let is : t ≡ get_or q.expiries (entry / 2) 0 = expiry_is q c.self.inside.root c.self.inside.expiries.items (entry / 2) t c.self.view_is exists c.index-expiry.ensures in
    let tick : t < 2 ^ 32 = omega arith in
    let later : is_expired t c.args.now ≡ false = sym c.if-is_expired.ensures in
    let armed : is_set t ≡ true = sym c.if-not-is_set.ensures in
    let same : c.self.inside.root ≡ q.root = ap (λ (x : Timers). x.root) c.self.view_is in
    let s'' : KeyedRoots = g.K.KeyedLists.seen c.insert.new.self in
    let back : s'' ≡ inserted_into q.root entry t s' = rw same at c.insert.ensures in
    inserts_back c.args.now entry q lists c.requires.fits c.stay_keyed.ensures n h s' out t tick armed s'' back
