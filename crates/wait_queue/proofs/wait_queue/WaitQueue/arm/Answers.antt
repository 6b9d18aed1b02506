use Rattle.std.proofs.Common.{◌≡◌, ◌<◌, ◌^◌, ℕ, true, get_or, pos, arith, refl, sym, ap}
use Rattle.std.specs.Prelude.{int_lt}
use Rattle.sched_base.specs.KeyedList.{KeyedRoots, inserted_into, deleted_from}
use Rattle.queue_model.specs.Ticks.{distance, is_set}
use Rattle.wait_queue.specs.Timers.{Timers, entry_of}
use Rattle.wait_queue.proofs.Meaning.{absent_task, free_task, expiry_is, present_task, arms_absent, fits_absent, fits_between, free_between, arms_earlier, fits_earlier, changes_earlier, inserts_between, inserts_earlier, entry_exists}
use Rattle.wait_queue.proofs.wait_queue.WaitQueue.arm.Goals as goal

pub insert-requires-clause-free : goal.insert-requires-clause-free
insert-requires-clause-free g c =
    let lists : KeyedRoots = g.K.KeyedLists.seen c.args.lists.now in
    free_task c.args.self.now lists c.requires.fits c.args.id.0 c.requires.exists (absent_task c.args.now c.args.id.0 c.args.self.now lists c.requires.fits c.stay_keyed.ensures (c.in_default.ensures c.args.now))

pub returns-in_default-clause-list : goal.returns-in_default-clause-list
returns-in_default-clause-list g c =
    let q : Timers = c.args.self.now in
    let i : ℕ = c.args.id.0 in
    let t : ℕ = c.index-expiry.result.now in
    let lists : KeyedRoots = g.K.KeyedLists.seen c.args.lists.now in
    let same : c.self.inside.root ≡ q.root = ap (λ (x : Timers). x.root) c.self.view_is in
    let n : c.args.now < 2 ^ 32 = omega arith in
    let tick : t < 2 ^ 32 = omega arith in
    let is : t ≡ get_or q.expiries i 0 = expiry_is q c.self.inside.root c.self.inside.expiries.items i t c.self.view_is c.requires.exists c.index-expiry.ensures in
    let armed' : is_set t ≡ true = sym c.if-not-is_set.ensures in
    let after : KeyedRoots = g.K.KeyedLists.seen c.insert.new.self in
    let none = c.in_default.ensures c.args.now in
    let e : after ≡ inserted_into q.root (entry_of i) t lists = rw same at c.insert.ensures in
    arms_absent c.args.now i t q lists after c.requires.fits c.stay_keyed.ensures c.requires.exists n tick is armed' none e

pub returns-in_default-clause-fits : goal.returns-in_default-clause-fits
returns-in_default-clause-fits g c =
    let q : Timers = c.args.self.now in
    let i : ℕ = c.args.id.0 in
    let t : ℕ = c.index-expiry.result.now in
    let lists : KeyedRoots = g.K.KeyedLists.seen c.args.lists.now in
    let same : c.self.inside.root ≡ q.root = ap (λ (x : Timers). x.root) c.self.view_is in
    let n : c.args.now < 2 ^ 32 = omega arith in
    let tick : t < 2 ^ 32 = omega arith in
    let is : t ≡ get_or q.expiries i 0 = expiry_is q c.self.inside.root c.self.inside.expiries.items i t c.self.view_is c.requires.exists c.index-expiry.ensures in
    let armed' : is_set t ≡ true = sym c.if-not-is_set.ensures in
    let after : KeyedRoots = g.K.KeyedLists.seen c.insert.new.self in
    let none = c.in_default.ensures c.args.now in
    let e : after ≡ inserted_into q.root (entry_of i) t lists = rw same at c.insert.ensures in
    fits_absent c.args.now i t q lists after c.requires.fits c.stay_keyed.ensures c.requires.exists n tick is armed' none e

pub delete-requires : goal.delete-requires
delete-requires g c =
    let p = present_task c.args.now c.args.id.0 c.in-Some.key c.args.self.now (g.K.KeyedLists.seen c.args.lists.now) c.requires.fits c.stay_keyed.ensures (c.in-Some.ensures c.args.now) in
    (c.args.self.now.root, p.stands)

pub insert-requires-2-clause-root_exists : goal.insert-requires-2-clause-root_exists
insert-requires-2-clause-root_exists g c =
    let q : Timers = c.args.self.now in
    let i : ℕ = c.args.id.0 in
    let t : ℕ = c.index-expiry.result.now in
    let lists : KeyedRoots = g.K.KeyedLists.seen c.args.lists.now in
    let key : ℕ = c.in-Some.key in
    let between : KeyedRoots = g.K.KeyedLists.seen c.delete.new.self in
    let same : c.self.inside.root ≡ q.root = ap (λ (x : Timers). x.root) c.self.view_is in
    let n : c.args.now < 2 ^ 32 = omega arith in
    let tick : t < 2 ^ 32 = omega arith in
    let is : t ≡ get_or q.expiries i 0 = expiry_is q c.self.inside.root c.self.inside.expiries.items i t c.self.view_is c.requires.exists c.index-expiry.ensures in
    let armed' : is_set t ≡ true = sym c.if-not-is_set.ensures in
    let some = c.in-Some.ensures c.args.now in
    let earlier : int_lt (distance t key) (pos 0) ≡ true = sym c.if-not-is_lt.ensures in
    let p = present_task c.args.now i key q lists c.requires.fits c.stay_keyed.ensures some in
    let e : between ≡ deleted_from q.root (entry_of i) lists = c.delete.ensures q.root p.stands in
    let after : KeyedRoots = inserted_into q.root (entry_of i) t between in
    let f = fits_between c.args.now i t key q lists between after c.requires.fits c.stay_keyed.ensures c.requires.exists n tick is armed' some earlier e refl in
    rw same f.exists

pub insert-requires-2-clause-entry_exists : goal.insert-requires-2-clause-entry_exists
insert-requires-2-clause-entry_exists g c =
    let q : Timers = c.args.self.now in
    let i : ℕ = c.args.id.0 in
    let t : ℕ = c.index-expiry.result.now in
    let lists : KeyedRoots = g.K.KeyedLists.seen c.args.lists.now in
    let key : ℕ = c.in-Some.key in
    let between : KeyedRoots = g.K.KeyedLists.seen c.delete.new.self in
    let same : c.self.inside.root ≡ q.root = ap (λ (x : Timers). x.root) c.self.view_is in
    let n : c.args.now < 2 ^ 32 = omega arith in
    let tick : t < 2 ^ 32 = omega arith in
    let is : t ≡ get_or q.expiries i 0 = expiry_is q c.self.inside.root c.self.inside.expiries.items i t c.self.view_is c.requires.exists c.index-expiry.ensures in
    let armed' : is_set t ≡ true = sym c.if-not-is_set.ensures in
    let some = c.in-Some.ensures c.args.now in
    let earlier : int_lt (distance t key) (pos 0) ≡ true = sym c.if-not-is_lt.ensures in
    let p = present_task c.args.now i key q lists c.requires.fits c.stay_keyed.ensures some in
    let e : between ≡ deleted_from q.root (entry_of i) lists = c.delete.ensures q.root p.stands in
    let after : KeyedRoots = inserted_into q.root (entry_of i) t between in
    let f = fits_between c.args.now i t key q lists between after c.requires.fits c.stay_keyed.ensures c.requires.exists n tick is armed' some earlier e refl in
    entry_exists q between f i c.requires.exists

pub insert-requires-2-clause-free : goal.insert-requires-2-clause-free
insert-requires-2-clause-free g c =
    let q : Timers = c.args.self.now in
    let i : ℕ = c.args.id.0 in
    let t : ℕ = c.index-expiry.result.now in
    let lists : KeyedRoots = g.K.KeyedLists.seen c.args.lists.now in
    let key : ℕ = c.in-Some.key in
    let between : KeyedRoots = g.K.KeyedLists.seen c.delete.new.self in
    let same : c.self.inside.root ≡ q.root = ap (λ (x : Timers). x.root) c.self.view_is in
    let n : c.args.now < 2 ^ 32 = omega arith in
    let tick : t < 2 ^ 32 = omega arith in
    let is : t ≡ get_or q.expiries i 0 = expiry_is q c.self.inside.root c.self.inside.expiries.items i t c.self.view_is c.requires.exists c.index-expiry.ensures in
    let armed' : is_set t ≡ true = sym c.if-not-is_set.ensures in
    let some = c.in-Some.ensures c.args.now in
    let earlier : int_lt (distance t key) (pos 0) ≡ true = sym c.if-not-is_lt.ensures in
    let p = present_task c.args.now i key q lists c.requires.fits c.stay_keyed.ensures some in
    let e : between ≡ deleted_from q.root (entry_of i) lists = c.delete.ensures q.root p.stands in
    let after : KeyedRoots = inserted_into q.root (entry_of i) t between in
    let f = fits_between c.args.now i t key q lists between after c.requires.fits c.stay_keyed.ensures c.requires.exists n tick is armed' some earlier e refl in
    free_task q between f i c.requires.exists (free_between c.args.now i t key q lists between after c.requires.fits c.stay_keyed.ensures c.requires.exists n tick is armed' some earlier e refl)

pub insert-requires-2-clause-room : goal.insert-requires-2-clause-room
insert-requires-2-clause-room g c =
    let q : Timers = c.args.self.now in
    let i : ℕ = c.args.id.0 in
    let t : ℕ = c.index-expiry.result.now in
    let lists : KeyedRoots = g.K.KeyedLists.seen c.args.lists.now in
    let key : ℕ = c.in-Some.key in
    let between : KeyedRoots = g.K.KeyedLists.seen c.delete.new.self in
    let same : c.self.inside.root ≡ q.root = ap (λ (x : Timers). x.root) c.self.view_is in
    let n : c.args.now < 2 ^ 32 = omega arith in
    let tick : t < 2 ^ 32 = omega arith in
    let is : t ≡ get_or q.expiries i 0 = expiry_is q c.self.inside.root c.self.inside.expiries.items i t c.self.view_is c.requires.exists c.index-expiry.ensures in
    let armed' : is_set t ≡ true = sym c.if-not-is_set.ensures in
    let some = c.in-Some.ensures c.args.now in
    let earlier : int_lt (distance t key) (pos 0) ≡ true = sym c.if-not-is_lt.ensures in
    let p = present_task c.args.now i key q lists c.requires.fits c.stay_keyed.ensures some in
    let e : between ≡ deleted_from q.root (entry_of i) lists = c.delete.ensures q.root p.stands in
    let after : KeyedRoots = inserted_into q.root (entry_of i) t between in
    let f = fits_between c.args.now i t key q lists between after c.requires.fits c.stay_keyed.ensures c.requires.exists n tick is armed' some earlier e refl in
    let count = inserts_between c.args.now i t key q lists between after c.requires.fits c.stay_keyed.ensures c.requires.exists n tick is armed' some earlier e refl in
    rw (same, count) c.requires.room

pub returns-clause-list : goal.returns-clause-list
returns-clause-list g c =
    let q : Timers = c.args.self.now in
    let i : ℕ = c.args.id.0 in
    let t : ℕ = c.index-expiry.result.now in
    let lists : KeyedRoots = g.K.KeyedLists.seen c.args.lists.now in
    let key : ℕ = c.in-Some.key in
    let between : KeyedRoots = g.K.KeyedLists.seen c.delete.new.self in
    let same : c.self.inside.root ≡ q.root = ap (λ (x : Timers). x.root) c.self.view_is in
    let n : c.args.now < 2 ^ 32 = omega arith in
    let tick : t < 2 ^ 32 = omega arith in
    let is : t ≡ get_or q.expiries i 0 = expiry_is q c.self.inside.root c.self.inside.expiries.items i t c.self.view_is c.requires.exists c.index-expiry.ensures in
    let armed' : is_set t ≡ true = sym c.if-not-is_set.ensures in
    let some = c.in-Some.ensures c.args.now in
    let earlier : int_lt (distance t key) (pos 0) ≡ true = sym c.if-not-is_lt.ensures in
    let p = present_task c.args.now i key q lists c.requires.fits c.stay_keyed.ensures some in
    let e : between ≡ deleted_from q.root (entry_of i) lists = c.delete.ensures q.root p.stands in
    let after : KeyedRoots = g.K.KeyedLists.seen c.insert-2.new.self in
    let e' : after ≡ inserted_into q.root (entry_of i) t between = rw same at c.insert-2.ensures in
    arms_earlier c.args.now i t key q lists between after c.requires.fits c.stay_keyed.ensures c.requires.exists n tick is armed' some earlier e e'

pub returns-clause-fits : goal.returns-clause-fits
returns-clause-fits g c =
    let q : Timers = c.args.self.now in
    let i : ℕ = c.args.id.0 in
    let t : ℕ = c.index-expiry.result.now in
    let lists : KeyedRoots = g.K.KeyedLists.seen c.args.lists.now in
    let key : ℕ = c.in-Some.key in
    let between : KeyedRoots = g.K.KeyedLists.seen c.delete.new.self in
    let same : c.self.inside.root ≡ q.root = ap (λ (x : Timers). x.root) c.self.view_is in
    let n : c.args.now < 2 ^ 32 = omega arith in
    let tick : t < 2 ^ 32 = omega arith in
    let is : t ≡ get_or q.expiries i 0 = expiry_is q c.self.inside.root c.self.inside.expiries.items i t c.self.view_is c.requires.exists c.index-expiry.ensures in
    let armed' : is_set t ≡ true = sym c.if-not-is_set.ensures in
    let some = c.in-Some.ensures c.args.now in
    let earlier : int_lt (distance t key) (pos 0) ≡ true = sym c.if-not-is_lt.ensures in
    let p = present_task c.args.now i key q lists c.requires.fits c.stay_keyed.ensures some in
    let e : between ≡ deleted_from q.root (entry_of i) lists = c.delete.ensures q.root p.stands in
    let after : KeyedRoots = g.K.KeyedLists.seen c.insert-2.new.self in
    let e' : after ≡ inserted_into q.root (entry_of i) t between = rw same at c.insert-2.ensures in
    fits_earlier c.args.now i t key q lists between after c.requires.fits c.stay_keyed.ensures c.requires.exists n tick is armed' some earlier e e'

pub returns-clause-others : goal.returns-clause-others
returns-clause-others g c =
    let q : Timers = c.args.self.now in
    let i : ℕ = c.args.id.0 in
    let t : ℕ = c.index-expiry.result.now in
    let lists : KeyedRoots = g.K.KeyedLists.seen c.args.lists.now in
    let key : ℕ = c.in-Some.key in
    let between : KeyedRoots = g.K.KeyedLists.seen c.delete.new.self in
    let same : c.self.inside.root ≡ q.root = ap (λ (x : Timers). x.root) c.self.view_is in
    let n : c.args.now < 2 ^ 32 = omega arith in
    let tick : t < 2 ^ 32 = omega arith in
    let is : t ≡ get_or q.expiries i 0 = expiry_is q c.self.inside.root c.self.inside.expiries.items i t c.self.view_is c.requires.exists c.index-expiry.ensures in
    let armed' : is_set t ≡ true = sym c.if-not-is_set.ensures in
    let some = c.in-Some.ensures c.args.now in
    let earlier : int_lt (distance t key) (pos 0) ≡ true = sym c.if-not-is_lt.ensures in
    let p = present_task c.args.now i key q lists c.requires.fits c.stay_keyed.ensures some in
    let e : between ≡ deleted_from q.root (entry_of i) lists = c.delete.ensures q.root p.stands in
    let after : KeyedRoots = g.K.KeyedLists.seen c.insert-2.new.self in
    let e' : after ≡ inserted_into q.root (entry_of i) t between = rw same at c.insert-2.ensures in
    changes_earlier c.args.now i t key q lists between after c.requires.fits c.stay_keyed.ensures c.requires.exists n tick is armed' some earlier e e'

pub returns-clause-insertions : goal.returns-clause-insertions
returns-clause-insertions g c =
    let q : Timers = c.args.self.now in
    let i : ℕ = c.args.id.0 in
    let t : ℕ = c.index-expiry.result.now in
    let lists : KeyedRoots = g.K.KeyedLists.seen c.args.lists.now in
    let key : ℕ = c.in-Some.key in
    let between : KeyedRoots = g.K.KeyedLists.seen c.delete.new.self in
    let same : c.self.inside.root ≡ q.root = ap (λ (x : Timers). x.root) c.self.view_is in
    let n : c.args.now < 2 ^ 32 = omega arith in
    let tick : t < 2 ^ 32 = omega arith in
    let is : t ≡ get_or q.expiries i 0 = expiry_is q c.self.inside.root c.self.inside.expiries.items i t c.self.view_is c.requires.exists c.index-expiry.ensures in
    let armed' : is_set t ≡ true = sym c.if-not-is_set.ensures in
    let some = c.in-Some.ensures c.args.now in
    let earlier : int_lt (distance t key) (pos 0) ≡ true = sym c.if-not-is_lt.ensures in
    let p = present_task c.args.now i key q lists c.requires.fits c.stay_keyed.ensures some in
    let e : between ≡ deleted_from q.root (entry_of i) lists = c.delete.ensures q.root p.stands in
    let after : KeyedRoots = g.K.KeyedLists.seen c.insert-2.new.self in
    let e' : after ≡ inserted_into q.root (entry_of i) t between = rw same at c.insert-2.ensures in
    inserts_earlier c.args.now i t key q lists between after c.requires.fits c.stay_keyed.ensures c.requires.exists n tick is armed' some earlier e e'
