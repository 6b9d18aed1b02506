-- What calls see of a task never comes back once it has changed.
use Rattle.std.proofs.Common.{◌≡◌, ◌≢◌, ℕ, ◌+◌, ◌*◌, ◌<◌, ◌⊎◌, inl, inr, Bool, true, false, if◌then◌else◌, bit_or, refl, sym, ap, subst, ◌∙◌, arith, eqb-true}
use Rattle.std.proofs.lemmas.Bool.{cases_Bool, eqb-false}
use Rattle.std.proofs.lemmas.Nat.{le_or_l}
use Rattle.sched_base.specs.declared.names.CallerId.{CallerId}
use Rattle.task_machine.specs.declared.task.Place.{Place}
use Rattle.task_machine.specs.declared.task.Place.TheVariants as places
use Rattle.task_machine.specs.declared.task.Stand.{Stand}
use Rattle.task_machine.specs.declared.task.Stand.TheVariants as stands
use Rattle.task_machine.specs.declared.task.Seen.{Seen}
use Rattle.task_machine.specs.declared.task.Seen.TheVariants as views
use Rattle.task_machine.specs.declared.task.TaskState.{TaskState}
use Rattle.task_machine.specs.Task.{is_busy, put, seen_at, seen_of}
use Rattle.task_machine.specs.Step.{bit}
use Rattle.task_machine.specs.Event.{Change, wakes, kills, takes, drops, retires, Event, apart, sees, posts, gets, misses, draws, MayChange, Allows, altered, next}
use Rattle.history_weave.specs.Rule.{is_quiet}

-- a task with these parts
abbrev pub at : Place → ℕ → Bool → ℕ → TaskState
at p n b m = record { place = p; pending = n; killed = b; takes = m }

abbrev pub phase : Stand → ℕ
phase stands.Runs = 0
phase stands.Rest = 1
phase stands.Queued = 2

-- between two takes a task goes up in this rank
abbrev pub rank : Stand → ℕ → Bool → ℕ
rank st n b = 6 * n + (3 * bit b + phase st)

-- a task that was seen as x may be seen as y later, and not the other way round
abbrev pub After : Seen → Seen → Type 0
After views.Gone y = ⊥
After (views.Live st p b m) views.Gone = Unit {0}
After (views.Live st p b m) (views.Live su q c n) = (m < n) ⊎ ((m ≡ n) × (rank st p b < rank su q c))

pub After-never : (x : Seen) → After x x → ⊥
After-never views.Gone h = h
After-never (views.Live st p b m) h = elim h [ inl lt ↦ omega arith | inr eq ↦ omega arith ]

pub After-trans : (x y z : Seen) → After x y → After y z → After x z
After-trans views.Gone y z h g = absurd h
After-trans (views.Live st p b m) views.Gone z h g = absurd g
After-trans (views.Live st p b m) (views.Live su q c n) views.Gone h g = tt
After-trans (views.Live st p b m) (views.Live su q c n) (views.Live sv r d o) h g =
    elim h [
      | inl lt ↦ elim g [ inl lu ↦ inl (omega arith) | inr eu ↦ inl (omega arith) ]
      | inr eq ↦ elim g [ inl lu ↦ inl (omega arith) | inr eu ↦ inr (omega arith, omega arith) ]
    ]

bit-lt : (b : Bool) → bit b < 2
bit-lt true = omega arith
bit-lt false = omega arith

woken-loud : (k : CallerId) (f : ℕ) (p : Place) (n : ℕ) (b : Bool) (m : ℕ) → is_quiet (seen_of (at p n b m)) (wakes f) ≡ false → After (seen_of (at p n b m)) (seen_of (altered k (wakes f) (at p n b m)))
woken-loud k f places.Rest n b m h = inr (refl, omega (arith, le_or_l n f))
woken-loud k f (places.Hands j) n b m h =
    let ne : bit_or n f ≢ n = eqb-false (bit_or n f) n h in inr (refl, omega (arith, le_or_l n f))
woken-loud k f (places.Boxed c) n b m h =
    let ne : bit_or n f ≢ n = eqb-false (bit_or n f) n h in inr (refl, omega (arith, le_or_l n f))
woken-loud k f (places.Drawn j) n b m h =
    let ne : bit_or n f ≢ n = eqb-false (bit_or n f) n h in inr (refl, omega (arith, le_or_l n f))
woken-loud k f (places.Runs j) n b m h =
    let ne : bit_or n f ≢ n = eqb-false (bit_or n f) n h in inr (refl, omega (arith, le_or_l n f))
woken-loud k f places.Gone n b m h = cc

flagged-loud : (k : CallerId) (p : Place) (n : ℕ) (b : Bool) (m : ℕ) → is_quiet (seen_of (at p n b m)) kills ≡ false → After (seen_of (at p n b m)) (seen_of (altered k kills (at p n b m)))
flagged-loud k places.Rest n b m h = inr (refl, omega (arith, bit-lt b))
flagged-loud k (places.Hands j) n b m h = inr (refl, rw h (omega arith))
flagged-loud k (places.Boxed c) n b m h = inr (refl, rw h (omega arith))
flagged-loud k (places.Drawn j) n b m h = inr (refl, rw h (omega arith))
flagged-loud k (places.Runs j) n b m h = inr (refl, rw h (omega arith))
flagged-loud k places.Gone n b m h = cc

taken-after : (k : CallerId) (p : Place) (n : ℕ) (b : Bool) (m : ℕ) → MayChange k takes p → After (seen_of (at p n b m)) (seen_of (altered k takes (at p n b m)))
taken-after k (places.Hands j) n b m h = inl (omega arith)
taken-after k (places.Drawn j) n b m h = inl (omega arith)
taken-after k p n b m h = elim h [ inl a ↦ cc | inr d ↦ cc ]

drop_to : (k : CallerId) (busy : Bool) (j : CallerId) (n : ℕ) (b : Bool) (m : ℕ) → After (views.Live stands.Runs n b m) (seen_of (put (if busy then places.Hands k else places.Rest) (at (places.Runs j) n b m)))
drop_to k true j n b m = inr (refl, omega arith)
drop_to k false j n b m = inr (refl, omega arith)

dropped-after : (k : CallerId) (p : Place) (n : ℕ) (b : Bool) (m : ℕ) → MayChange k drops p → After (seen_of (at p n b m)) (seen_of (altered k drops (at p n b m)))
dropped-after k (places.Runs j) n b m h = drop_to k (is_busy (at (places.Runs j) n b m)) j n b m
dropped-after k p n b m h = cc

retired-after : (k : CallerId) (p : Place) (n : ℕ) (b : Bool) (m : ℕ) → MayChange k retires p → After (seen_of (at p n b m)) (seen_of (altered k retires (at p n b m)))
retired-after k places.Gone n b m h = elim h [ inl held ↦ elim held [ inl a ↦ cc | inr d ↦ cc ] | inr r ↦ cc ]
retired-after k places.Rest n b m h = tt
retired-after k p n b m h = tt

loud-at : (k : CallerId) (c : Change) (t : TaskState) → MayChange k c t.place → is_quiet (seen_of t) c ≡ false → After (seen_of t) (seen_of (altered k c t))
loud-at k (wakes f) t may h = woken-loud k f t.place t.pending t.killed t.takes h
loud-at k kills t may h = flagged-loud k t.place t.pending t.killed t.takes h
loud-at k takes t may h = taken-after k t.place t.pending t.killed t.takes may
loud-at k drops t may h = dropped-after k t.place t.pending t.killed t.takes may
loud-at k retires t may h = retired-after k t.place t.pending t.killed t.takes may

-- a call that is allowed and changes something leads on
pub loud_after : (w : ℕ) (k : CallerId) (x : Seen) (c : Change) (t : TaskState) → Allows w k (sees x c) t → is_quiet x c ≡ false → After x (seen_of (altered k c t))
loud_after w k x c t a h =
    let h' : is_quiet (seen_of t) c ≡ false = rw a.0 h in
    subst (λ (y : Seen). After y (seen_of (altered k c t))) a.0 (loud-at k c t a.1 h')

woken-quiet : (k : CallerId) (f : ℕ) (p : Place) (n : ℕ) (b : Bool) (m : ℕ) → is_quiet (seen_of (at p n b m)) (wakes f) ≡ true → altered k (wakes f) (at p n b m) ≡ at p n b m
woken-quiet k f places.Rest n b m h = cc
woken-quiet k f (places.Hands j) n b m h = ap (λ v. at (places.Hands j) v b m) (eqb-true (bit_or n f) n h)
woken-quiet k f (places.Boxed c) n b m h = ap (λ v. at (places.Boxed c) v b m) (eqb-true (bit_or n f) n h)
woken-quiet k f (places.Drawn j) n b m h = ap (λ v. at (places.Drawn j) v b m) (eqb-true (bit_or n f) n h)
woken-quiet k f (places.Runs j) n b m h = ap (λ v. at (places.Runs j) v b m) (eqb-true (bit_or n f) n h)
woken-quiet k f places.Gone n b m h = refl

flagged-quiet : (k : CallerId) (p : Place) (n : ℕ) (b : Bool) (m : ℕ) → is_quiet (seen_of (at p n b m)) kills ≡ true → altered k kills (at p n b m) ≡ at p n b m
flagged-quiet k places.Rest n b m h = cc
flagged-quiet k (places.Hands j) n b m h = ap (λ v. at (places.Hands j) n v m) (sym h)
flagged-quiet k (places.Boxed c) n b m h = ap (λ v. at (places.Boxed c) n v m) (sym h)
flagged-quiet k (places.Drawn j) n b m h = ap (λ v. at (places.Drawn j) n v m) (sym h)
flagged-quiet k (places.Runs j) n b m h = ap (λ v. at (places.Runs j) n v m) (sym h)
flagged-quiet k places.Gone n b m h = refl

taken-loud : (k : CallerId) (p : Place) (n : ℕ) (b : Bool) (m : ℕ) → MayChange k takes p → is_quiet (seen_of (at p n b m)) takes ≡ true → ⊥
taken-loud k (places.Hands j) n b m may h = cc
taken-loud k (places.Drawn j) n b m may h = cc
taken-loud k p n b m may h = elim may [ inl a ↦ cc | inr d ↦ cc ]

dropped-loud : (k : CallerId) (p : Place) (n : ℕ) (b : Bool) (m : ℕ) → MayChange k drops p → is_quiet (seen_of (at p n b m)) drops ≡ true → ⊥
dropped-loud k (places.Runs j) n b m may h = cc
dropped-loud k p n b m may h = cc

retired-loud : (k : CallerId) (p : Place) (n : ℕ) (b : Bool) (m : ℕ) → MayChange k retires p → is_quiet (seen_of (at p n b m)) retires ≡ true → ⊥
retired-loud k places.Gone n b m may h = elim may [ inl held ↦ elim held [ inl a ↦ cc | inr d ↦ cc ] | inr r ↦ cc ]
retired-loud k places.Rest n b m may h = cc
retired-loud k p n b m may h = cc

quiet-at : (k : CallerId) (c : Change) (t : TaskState) → MayChange k c t.place → is_quiet (seen_of t) c ≡ true → altered k c t ≡ t
quiet-at k (wakes f) t may h = woken-quiet k f t.place t.pending t.killed t.takes h
quiet-at k kills t may h = flagged-quiet k t.place t.pending t.killed t.takes h
quiet-at k takes t may h = absurd (taken-loud k t.place t.pending t.killed t.takes may h)
quiet-at k drops t may h = absurd (dropped-loud k t.place t.pending t.killed t.takes may h)
quiet-at k retires t may h = absurd (retired-loud k t.place t.pending t.killed t.takes may h)

-- a call that is allowed and is to change nothing changes nothing
pub quiet_same : (w : ℕ) (k : CallerId) (x : Seen) (c : Change) (t : TaskState) → Allows w k (sees x c) t → is_quiet x c ≡ true → altered k c t ≡ t
quiet_same w k x c t a h = let h' : is_quiet (seen_of t) c ≡ true = rw a.0 h in quiet-at k c t a.1 h'

pub moved-seen : (t : TaskState) (p q : Place) → t.place ≡ p → seen_of (put q t) ≡ seen_at p t → seen_of (put q t) ≡ seen_of t
moved-seen t p q h e = e ∙ ap (λ v. seen_at v t) (sym h)

-- an event that is allowed leaves what calls see, or leads on
pub settles : (w : ℕ) (k : CallerId) (v : Event) (t : TaskState) → Allows w k v t → (seen_of (next k v t) ≡ seen_of t) ⊎ After (seen_of t) (seen_of (next k v t))
settles w k apart t a = inl refl
settles w k (sees x c) t a =
    elim (cases_Bool (is_quiet x c)) [
      | inl quiet ↦ inl (ap seen_of (quiet_same w k x c t a quiet))
      | inr loud ↦ inr (rw a.0 (loud_after w k x c t a loud))
    ]
settles w k (posts b) t a = inl (moved-seen t (places.Hands k) (places.Boxed b) a refl)
settles w k gets t a = inl (moved-seen t (places.Boxed k.0) (places.Hands k) a.0 refl)
settles w k misses t a = inl refl
settles w k draws t a = inl (moved-seen t (places.Boxed w) (places.Drawn k) a refl)

-- what was past stays past
pub After-kept : (w : ℕ) (k : CallerId) (v : Event) (t : TaskState) (x : Seen) → Allows w k v t → After x (seen_of t) → After x (seen_of (next k v t))
After-kept w k v t x a h =
    elim (settles w k v t a) [
      | inl same ↦ rw same h
      | inr on ↦ After-trans x (seen_of t) (seen_of (next k v t)) h on
    ]
