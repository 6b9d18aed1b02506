-- Two events of different callers, both allowed now, may mostly come in either order.
use Rattle.std.proofs.Common.{◌≡◌, ◌≢◌, ℕ, ◌<◌, inl, inr, Bool, true, false, if◌then◌else◌, refl, sym, ap, subst, ◌∙◌, arith}
use Rattle.sched_base.specs.declared.names.CallerId.{CallerId}
use Rattle.task_machine.specs.declared.task.Place.{Place}
use Rattle.task_machine.specs.declared.task.Place.TheVariants as places
use Rattle.task_machine.specs.declared.task.Seen.{Seen}
use Rattle.task_machine.specs.declared.task.TaskState.{TaskState}
use Rattle.task_machine.specs.Task.{is_busy, put, raised, woken, flagged}
use Rattle.task_machine.specs.Event.{Change, wakes, kills, takes, drops, retires, Event, apart, sees, posts, gets, misses, draws, Held, Allows, altered, next}
use Rattle.history_weave.specs.Rule.{is_quiet}
use Rattle.history_weave.proofs.Seens.{at, quiet_same}

-- event u of caller k and event v of caller j do not clash
abbrev pub Apart : CallerId → Event → CallerId → Event → Type 0
Apart k (sees x c) j (sees y d) = (is_quiet x c ≡ true) × (is_quiet y d ≡ true)
Apart k (posts b) j misses = b ≢ j.0
Apart k misses j (posts b) = b ≢ k.0
Apart k draws j draws = ⊥
Apart k u j v = Unit {0}

-- each is allowed behind the other, and both ways end in one state
pub record Swaps (w : ℕ) (k : CallerId) (u : Event) (j : CallerId) (v : Event) (t : TaskState) : Type 0 where
  pub behind : Allows w j v (next k u t)
  pub before : Allows w k u (next j v t)
  pub same : next j v (next k u t) ≡ next k u (next j v t)

abbrev Swap : ℕ → CallerId → Event → CallerId → Event → TaskState → Type 0
Swap w k u j v t =
    k.0 ≢ j.0 → Apart k u j v → Allows w k u t → Allows w j v t → Swaps w k u j v t

flip : (w : ℕ) (k : CallerId) (u : Event) (j : CallerId) (v : Event) (t : TaskState) → Swaps w j v k u t → Swaps w k u j v t
flip w k u j v t h = record { behind = h.before; before = h.behind; same = sym h.same }

pub ne_sym : (k j : CallerId) → k.0 ≢ j.0 → j.0 ≢ k.0
ne_sym k j h = λ e. h (sym e)

-- a property of a task that holds at the place where it is
pub at_place : (P : TaskState → Type 0) (t : TaskState) (p : Place) → t.place ≡ p → P (at p t.pending t.killed t.takes) → P t
at_place P t p e h = subst (λ (q : Place). P (at q t.pending t.killed t.takes)) (sym e) h

-- places that differ
pub hands_differ : (k j : CallerId) → k.0 ≢ j.0 → places.Hands k ≡ places.Hands j → ⊥
hands_differ k j ne e = let f : k ≡ j = cc in ne (ap (λ c. c.0) f)

pub boxes_differ : (b c : ℕ) → b ≢ c → places.Boxed b ≡ places.Boxed c → ⊥
boxes_differ b c ne e = let f : b ≡ c = cc in ne f

-- nobody else may run a task that is in hands, or one in a box
pub held_in_hands : (k j : CallerId) → k.0 ≢ j.0 → Held k (places.Hands j) → ⊥
held_in_hands k j ne h = elim h [ inl a ↦ hands_differ j k (ne_sym k j ne) a | inr d ↦ cc ]

pub held_in_box : (k : CallerId) (b : ℕ) → Held k (places.Boxed b) → ⊥
held_in_box k b h = elim h [ inl a ↦ cc | inr d ↦ cc ]

-- a look beside a post
look_post : (w : ℕ) (k : CallerId) (x : Seen) (c : Change) (j : CallerId) (b n : ℕ) (f : Bool) (m : ℕ) → k.0 ≢ j.0 → Allows w k (sees x c) (at (places.Hands j) n f m) → Swaps w k (sees x c) j (posts b) (at (places.Hands j) n f m)
look_post w k x (wakes g) j b n f m ne a = record { behind = refl; before = a; same = refl }
look_post w k x kills j b n f m ne a = record { behind = refl; before = a; same = refl }
look_post w k x takes j b n f m ne a = absurd (held_in_hands k j ne a.1)
look_post w k x drops j b n f m ne a = absurd (let h = a.1 in cc)
look_post w k x retires j b n f m ne a =
    absurd (elim a.1 [ inl held ↦ held_in_hands k j ne held | inr r ↦ cc ])

-- a look beside a get that takes the task
look_get : (w : ℕ) (k : CallerId) (x : Seen) (c : Change) (j : CallerId) (n : ℕ) (f : Bool) (m : ℕ) → j.0 < w → Allows w k (sees x c) (at (places.Boxed j.0) n f m) → Swaps w k (sees x c) j gets (at (places.Boxed j.0) n f m)
look_get w k x (wakes g) j n f m lt a = record { behind = (refl, lt); before = a; same = refl }
look_get w k x kills j n f m lt a = record { behind = (refl, lt); before = a; same = refl }
look_get w k x takes j n f m lt a = absurd (held_in_box k j.0 a.1)
look_get w k x drops j n f m lt a = absurd (let h = a.1 in cc)
look_get w k x retires j n f m lt a = absurd (elim a.1 [ inl held ↦ held_in_box k j.0 held | inr r ↦ cc ])

-- a look beside a draw
look_draw : (w : ℕ) (k : CallerId) (x : Seen) (c : Change) (j : CallerId) (n : ℕ) (f : Bool) (m : ℕ) → Allows w k (sees x c) (at (places.Boxed w) n f m) → Swaps w k (sees x c) j draws (at (places.Boxed w) n f m)
look_draw w k x (wakes g) j n f m a = record { behind = refl; before = a; same = refl }
look_draw w k x kills j n f m a = record { behind = refl; before = a; same = refl }
look_draw w k x takes j n f m a = absurd (held_in_box k w a.1)
look_draw w k x drops j n f m a = absurd (let h = a.1 in cc)
look_draw w k x retires j n f m a = absurd (elim a.1 [ inl held ↦ held_in_box k w held | inr r ↦ cc ])

-- no change by a look brings a task into a box
raised_box : (k : CallerId) (p : Place) (b : ℕ) → raised k p ≡ places.Boxed b → p ≡ places.Boxed b
raised_box k places.Rest b e = cc
raised_box k p b e = e

woken_box : (k : CallerId) (f : ℕ) (p : Place) (n : ℕ) (c : Bool) (m b : ℕ) → (woken k f (at p n c m)).place ≡ places.Boxed b → p ≡ places.Boxed b
woken_box k f places.Gone n c m b e = e
woken_box k f places.Rest n c m b e = raised_box k places.Rest b e
woken_box k f p n c m b e = e

flagged_box : (k : CallerId) (p : Place) (n : ℕ) (c : Bool) (m b : ℕ) → (flagged k (at p n c m)).place ≡ places.Boxed b → p ≡ places.Boxed b
flagged_box k places.Gone n c m b e = e
flagged_box k places.Rest n c m b e = raised_box k places.Rest b e
flagged_box k p n c m b e = e

drop_box : (k : CallerId) (busy : Bool) (t : TaskState) (b : ℕ) → (put (if busy then places.Hands k else places.Rest) t).place ≡ places.Boxed b → ⊥
drop_box k true t b e = cc
drop_box k false t b e = cc

pub altered_box : (k : CallerId) (c : Change) (t : TaskState) (b : ℕ) → (altered k c t).place ≡ places.Boxed b → t.place ≡ places.Boxed b
altered_box k (wakes f) t b e = woken_box k f t.place t.pending t.killed t.takes b e
altered_box k kills t b e = flagged_box k t.place t.pending t.killed t.takes b e
altered_box k takes t b e = cc
altered_box k drops t b e = absurd (drop_box k (is_busy t) t b e)
altered_box k retires t b e = cc

looks_swap : (w : ℕ) (k : CallerId) (x : Seen) (c : Change) (j : CallerId) (y : Seen) (d : Change) (t : TaskState) → Swap w k (sees x c) j (sees y d) t
looks_swap w k x c j y d t ne p a b =
    let e = quiet_same w k x c t a p.0 in
    let f = quiet_same w j y d t b p.1 in
    record { behind = rw e b; before = rw f a; same = ap (altered j d) e ∙ f ∙ sym (ap (altered k c) f ∙ e) }

look_post-swap : (w : ℕ) (k : CallerId) (x : Seen) (c : Change) (j : CallerId) (b : ℕ) (t : TaskState) → k.0 ≢ j.0 → Allows w k (sees x c) t → Allows w j (posts b) t → Swaps w k (sees x c) j (posts b) t
look_post-swap w k x c j b t ne a h =
    at_place (λ s. Allows w k (sees x c) s → Swaps w k (sees x c) j (posts b) s) t (places.Hands j) h (λ g. look_post w k x c j b t.pending t.killed t.takes ne g) a

look_get-swap : (w : ℕ) (k : CallerId) (x : Seen) (c : Change) (j : CallerId) (t : TaskState) → Allows w k (sees x c) t → Allows w j gets t → Swaps w k (sees x c) j gets t
look_get-swap w k x c j t a h =
    at_place (λ s. Allows w k (sees x c) s → Swaps w k (sees x c) j gets s) t (places.Boxed j.0) h.0 (λ g. look_get w k x c j t.pending t.killed t.takes h.1 g) a

look_draw-swap : (w : ℕ) (k : CallerId) (x : Seen) (c : Change) (j : CallerId) (t : TaskState) → Allows w k (sees x c) t → Allows w j draws t → Swaps w k (sees x c) j draws t
look_draw-swap w k x c j t a h =
    at_place (λ s. Allows w k (sees x c) s → Swaps w k (sees x c) j draws s) t (places.Boxed w) h (λ g. look_draw w k x c j t.pending t.killed t.takes g) a

look_miss-swap : (w : ℕ) (k : CallerId) (x : Seen) (c : Change) (j : CallerId) (t : TaskState) → Allows w k (sees x c) t → Allows w j misses t → Swaps w k (sees x c) j misses t
look_miss-swap w k x c j t a h =
    record { behind = (λ e. h.0 (altered_box k c t j.0 e), h.1); before = a; same = refl }

-- where the task is in two places at once, anything follows
pub two_places : {X : Type 0} (t : TaskState) (p q : Place) → t.place ≡ p → t.place ≡ q → (p ≡ q → ⊥) → X
two_places t p q h g ne = absurd (ne (sym h ∙ g))

pub swaps : (w : ℕ) (k : CallerId) (u : Event) (j : CallerId) (v : Event) (t : TaskState) → Swap w k u j v t
swaps w k apart j v t ne p a b = record { behind = b; before = tt; same = refl }
swaps w k (sees x c) j apart t ne p a b = record { behind = tt; before = a; same = refl }
swaps w k (sees x c) j (sees y d) t ne p a b = looks_swap w k x c j y d t ne p a b
swaps w k (sees x c) j (posts n) t ne p a b = look_post-swap w k x c j n t ne a b
swaps w k (sees x c) j gets t ne p a b = look_get-swap w k x c j t a b
swaps w k (sees x c) j misses t ne p a b = look_miss-swap w k x c j t a b
swaps w k (sees x c) j draws t ne p a b = look_draw-swap w k x c j t a b
swaps w k (posts n) j apart t ne p a b = record { behind = tt; before = a; same = refl }
swaps w k (posts n) j (sees y d) t ne p a b =
    flip w k (posts n) j (sees y d) t (look_post-swap w j y d k n t (ne_sym k j ne) b a)
swaps w k (posts n) j (posts o) t ne p a b =
    two_places t (places.Hands k) (places.Hands j) a b (hands_differ k j ne)
swaps w k (posts n) j gets t ne p a b =
    two_places t (places.Hands k) (places.Boxed j.0) a b.0 (λ e. cc)
swaps w k (posts n) j misses t ne p a b =
    record { behind = (boxes_differ n j.0 p, b.1); before = a; same = refl }
swaps w k (posts n) j draws t ne p a b =
    two_places t (places.Hands k) (places.Boxed w) a b (λ e. cc)
swaps w k gets j apart t ne p a b = record { behind = tt; before = a; same = refl }
swaps w k gets j (sees y d) t ne p a b = flip w k gets j (sees y d) t (look_get-swap w j y d k t b a)
swaps w k gets j (posts o) t ne p a b =
    two_places t (places.Boxed k.0) (places.Hands j) a.0 b (λ e. cc)
swaps w k gets j gets t ne p a b =
    two_places t (places.Boxed k.0) (places.Boxed j.0) a.0 b.0 (boxes_differ k.0 j.0 ne)
swaps w k gets j misses t ne p a b = record { behind = (λ e. cc, b.1); before = a; same = refl }
swaps w k gets j draws t ne p a b =
    two_places t (places.Boxed k.0) (places.Boxed w) a.0 b (boxes_differ k.0 w (let lt = a.1 in omega arith))
swaps w k misses j apart t ne p a b = record { behind = tt; before = a; same = refl }
swaps w k misses j (sees y d) t ne p a b = flip w k misses j (sees y d) t (look_miss-swap w j y d k t b a)
swaps w k misses j (posts o) t ne p a b =
    record { behind = b; before = (boxes_differ o k.0 p, a.1); same = refl }
swaps w k misses j gets t ne p a b = record { behind = b; before = (λ e. cc, a.1); same = refl }
swaps w k misses j misses t ne p a b = record { behind = b; before = a; same = refl }
swaps w k misses j draws t ne p a b = record { behind = b; before = (λ e. cc, a.1); same = refl }
swaps w k draws j apart t ne p a b = record { behind = tt; before = a; same = refl }
swaps w k draws j (sees y d) t ne p a b = flip w k draws j (sees y d) t (look_draw-swap w j y d k t b a)
swaps w k draws j (posts o) t ne p a b =
    two_places t (places.Boxed w) (places.Hands j) a b (λ e. cc)
swaps w k draws j gets t ne p a b =
    two_places t (places.Boxed w) (places.Boxed j.0) a b.0 (boxes_differ w j.0 (let lt = b.1 in omega arith))
swaps w k draws j misses t ne p a b = record { behind = (λ e. cc, b.1); before = a; same = refl }
swaps w k draws j draws t ne p a b = absurd p
