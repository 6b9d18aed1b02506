-- What a caller's own call does to its hands, runs and draws.
use Rattle.std.proofs.Common.{◌≡◌, ℕ, ◌+◌, ◌≤◌, Bool, true, false, ◌||◌, ◌==◌, if◌then◌else◌, refl, sym, ap, ◌∙◌, arith, eqb-true, eq-eqb}
use Rattle.sched_base.specs.declared.names.CallerId.{CallerId}
use Rattle.sched_base.specs.declared.names.TaskId.{TaskId}
use Rattle.task_machine.specs.declared.task.Place.{Place}
use Rattle.task_machine.specs.declared.task.Place.TheVariants as places
use Rattle.task_machine.specs.declared.task.TaskState.{TaskState}
use Rattle.task_machine.specs.declared.calls.Call.{Call}
use Rattle.task_machine.specs.declared.calls.Call.TheVariants as calls
use Rattle.task_machine.specs.declared.calls.Reply.{Reply}
use Rattle.task_machine.specs.declared.calls.Reply.TheVariants.{Task}
use Rattle.task_machine.specs.Task.{is_busy, in_hands, in_draw, in_run, seen_at, seen_of, raised}
use Rattle.task_machine.specs.Step.{State, task_at, subject, bit, Allowed}
use Rattle.task_machine.specs.History.{stepped}
use Rattle.run_model.specs.Replies.{is_rest, is_killed, has_reasons}
use Rattle.turn_steps.specs.Has.{said}
use Rattle.standing.specs.Places.{held, ran, drawn_to}
use Rattle.standing.proofs.Effects.{by_step, fits_about, place-woken, place-flagged, apart-boxed}

-- a call that gives its task something to run for
abbrev pub raises : Call → Bool
raises (calls.Wake i f) = true
raises (calls.Kill i) = true
raises c = false

-- how a caller comes to have a task in hand that it raises
held_raised : (k : CallerId) (p : Place) (t : TaskState) → bit (in_hands k (raised k p)) ≡ bit (in_hands k p) + (if is_rest (Task (seen_at p t)) then 1 else 0)
held_raised k places.Rest t = ap bit (eq-eqb k.0 k.0 refl)
held_raised k (places.Hands j) t = omega arith
held_raised k (places.Boxed b) t = refl
held_raised k (places.Drawn j) t = refl
held_raised k (places.Runs j) t = refl
held_raised k places.Gone t = refl

ran_raised : (k : CallerId) (p : Place) → in_run k (raised k p) ≡ in_run k p
ran_raised k places.Rest = refl
ran_raised k (places.Hands j) = refl
ran_raised k (places.Boxed b) = refl
ran_raised k (places.Drawn j) = refl
ran_raised k (places.Runs j) = refl
ran_raised k places.Gone = refl

drawn_raised : (k : CallerId) (p : Place) → in_draw k (raised k p) ≡ in_draw k p
drawn_raised k places.Rest = refl
drawn_raised k (places.Hands j) = refl
drawn_raised k (places.Boxed b) = refl
drawn_raised k (places.Drawn j) = refl
drawn_raised k (places.Runs j) = refl
drawn_raised k places.Gone = refl

if_one : (b : Bool) (n : ℕ) → n ≡ 1 → (if b then n else 0) ≡ (if b then 1 else 0)
if_one true n e = e
if_one false n e = refl

if_none : (b : Bool) (n : ℕ) → n ≡ 0 → (if b then n else 0) ≡ 0
if_none true n e = e
if_none false n e = refl

-- a caller has what it raised where the call saw it at rest
raised_here : (s : State) (k : CallerId) (i j : ℕ) (r : Reply) → r ≡ Task (seen_of (task_at s j)) → (i == j) ≡ true → bit (in_hands k (raised k (task_at s i).place)) ≡ held k s i + (if is_rest r then bit (i == j) else 0)
raised_here s k i j r e h =
    let same : i ≡ j = eqb-true i j h in
    rw (e, h, ← same) (held_raised k (task_at s i).place (task_at s i))

raised_apart : (n i j : ℕ) (rest : Bool) → (i == j) ≡ false → n ≡ n + (if rest then bit (i == j) else 0)
raised_apart n i j rest h = omega (arith, if_none rest (bit (i == j)) (ap bit h))

pub held-raise : (s : State) (k : CallerId) (c : Call) (r : Reply) (i : ℕ) → raises c ≡ true → Allowed s (said k c r) → held k (stepped s (said k c r)) i ≡ held k s i + (if is_rest r then bit (i == subject c) else 0)
held-raise s k (calls.Wake j f) r i h a =
    by_step s (said k (calls.Wake j f) r) i (λ t. bit (in_hands k t.place) ≡ held k s i + (if is_rest r then bit (i == j.0) else 0)) a (λ e. rw (place-woken k f (task_at s i)) (raised_here s k i j.0 r a.reply e)) (λ e. raised_apart (held k s i) i j.0 (is_rest r) e)
held-raise s k (calls.Kill j) r i h a =
    by_step s (said k (calls.Kill j) r) i (λ t. bit (in_hands k t.place) ≡ held k s i + (if is_rest r then bit (i == j.0) else 0)) a (λ e. rw (place-flagged k (task_at s i)) (raised_here s k i j.0 r a.reply e)) (λ e. raised_apart (held k s i) i j.0 (is_rest r) e)
held-raise s k (calls.Post j b) r i h a = cc
held-raise s k (calls.Get g) r i h a = cc
held-raise s k (calls.Draw j) r i h a = cc
held-raise s k (calls.Take j) r i h a = cc
held-raise s k (calls.DropRun j) r i h a = cc
held-raise s k (calls.Retire j) r i h a = cc

pub ran-raise : (s : State) (k : CallerId) (c : Call) (r : Reply) (i : ℕ) → raises c ≡ true → Allowed s (said k c r) → ran k (stepped s (said k c r)) i ≡ ran k s i
ran-raise s k (calls.Wake j f) r i h a =
    by_step s (said k (calls.Wake j f) r) i (λ t. bit (in_run k t.place) ≡ ran k s i) a (λ e. rw (place-woken k f (task_at s i)) (ap bit (ran_raised k (task_at s i).place))) (λ e. refl)
ran-raise s k (calls.Kill j) r i h a =
    by_step s (said k (calls.Kill j) r) i (λ t. bit (in_run k t.place) ≡ ran k s i) a (λ e. rw (place-flagged k (task_at s i)) (ap bit (ran_raised k (task_at s i).place))) (λ e. refl)
ran-raise s k (calls.Post j b) r i h a = cc
ran-raise s k (calls.Get g) r i h a = cc
ran-raise s k (calls.Draw j) r i h a = cc
ran-raise s k (calls.Take j) r i h a = cc
ran-raise s k (calls.DropRun j) r i h a = cc
ran-raise s k (calls.Retire j) r i h a = cc

pub drawn-raise : (s : State) (k : CallerId) (c : Call) (r : Reply) (i : ℕ) → raises c ≡ true → Allowed s (said k c r) → drawn_to k (stepped s (said k c r)) i ≡ drawn_to k s i
drawn-raise s k (calls.Wake j f) r i h a =
    by_step s (said k (calls.Wake j f) r) i (λ t. bit (in_draw k t.place) ≡ drawn_to k s i) a (λ e. rw (place-woken k f (task_at s i)) (ap bit (drawn_raised k (task_at s i).place))) (λ e. refl)
drawn-raise s k (calls.Kill j) r i h a =
    by_step s (said k (calls.Kill j) r) i (λ t. bit (in_draw k t.place) ≡ drawn_to k s i) a (λ e. rw (place-flagged k (task_at s i)) (ap bit (drawn_raised k (task_at s i).place))) (λ e. refl)
drawn-raise s k (calls.Post j b) r i h a = cc
drawn-raise s k (calls.Get g) r i h a = cc
drawn-raise s k (calls.Draw j) r i h a = cc
drawn-raise s k (calls.Take j) r i h a = cc
drawn-raise s k (calls.DropRun j) r i h a = cc
drawn-raise s k (calls.Retire j) r i h a = cc

-- a place is one of a caller's at most
pub only_held : (k : CallerId) (p : Place) → in_hands k p ≡ true → (in_draw k p ≡ false) × (in_run k p ≡ false)
only_held k places.Rest h = cc
only_held k (places.Hands j) h = (refl, refl)
only_held k (places.Boxed b) h = cc
only_held k (places.Drawn j) h = cc
only_held k (places.Runs j) h = cc
only_held k places.Gone h = cc

pub only_drawn : (k : CallerId) (p : Place) → in_draw k p ≡ true → (in_hands k p ≡ false) × (in_run k p ≡ false)
only_drawn k places.Rest h = cc
only_drawn k (places.Hands j) h = cc
only_drawn k (places.Boxed b) h = cc
only_drawn k (places.Drawn j) h = (refl, refl)
only_drawn k (places.Runs j) h = cc
only_drawn k places.Gone h = cc

pub only_run : (k : CallerId) (p : Place) → in_run k p ≡ true → (in_hands k p ≡ false) × (in_draw k p ≡ false)
only_run k places.Rest h = cc
only_run k (places.Hands j) h = cc
only_run k (places.Boxed b) h = cc
only_run k (places.Drawn j) h = cc
only_run k (places.Runs j) h = (refl, refl)
only_run k places.Gone h = cc

-- a post: the task leaves the caller's hands
pub held-post : (s : State) (k : CallerId) (j : TaskId) (b : ℕ) (r : Reply) (i : ℕ) → Allowed s (said k (calls.Post j b) r) → held k (stepped s (said k (calls.Post j b) r)) i + bit (i == j.0) ≡ held k s i
held-post s k j b r i a =
    by_step s (said k (calls.Post j b) r) i (λ t. bit (in_hands k t.place) + bit (i == j.0) ≡ held k s i) a (λ e. rw (e, fits_about s (said k (calls.Post j b) r) i a e) refl) (λ e. rw e (omega arith))

pub ran-post : (s : State) (k : CallerId) (j : TaskId) (b : ℕ) (r : Reply) (i : ℕ) → Allowed s (said k (calls.Post j b) r) → ran k (stepped s (said k (calls.Post j b) r)) i ≡ ran k s i
ran-post s k j b r i a =
    by_step s (said k (calls.Post j b) r) i (λ t. bit (in_run k t.place) ≡ ran k s i) a (λ e. sym (ap bit (only_held k (task_at s i).place (fits_about s (said k (calls.Post j b) r) i a e)).1)) (λ e. refl)

pub drawn-post : (s : State) (k : CallerId) (j : TaskId) (b : ℕ) (r : Reply) (i : ℕ) → Allowed s (said k (calls.Post j b) r) → drawn_to k (stepped s (said k (calls.Post j b) r)) i ≡ drawn_to k s i
drawn-post s k j b r i a =
    by_step s (said k (calls.Post j b) r) i (λ t. bit (in_draw k t.place) ≡ drawn_to k s i) a (λ e. sym (ap bit (only_held k (task_at s i).place (fits_about s (said k (calls.Post j b) r) i a e)).0)) (λ e. refl)

-- a draw
pub held-draw : (s : State) (k : CallerId) (j : TaskId) (r : Reply) (i : ℕ) → Allowed s (said k (calls.Draw j) r) → held k (stepped s (said k (calls.Draw j) r)) i ≡ held k s i
held-draw s k j r i a =
    by_step s (said k (calls.Draw j) r) i (λ t. bit (in_hands k t.place) ≡ held k s i) a (λ e. sym (ap bit (apart-boxed k s.workers (task_at s i).place (fits_about s (said k (calls.Draw j) r) i a e)).0)) (λ e. refl)

pub ran-draw : (s : State) (k : CallerId) (j : TaskId) (r : Reply) (i : ℕ) → Allowed s (said k (calls.Draw j) r) → ran k (stepped s (said k (calls.Draw j) r)) i ≡ ran k s i
ran-draw s k j r i a =
    by_step s (said k (calls.Draw j) r) i (λ t. bit (in_run k t.place) ≡ ran k s i) a (λ e. sym (ap bit (apart-boxed k s.workers (task_at s i).place (fits_about s (said k (calls.Draw j) r) i a e)).2)) (λ e. refl)

pub drawn-draw : (s : State) (k : CallerId) (j : TaskId) (r : Reply) (i : ℕ) → Allowed s (said k (calls.Draw j) r) → drawn_to k (stepped s (said k (calls.Draw j) r)) i ≡ drawn_to k s i + bit (i == j.0)
drawn-draw s k j r i a =
    by_step s (said k (calls.Draw j) r) i (λ t. bit (in_draw k t.place) ≡ drawn_to k s i + bit (i == j.0)) a (λ e. rw (e, (apart-boxed k s.workers (task_at s i).place (fits_about s (said k (calls.Draw j) r) i a e)).1) (ap bit (eq-eqb k.0 k.0 refl))) (λ e. rw e (omega arith))

-- a take of a task in hand or drawn
abbrev FallsBy : ℕ → ℕ → ℕ → ℕ → ℕ → Type 0
FallsBy n held_new drawn_new held_old drawn_old =
    (held_new + drawn_new + n ≡ held_old + drawn_old) × (held_new ≤ held_old) × (drawn_new ≤ drawn_old)

taken_one : (a b : Bool) → (a || b) ≡ true → (a ≡ true → b ≡ false) → FallsBy 1 0 0 (bit a) (bit b)
taken_one true b h only = rw (only refl) (refl, omega arith, omega arith)
taken_one false b h only = rw h (refl, omega arith, omega arith)

pub both-take : (s : State) (k : CallerId) (j : TaskId) (r : Reply) (i : ℕ) → Allowed s (said k (calls.Take j) r) → FallsBy (bit (i == j.0)) (held k (stepped s (said k (calls.Take j) r)) i) (drawn_to k (stepped s (said k (calls.Take j) r)) i) (held k s i) (drawn_to k s i)
both-take s k j r i a =
    by_step s (said k (calls.Take j) r) i (λ t. FallsBy (bit (i == j.0)) (bit (in_hands k t.place)) (bit (in_draw k t.place)) (held k s i) (drawn_to k s i)) a (λ e. rw e (taken_one (in_hands k (task_at s i).place) (in_draw k (task_at s i).place) (fits_about s (said k (calls.Take j) r) i a e) (λ h. (only_held k (task_at s i).place h).0))) (λ e. rw e (omega arith, omega arith, omega arith))

not_run : (k : CallerId) (p : Place) → (in_hands k p || in_draw k p) ≡ true → in_run k p ≡ false
not_run k places.Rest h = cc
not_run k (places.Hands j) h = refl
not_run k (places.Boxed b) h = cc
not_run k (places.Drawn j) h = refl
not_run k (places.Runs j) h = cc
not_run k places.Gone h = cc

pub ran-take : (s : State) (k : CallerId) (j : TaskId) (r : Reply) (i : ℕ) → Allowed s (said k (calls.Take j) r) → ran k (stepped s (said k (calls.Take j) r)) i ≡ ran k s i + bit (i == j.0)
ran-take s k j r i a =
    by_step s (said k (calls.Take j) r) i (λ t. bit (in_run k t.place) ≡ ran k s i + bit (i == j.0)) a (λ e. rw (e, not_run k (task_at s i).place (fits_about s (said k (calls.Take j) r) i a e)) (ap bit (eq-eqb k.0 k.0 refl))) (λ e. rw e (omega arith))

-- the end of a run: the task is in hand where it is busy, else at rest
dropped_held : (k : CallerId) (busy : Bool) → bit (in_hands k (if busy then places.Hands k else places.Rest)) ≡ (if busy then 1 else 0)
dropped_held k true = ap bit (eq-eqb k.0 k.0 refl)
dropped_held k false = refl

dropped_run : (k : CallerId) (busy : Bool) → in_run k (if busy then places.Hands k else places.Rest) ≡ false
dropped_run k true = refl
dropped_run k false = refl

dropped_drawn : (k : CallerId) (busy : Bool) → in_draw k (if busy then places.Hands k else places.Rest) ≡ false
dropped_drawn k true = refl
dropped_drawn k false = refl

-- what the call sees tells whether the task is busy
busy_seen : (k : CallerId) (p : Place) (t : TaskState) → in_run k p ≡ true → (has_reasons (Task (seen_at p t)) || is_killed (Task (seen_at p t))) ≡ is_busy t
busy_seen k places.Rest t h = cc
busy_seen k (places.Hands j) t h = cc
busy_seen k (places.Boxed b) t h = cc
busy_seen k (places.Drawn j) t h = cc
busy_seen k (places.Runs j) t h = refl
busy_seen k places.Gone t h = cc

dropped_here : (s : State) (k : CallerId) (i j : ℕ) (r : Reply) → r ≡ Task (seen_of (task_at s j)) → (i == j) ≡ true → in_run k (task_at s i).place ≡ true → bit (in_hands k (if is_busy (task_at s i) then places.Hands k else places.Rest)) ≡ held k s i + (if has_reasons r || is_killed r then bit (i == j) else 0)
dropped_here s k i j r e h fit =
    let same : i ≡ j = eqb-true i j h in
    rw (e, h, ← same, busy_seen k (task_at s i).place (task_at s i) fit, (only_run k (task_at s i).place fit).0) (dropped_held k (is_busy (task_at s i)) ∙ sym (omega arith))

pub held-drop : (s : State) (k : CallerId) (j : TaskId) (r : Reply) (i : ℕ) → Allowed s (said k (calls.DropRun j) r) → held k (stepped s (said k (calls.DropRun j) r)) i ≡ held k s i + (if has_reasons r || is_killed r then bit (i == j.0) else 0)
held-drop s k j r i a =
    by_step s (said k (calls.DropRun j) r) i (λ t. bit (in_hands k t.place) ≡ held k s i + (if has_reasons r || is_killed r then bit (i == j.0) else 0)) a (λ e. dropped_here s k i j.0 r a.reply e (fits_about s (said k (calls.DropRun j) r) i a e)) (λ e. raised_apart (held k s i) i j.0 (has_reasons r || is_killed r) e)

pub ran-drop : (s : State) (k : CallerId) (j : TaskId) (r : Reply) (i : ℕ) → Allowed s (said k (calls.DropRun j) r) → ran k (stepped s (said k (calls.DropRun j) r)) i + bit (i == j.0) ≡ ran k s i
ran-drop s k j r i a =
    by_step s (said k (calls.DropRun j) r) i (λ t. bit (in_run k t.place) + bit (i == j.0) ≡ ran k s i) a (λ e. rw (e, fits_about s (said k (calls.DropRun j) r) i a e, dropped_run k (is_busy (task_at s i))) refl) (λ e. rw e (omega arith))

pub drawn-drop : (s : State) (k : CallerId) (j : TaskId) (r : Reply) (i : ℕ) → Allowed s (said k (calls.DropRun j) r) → drawn_to k (stepped s (said k (calls.DropRun j) r)) i ≡ drawn_to k s i
drawn-drop s k j r i a =
    by_step s (said k (calls.DropRun j) r) i (λ t. bit (in_draw k t.place) ≡ drawn_to k s i) a (λ e. ap bit (dropped_drawn k (is_busy (task_at s i)) ∙ sym (only_run k (task_at s i).place (fits_about s (said k (calls.DropRun j) r) i a e)).1)) (λ e. refl)

-- a retirement of a task in hand, drawn or running
abbrev AllFallBy : ℕ → ℕ → ℕ → ℕ → ℕ → ℕ → ℕ → Type 0
AllFallBy n held_new ran_new drawn_new held_old ran_old drawn_old =
    (held_new + ran_new + drawn_new + n ≡ held_old + ran_old + drawn_old) × (held_new ≤ held_old) × (ran_new ≤ ran_old) × (drawn_new ≤ drawn_old)

only_first : (b : Bool) → (b || (false || false)) ≡ true → bit b + 0 + 0 ≡ 1
only_first true h = refl
only_first false h = cc

only_second : (b : Bool) → (b || false) ≡ true → 0 + 0 + bit b ≡ 1
only_second true h = refl
only_second false h = cc

retired_one : (k : CallerId) (p : Place) → (in_hands k p || (in_draw k p || in_run k p)) ≡ true → bit (in_hands k p) + bit (in_run k p) + bit (in_draw k p) ≡ 1
retired_one k places.Rest h = cc
retired_one k (places.Hands j) h = only_first (k.0 == j.0) h
retired_one k (places.Boxed b) h = cc
retired_one k (places.Drawn j) h = only_second (k.0 == j.0) h
retired_one k (places.Runs j) h = rw h refl
retired_one k places.Gone h = cc

pub all-retire : (s : State) (k : CallerId) (j : TaskId) (r : Reply) (i : ℕ) → Allowed s (said k (calls.Retire j) r) → AllFallBy (bit (i == j.0)) (held k (stepped s (said k (calls.Retire j) r)) i) (ran k (stepped s (said k (calls.Retire j) r)) i) (drawn_to k (stepped s (said k (calls.Retire j) r)) i) (held k s i) (ran k s i) (drawn_to k s i)
all-retire s k j r i a =
    by_step s (said k (calls.Retire j) r) i (λ t. AllFallBy (bit (i == j.0)) (bit (in_hands k t.place)) (bit (in_run k t.place)) (bit (in_draw k t.place)) (held k s i) (ran k s i) (drawn_to k s i)) a (λ e. let one = retired_one k (task_at s i).place (fits_about s (said k (calls.Retire j) r) i a e) in rw e (sym one, omega arith, omega arith, omega arith)) (λ e. rw e (omega arith, omega arith, omega arith, omega arith))
