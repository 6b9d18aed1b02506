-- What a caller has of a task follows from its own entries.
use Rattle.std.proofs.Common.{◌≡◌, ◌≢◌, ℕ, Bool, true, false, not, ◌||◌, ◌==◌, if◌then◌else◌, List, [], ◌∷◌, ◌++◌, refl, sym, ap, subst, ◌∙◌, inl, inr, arith, eq-eqb, ne_eqb}
use Rattle.std.proofs.lemmas.Bool.{cases_eq}
use Rattle.sched_base.specs.declared.names.CallerId.{CallerId}
use Rattle.task_machine.specs.declared.task.Place.{Place}
use Rattle.task_machine.specs.declared.task.Place.TheVariants as places
use Rattle.task_machine.specs.declared.task.Stand.TheVariants as stands
use Rattle.task_machine.specs.declared.task.Seen.{Seen}
use Rattle.task_machine.specs.declared.task.TaskState.{TaskState}
use Rattle.task_machine.specs.declared.calls.Entry.{Entry}
use Rattle.task_machine.specs.Task.{is_busy, put, seen_of, live, woken, flagged, taken, dropped}
use Rattle.task_machine.specs.Step.{State, task_at}
use Rattle.task_machine.specs.History.{stepped, Legal, led, calls_of}
use Rattle.task_machine.specs.Event.{Event, apart, sees, posts, gets, misses, draws, wakes, kills, takes, drops, retires, event_at, Held, MayChange, Allows, next}
use Rattle.task_machine.specs.Own.{Own, away, holding, drawing, running, own_at, saw_rest, saw_busy, own_next, own_of}
use Rattle.task_machine.proofs.Events.{Allowed-split, task_at-stepped}

-- a task with these parts
abbrev at : Place → ℕ → Bool → ℕ → TaskState
at p n b m = record { place = p; pending = n; killed = b; takes = m }

abbrev pick : {X : Type 0} → X → X → Bool → X
pick x y b = if b then x else y

own_hands : (k : ℕ) → own_at k (places.Hands (record { 0 = k })) ≡ holding
own_hands k = ap (pick holding away) (eq-eqb k k refl)

own_drawn : (k : ℕ) → own_at k (places.Drawn (record { 0 = k })) ≡ drawing
own_drawn k = ap (pick drawing away) (eq-eqb k k refl)

own_runs : (k : ℕ) → own_at k (places.Runs (record { 0 = k })) ≡ running
own_runs k = ap (pick running away) (eq-eqb k k refl)

other_hands : (j k : ℕ) → j ≢ k → own_at j (places.Hands (record { 0 = k })) ≡ away
other_hands j k ne = ap (pick holding away) (ne_eqb k j (λ e. ne (sym e)))

other_drawn : (j k : ℕ) → j ≢ k → own_at j (places.Drawn (record { 0 = k })) ≡ away
other_drawn j k ne = ap (pick drawing away) (ne_eqb k j (λ e. ne (sym e)))

other_runs : (j k : ℕ) → j ≢ k → own_at j (places.Runs (record { 0 = k })) ≡ away
other_runs j k ne = ap (pick running away) (ne_eqb k j (λ e. ne (sym e)))

woken_own : (k : CallerId) (f : ℕ) (p : Place) (n : ℕ) (b : Bool) (m : ℕ) → own_at k.0 (woken k f (at p n b m)).place ≡ pick holding (own_at k.0 p) (saw_rest (seen_of (at p n b m)))
woken_own k f places.Rest n b m = own_hands k.0
woken_own k f (places.Hands j) n b m = refl
woken_own k f (places.Boxed c) n b m = refl
woken_own k f (places.Drawn j) n b m = refl
woken_own k f (places.Runs j) n b m = refl
woken_own k f places.Gone n b m = refl

flagged_own : (k : CallerId) (p : Place) (n : ℕ) (b : Bool) (m : ℕ) → own_at k.0 (flagged k (at p n b m)).place ≡ pick holding (own_at k.0 p) (saw_rest (seen_of (at p n b m)))
flagged_own k places.Rest n b m = own_hands k.0
flagged_own k (places.Hands j) n b m = refl
flagged_own k (places.Boxed c) n b m = refl
flagged_own k (places.Drawn j) n b m = refl
flagged_own k (places.Runs j) n b m = refl
flagged_own k places.Gone n b m = refl

woken_else : (j : ℕ) (k : CallerId) (f : ℕ) (p : Place) (n : ℕ) (b : Bool) (m : ℕ) → j ≢ k.0 → own_at j (woken k f (at p n b m)).place ≡ own_at j p
woken_else j k f places.Rest n b m ne = other_hands j k.0 ne
woken_else j k f (places.Hands i) n b m ne = refl
woken_else j k f (places.Boxed c) n b m ne = refl
woken_else j k f (places.Drawn i) n b m ne = refl
woken_else j k f (places.Runs i) n b m ne = refl
woken_else j k f places.Gone n b m ne = refl

flagged_else : (j : ℕ) (k : CallerId) (p : Place) (n : ℕ) (b : Bool) (m : ℕ) → j ≢ k.0 → own_at j (flagged k (at p n b m)).place ≡ own_at j p
flagged_else j k places.Rest n b m ne = other_hands j k.0 ne
flagged_else j k (places.Hands i) n b m ne = refl
flagged_else j k (places.Boxed c) n b m ne = refl
flagged_else j k (places.Drawn i) n b m ne = refl
flagged_else j k (places.Runs i) n b m ne = refl
flagged_else j k places.Gone n b m ne = refl

dropped_own : (k : CallerId) (b : Bool) → own_at k.0 (pick (places.Hands k) places.Rest b) ≡ pick holding away b
dropped_own k true = own_hands k.0
dropped_own k false = refl

dropped_else : (j : ℕ) (k : CallerId) (b : Bool) → j ≢ k.0 → own_at j (pick (places.Hands k) places.Rest b) ≡ away
dropped_else j k true ne = other_hands j k.0 ne
dropped_else j k false ne = refl

-- a task that runs is seen busy exactly where it is
runs_busy : (k : CallerId) (t : TaskState) → t.place ≡ places.Runs k → saw_busy (seen_of t) ≡ is_busy t
runs_busy k t e =
    subst (λ (p : Place). saw_busy (seen_of (at p t.pending t.killed t.takes)) ≡ is_busy t) (sym e) refl

held_else : (j : ℕ) (k : CallerId) (p : Place) → j ≢ k.0 → Held k p → own_at j p ≡ away
held_else j k p ne h =
    elim h [ inl a ↦ rw a (other_hands j k.0 ne) | inr d ↦ rw d (other_drawn j k.0 ne) ]

-- an entry of the caller itself
pub own-step : (w : ℕ) (k : CallerId) (v : Event) (t : TaskState) → Allows w k v t → own_at k.0 (next k v t).place ≡ own_next (own_at k.0 t.place) v
own-step w k apart t h = refl
own-step w k (sees x (wakes f)) t h = woken_own k f t.place t.pending t.killed t.takes ∙ ap (λ (y : Seen). pick holding (own_at k.0 t.place) (saw_rest y)) h.0
own-step w k (sees x kills) t h = flagged_own k t.place t.pending t.killed t.takes ∙ ap (λ (y : Seen). pick holding (own_at k.0 t.place) (saw_rest y)) h.0
own-step w k (sees x takes) t h = own_runs k.0
own-step w k (sees x drops) t h = dropped_own k (is_busy t) ∙ ap (pick holding away) (sym (runs_busy k t h.1) ∙ ap saw_busy h.0)
own-step w k (sees x retires) t h = refl
own-step w k (posts b) t h = refl
own-step w k gets t h = own_hands k.0
own-step w k misses t h = refl
own-step w k draws t h = own_drawn k.0

-- an entry of another caller
pub own-else : (w j : ℕ) (k : CallerId) (v : Event) (t : TaskState) → j ≢ k.0 → Allows w k v t → own_at j (next k v t).place ≡ own_at j t.place
own-else w j k apart t ne h = refl
own-else w j k (sees x (wakes f)) t ne h = woken_else j k f t.place t.pending t.killed t.takes ne
own-else w j k (sees x kills) t ne h = flagged_else j k t.place t.pending t.killed t.takes ne
own-else w j k (sees x takes) t ne h = other_runs j k.0 ne ∙ sym (held_else j k t.place ne h.1)
own-else w j k (sees x drops) t ne h = dropped_else j k (is_busy t) ne ∙ sym (rw h.1 (other_runs j k.0 ne))
own-else w j k (sees x retires) t ne h = sym (elim h.1 [ inl held ↦ held_else j k t.place ne held | inr r ↦ rw r (other_runs j k.0 ne) ])
own-else w j k (posts b) t ne h = sym (rw h (other_hands j k.0 ne))
own-else w j k gets t ne h = other_hands j k.0 ne ∙ sym (rw h.0 refl)
own-else w j k misses t ne h = refl
own-else w j k draws t ne h = other_drawn j k.0 ne ∙ sym (rw h refl)

-- after a legal history a caller has of a task what its own calls in it make of what it had
pub own-led : (s : State) (h : List Entry) (k i : ℕ) → Legal s h → own_at k (task_at (led s h) i).place ≡ own_of i (own_at k (task_at s i).place) (calls_of k h)
own-led s [] k i l = refl
own-led s (e ∷ h) k i l =
    let admits = (Allowed-split s e l.0).1 i in
    let more = own-led (stepped s e) h k i l.1 in
    let here = task_at-stepped s e l.0 i in
    elim (cases_eq e.caller.0 k) [
      | inl same ↦
          (let taken' : own_at e.caller.0 (task_at (stepped s e) i).place ≡ own_next (own_at e.caller.0 (task_at s i).place) (event_at i e) = rw here (own-step s.workers e.caller (event_at i e) (task_at s i) admits) in
          let taken_k : own_at k (task_at (stepped s e) i).place ≡ own_next (own_at k (task_at s i).place) (event_at i e) = subst (λ (n : ℕ). own_at n (task_at (stepped s e) i).place ≡ own_next (own_at n (task_at s i).place) (event_at i e)) same taken' in
          rw (eq-eqb e.caller.0 k same) (more ∙ ap (λ (o : Own). own_of i o (calls_of k h)) taken_k))
      | inr ne ↦
          (let left : own_at k (task_at (stepped s e) i).place ≡ own_at k (task_at s i).place = rw here (own-else s.workers k e.caller (event_at i e) (task_at s i) (λ same. ne (sym same)) admits) in
          rw (ne_eqb e.caller.0 k ne) (more ∙ ap (λ (o : Own). own_of i o (calls_of k h)) left))
    ]
