-- What a call does to a task, seen from one caller: calls of others change nothing of its hands, runs and draws.
use Rattle.std.proofs.Common.{◌≡◌, ◌≢◌, ℕ, Bool, true, false, ◌||◌, ◌==◌, if◌then◌else◌, ◌⊎◌, inl, inr, refl, sym, ap, ◌∙◌, ne_eqb, eqb-true}
use Rattle.sched_base.specs.declared.names.CallerId.{CallerId}
use Rattle.task_machine.specs.declared.task.Place.{Place}
use Rattle.task_machine.specs.declared.task.Place.TheVariants as places
use Rattle.task_machine.specs.declared.task.TaskState.{TaskState}
use Rattle.task_machine.specs.declared.calls.Call.{Call}
use Rattle.task_machine.specs.declared.calls.Call.TheVariants as calls
use Rattle.task_machine.specs.declared.calls.Entry.{Entry}
use Rattle.task_machine.specs.Task.{is_busy, put, in_hands, in_draw, in_run, is_boxed, raised, woken, flagged}
use Rattle.task_machine.specs.Step.{State, task_at, is_about, needs, changed, bit, Allowed}
use Rattle.task_machine.specs.History.{stepped}
use Rattle.task_machine.proofs.After.{task_at-after, subject-lt}
use Rattle.task_machine.proofs.Validity.{needs-about}
use Rattle.standing.specs.Places.{held, ran, drawn_to}

by_about : (k : CallerId) (c : Call) (i : ℕ) (t : TaskState) (about : Bool) (P : TaskState → Type 0) → is_about i c ≡ about → (is_about i c ≡ true → P (changed k c t)) → (is_about i c ≡ false → P t) → P (if about then changed k c t else t)
by_about k c i t true P e here apart = here e
by_about k c i t false P e here apart = apart e

-- what holds of a task after a step: one that the call is about is changed, each other stays
pub by_step : (s : State) (e : Entry) (i : ℕ) (P : TaskState → Type 0) → Allowed s e → (is_about i e.call ≡ true → P (changed e.caller e.call (task_at s i))) → (is_about i e.call ≡ false → P (task_at s i)) → P (task_at (stepped s e) i)
by_step s e i P a here apart =
    rw (task_at-after s e.caller e.call i (subject-lt s e.caller e.call a.named)) (by_about e.caller e.call i (task_at s i) (is_about i e.call) P refl here apart)

-- what a call needs of the tasks that it is about
pub fits_about : (s : State) (e : Entry) (i : ℕ) → Allowed s e → is_about i e.call ≡ true → needs s.workers e.caller e.call (task_at s i).place ≡ true
fits_about s e i a h = needs-about s e.caller e.call i a.fit h

-- a task with these parts
abbrev at : Place → ℕ → Bool → ℕ → TaskState
at p n b m = record { place = p; pending = n; killed = b; takes = m }

-- where a wake and a kill leave a task
woken-at : (k : CallerId) (f : ℕ) (p : Place) (n : ℕ) (b : Bool) (m : ℕ) → (woken k f (at p n b m)).place ≡ raised k p
woken-at k f places.Rest n b m = refl
woken-at k f (places.Hands j) n b m = refl
woken-at k f (places.Boxed c) n b m = refl
woken-at k f (places.Drawn j) n b m = refl
woken-at k f (places.Runs j) n b m = refl
woken-at k f places.Gone n b m = refl

flagged-at : (k : CallerId) (p : Place) (n : ℕ) (b : Bool) (m : ℕ) → (flagged k (at p n b m)).place ≡ raised k p
flagged-at k places.Rest n b m = refl
flagged-at k (places.Hands j) n b m = refl
flagged-at k (places.Boxed c) n b m = refl
flagged-at k (places.Drawn j) n b m = refl
flagged-at k (places.Runs j) n b m = refl
flagged-at k places.Gone n b m = refl

pub place-woken : (k : CallerId) (f : ℕ) (t : TaskState) → (woken k f t).place ≡ raised k t.place
place-woken k f t = woken-at k f t.place t.pending t.killed t.takes

pub place-flagged : (k : CallerId) (t : TaskState) → (flagged k t).place ≡ raised k t.place
place-flagged k t = flagged-at k t.place t.pending t.killed t.takes

-- caller k has nothing of a task at this place
abbrev pub IsApart : CallerId → Place → Type 0
IsApart k p = (in_hands k p ≡ false) × (in_draw k p ≡ false) × (in_run k p ≡ false)

-- whether caller j has the task in some way, as a retirement needs it; each way is one
abbrev pub is_of : CallerId → Place → Bool
is_of j p = in_hands j p || (in_draw j p || in_run j p)

pub of_held : (j : CallerId) (p : Place) → in_hands j p ≡ true → is_of j p ≡ true
of_held j p h = rw h refl

pub of_taken : (j : CallerId) (p : Place) → (in_hands j p || in_draw j p) ≡ true → is_of j p ≡ true
of_taken j p h = or_more (in_hands j p) (in_draw j p) (in_run j p) h
  where
    or_more : (a b c : Bool) → (a || b) ≡ true → (a || (b || c)) ≡ true
    or_more true b c h = refl
    or_more false b c h = rw h refl

pub of_run : (j : CallerId) (p : Place) → in_run j p ≡ true → is_of j p ≡ true
of_run j p h = rw h (or_last (in_hands j p) (in_draw j p))
  where
    or_last : (a b : Bool) → (a || (b || true)) ≡ true
    or_last true b = refl
    or_last false true = refl
    or_last false false = refl

other : (k i j : ℕ) → k ≢ j → (j == i) ≡ true → (k == i) ≡ false
other k i j ne e = ne_eqb k i (λ same. ne (same ∙ sym (eqb-true j i e)))

or_false : (b : Bool) → (b || (false || false)) ≡ true → b ≡ true
or_false true h = refl
or_false false h = h

or_front : (b : Bool) → (b || false) ≡ true → b ≡ true
or_front true h = refl
or_front false h = h

apart-of : (k j : CallerId) (p : Place) → k.0 ≢ j.0 → is_of j p ≡ true → IsApart k p
apart-of k j places.Rest ne h = cc
apart-of k j (places.Hands i) ne h = (other k.0 i.0 j.0 ne (or_false (j.0 == i.0) h), refl, refl)
apart-of k j (places.Boxed b) ne h = (refl, refl, refl)
apart-of k j (places.Drawn i) ne h = (refl, other k.0 i.0 j.0 ne (or_front (j.0 == i.0) h), refl)
apart-of k j (places.Runs i) ne h = (refl, refl, other k.0 i.0 j.0 ne h)
apart-of k j places.Gone ne h = cc

pub apart-boxed : (k : CallerId) (b : ℕ) (p : Place) → is_boxed b p ≡ true → IsApart k p
apart-boxed k b places.Rest h = cc
apart-boxed k b (places.Hands i) h = cc
apart-boxed k b (places.Boxed c) h = (refl, refl, refl)
apart-boxed k b (places.Drawn i) h = cc
apart-boxed k b (places.Runs i) h = cc
apart-boxed k b places.Gone h = cc

apart-dropped : (k j : CallerId) (busy : Bool) → k.0 ≢ j.0 → IsApart k (if busy then places.Hands j else places.Rest)
apart-dropped k j true ne = (ne_eqb k.0 j.0 ne, refl, refl)
apart-dropped k j false ne = (refl, refl, refl)

-- the place stays, or caller k has nothing of the task before and after
abbrev StaysApart : CallerId → Place → Place → Type 0
StaysApart k old new = (new ≡ old) ⊎ (IsApart k old × IsApart k new)

raised-apart : (k j : CallerId) (p : Place) → k.0 ≢ j.0 → StaysApart k p (raised j p)
raised-apart k j places.Rest ne = inr ((refl, refl, refl), (ne_eqb k.0 j.0 ne, refl, refl))
raised-apart k j (places.Hands i) ne = inl refl
raised-apart k j (places.Boxed b) ne = inl refl
raised-apart k j (places.Drawn i) ne = inl refl
raised-apart k j (places.Runs i) ne = inl refl
raised-apart k j places.Gone ne = inl refl

got-apart : (k j : CallerId) (t : TaskState) (here : Bool) → is_boxed j.0 t.place ≡ here → k.0 ≢ j.0 → StaysApart k t.place (if here then put (places.Hands j) t else t).place
got-apart k j t true e ne = inr (apart-boxed k j.0 t.place e, (ne_eqb k.0 j.0 ne, refl, refl))
got-apart k j t false e ne = inl refl

-- another caller's call about a task
changed-apart : (w : ℕ) (k j : CallerId) (c : Call) (t : TaskState) → k.0 ≢ j.0 → needs w j c t.place ≡ true → StaysApart k t.place (changed j c t).place
changed-apart w k j (calls.Wake i f) t ne fit = rw (place-woken j f t) (raised-apart k j t.place ne)
changed-apart w k j (calls.Kill i) t ne fit = rw (place-flagged j t) (raised-apart k j t.place ne)
changed-apart w k j (calls.Post i b) t ne fit =
    inr (apart-of k j t.place ne (of_held j t.place fit), (refl, refl, refl))
changed-apart w k j (calls.Get g) t ne fit = got-apart k j t (is_boxed j.0 t.place) refl ne
changed-apart w k j (calls.Draw i) t ne fit = inr (apart-boxed k w t.place fit, (refl, ne_eqb k.0 j.0 ne, refl))
changed-apart w k j (calls.Take i) t ne fit =
    inr (apart-of k j t.place ne (of_taken j t.place fit), (refl, refl, ne_eqb k.0 j.0 ne))
changed-apart w k j (calls.DropRun i) t ne fit =
    inr (apart-of k j t.place ne (of_run j t.place fit), apart-dropped k j (is_busy t) ne)
changed-apart w k j (calls.Retire i) t ne fit = inr (apart-of k j t.place ne fit, (refl, refl, refl))

-- the place of a task after a step of another caller
step-apart : (s : State) (e : Entry) (k : CallerId) (i : ℕ) → Allowed s e → k.0 ≢ e.caller.0 → StaysApart k (task_at s i).place (task_at (stepped s e) i).place
step-apart s e k i a ne =
    by_step s e i (λ t. StaysApart k (task_at s i).place t.place) a (λ h. changed-apart s.workers k e.caller e.call (task_at s i) ne (fits_about s e i a h)) (λ h. inl refl)

pub held-other : (s : State) (e : Entry) (k : CallerId) (i : ℕ) → Allowed s e → k.0 ≢ e.caller.0 → held k (stepped s e) i ≡ held k s i
held-other s e k i a ne =
    elim (step-apart s e k i a ne) [ inl same ↦ ap (λ p. bit (in_hands k p)) same | inr both ↦ ap bit (both.1.0 ∙ sym both.0.0) ]

pub ran-other : (s : State) (e : Entry) (k : CallerId) (i : ℕ) → Allowed s e → k.0 ≢ e.caller.0 → ran k (stepped s e) i ≡ ran k s i
ran-other s e k i a ne =
    elim (step-apart s e k i a ne) [ inl same ↦ ap (λ p. bit (in_run k p)) same | inr both ↦ ap bit (both.1.2 ∙ sym both.0.2) ]

pub drawn-other : (s : State) (e : Entry) (k : CallerId) (i : ℕ) → Allowed s e → k.0 ≢ e.caller.0 → drawn_to k (stepped s e) i ≡ drawn_to k s i
drawn-other s e k i a ne =
    elim (step-apart s e k i a ne) [ inl same ↦ ap (λ p. bit (in_draw k p)) same | inr both ↦ ap bit (both.1.1 ∙ sym both.0.1) ]
