-- The shared box: a task leaves it by a draw alone, and comes into it by a post.
use Rattle.std.proofs.Common.{◌≡◌, ◌≢◌, ℕ, Bool, true, false, ◌||◌, if◌then◌else◌, ◌⊎◌, inl, inr, List, [], ◌∷◌, refl, sym, ap, ◌∙◌, arith, eqb-true}
use Rattle.std.proofs.lemmas.Bool.Decides.{nat_tests}
use Rattle.sched_base.specs.declared.names.CallerId.{CallerId}
use Rattle.task_machine.specs.declared.task.Place.{Place}
use Rattle.task_machine.specs.declared.task.Place.TheVariants as places
use Rattle.task_machine.specs.declared.task.TaskState.{TaskState}
use Rattle.task_machine.specs.declared.calls.Call.{Call}
use Rattle.task_machine.specs.declared.calls.Call.TheVariants as calls
use Rattle.task_machine.specs.declared.calls.Entry.{Entry}
use Rattle.task_machine.specs.Task.{is_busy, put, is_boxed, raised}
use Rattle.task_machine.specs.Step.{State, task_at, is_about, is_named, needs, changed, Allowed}
use Rattle.task_machine.specs.History.{stepped, Legal, led}
use Rattle.run_model.specs.Standing.{is_draw_of, was_drawn}
use Rattle.standing.proofs.Effects.{by_step, fits_about, place-woken, place-flagged, is_of, of_held, of_taken, of_run}

boxed_raised : (k : CallerId) (b : ℕ) (p : Place) → is_boxed b (raised k p) ≡ is_boxed b p
boxed_raised k b places.Rest = refl
boxed_raised k b (places.Hands j) = refl
boxed_raised k b (places.Boxed c) = refl
boxed_raised k b (places.Drawn j) = refl
boxed_raised k b (places.Runs j) = refl
boxed_raised k b places.Gone = refl

-- what a caller has is in no box
not_in_box : (k : CallerId) (b : ℕ) (p : Place) → is_of k p ≡ true → is_boxed b p ≡ false
not_in_box k b places.Rest h = refl
not_in_box k b (places.Hands j) h = refl
not_in_box k b (places.Boxed c) h = cc
not_in_box k b (places.Drawn j) h = refl
not_in_box k b (places.Runs j) h = refl
not_in_box k b places.Gone h = refl

-- a place is one box at most
one_box : (b c : ℕ) (p : Place) → is_boxed b p ≡ true → is_boxed c p ≡ true → b ≡ c
one_box b c places.Rest h g = cc
one_box b c (places.Hands j) h g = cc
one_box b c (places.Boxed d) h g = eqb-true b d h ∙ sym (eqb-true c d g)
one_box b c (places.Drawn j) h g = cc
one_box b c (places.Runs j) h g = cc
one_box b c places.Gone h g = cc

got_stays : (k : CallerId) (b : ℕ) (t : TaskState) (here : Bool) → is_boxed k.0 t.place ≡ here → k.0 ≢ b → is_boxed b t.place ≡ true → is_boxed b (if here then put (places.Hands k) t else t).place ≡ true
got_stays k b t true e ne h = absurd (ne (one_box k.0 b t.place e h))
got_stays k b t false e ne h = h

-- only a worker gets
not_shared : (s : State) (k : CallerId) (g : ℕ) → is_named s k (calls.Get g) ≡ true → k.0 ≢ s.workers
not_shared s k g h = grind (arith, nat_tests)

-- a call about a task that is in the shared box leaves it there, unless it draws it
stays-changed : (s : State) (k : CallerId) (c : Call) (i : ℕ) (t : TaskState) → is_about i c ≡ true → is_named s k c ≡ true → needs s.workers k c t.place ≡ true → is_draw_of i c ≡ false → is_boxed s.workers t.place ≡ true → is_boxed s.workers (changed k c t).place ≡ true
stays-changed s k (calls.Wake j f) i t about named fit d h = rw (place-woken k f t, boxed_raised k s.workers t.place) h
stays-changed s k (calls.Kill j) i t about named fit d h = rw (place-flagged k t, boxed_raised k s.workers t.place) h
stays-changed s k (calls.Post j b) i t about named fit d h =
    let no = not_in_box k s.workers t.place (of_held k t.place fit) in cc
stays-changed s k (calls.Get g) i t about named fit d h =
    got_stays k s.workers t (is_boxed k.0 t.place) refl (not_shared s k g named) h
stays-changed s k (calls.Draw j) i t about named fit d h = cc
stays-changed s k (calls.Take j) i t about named fit d h =
    let no = not_in_box k s.workers t.place (of_taken k t.place fit) in cc
stays-changed s k (calls.DropRun j) i t about named fit d h =
    let no = not_in_box k s.workers t.place (of_run k t.place fit) in cc
stays-changed s k (calls.Retire j) i t about named fit d h =
    let no = not_in_box k s.workers t.place fit in cc

-- a task leaves the shared box by a draw alone
pub stays-step : (s : State) (e : Entry) (i : ℕ) → Allowed s e → is_draw_of i e.call ≡ false → is_boxed s.workers (task_at s i).place ≡ true → is_boxed s.workers (task_at (stepped s e) i).place ≡ true
stays-step s e i a d h =
    by_step s e i (λ t. is_boxed s.workers t.place ≡ true) a (λ about. stays-changed s e.caller e.call i (task_at s i) about a.named (fits_about s e i a about) d h) (λ apart. h)

drawn_none : (a b : Bool) → (a || b) ≡ false → (a ≡ false) × (b ≡ false)
drawn_none true b h = cc
drawn_none false b h = (refl, h)

pub stays-led : (s : State) (es : List Entry) (i : ℕ) → Legal s es → was_drawn i es ≡ false → is_boxed s.workers (task_at s i).place ≡ true → is_boxed s.workers (task_at (led s es) i).place ≡ true
stays-led s [] i l d h = h
stays-led s (e ∷ es) i l d h =
    let none = drawn_none (is_draw_of i e.call) (was_drawn i es) d in
    stays-led (stepped s e) es i l.1 none.1 (stays-step s e i l.0 none.0 h)

pub workers-led : (s : State) (es : List Entry) → (led s es).workers ≡ s.workers
workers-led s [] = refl
workers-led s (e ∷ es) = workers-led (stepped s e) es

-- a post to box b
abbrev pub PostsTo : ℕ → Call → Type 0
PostsTo b (calls.Post j c) = c ≡ b
PostsTo b c = ⊥

got_came : (k : CallerId) (b : ℕ) (t : TaskState) (here : Bool) → is_boxed b (if here then put (places.Hands k) t else t).place ≡ true → is_boxed b t.place ≡ true
got_came k b t true h = cc
got_came k b t false h = h

dropped_boxed : (k : CallerId) (b : ℕ) (busy : Bool) → is_boxed b (if busy then places.Hands k else places.Rest) ≡ true → ⊥
dropped_boxed k b true h = cc
dropped_boxed k b false h = cc

comes-changed : (b : ℕ) (k : CallerId) (c : Call) (t : TaskState) → is_boxed b (changed k c t).place ≡ true → (is_boxed b t.place ≡ true) ⊎ PostsTo b c
comes-changed b k (calls.Wake j f) t h = inl (sym (boxed_raised k b t.place) ∙ sym (ap (is_boxed b) (place-woken k f t)) ∙ h)
comes-changed b k (calls.Kill j) t h = inl (sym (boxed_raised k b t.place) ∙ sym (ap (is_boxed b) (place-flagged k t)) ∙ h)
comes-changed b k (calls.Post j c) t h = inr (sym (eqb-true b c h))
comes-changed b k (calls.Get g) t h = inl (got_came k b t (is_boxed k.0 t.place) h)
comes-changed b k (calls.Draw j) t h = cc
comes-changed b k (calls.Take j) t h = cc
comes-changed b k (calls.DropRun j) t h = absurd (dropped_boxed k b (is_busy t) h)
comes-changed b k (calls.Retire j) t h = cc

-- a task comes into a box by a post
pub comes-step : (s : State) (e : Entry) (b i : ℕ) → Allowed s e → is_boxed b (task_at (stepped s e) i).place ≡ true → (is_boxed b (task_at s i).place ≡ true) ⊎ (PostsTo b e.call × (is_about i e.call ≡ true))
comes-step s e b i a =
    by_step s e i (λ t. is_boxed b t.place ≡ true → (is_boxed b (task_at s i).place ≡ true) ⊎ (PostsTo b e.call × (is_about i e.call ≡ true))) a (λ about h. elim (comes-changed b e.caller e.call (task_at s i) h) [ inl was ↦ inl was | inr posts ↦ inr (posts, about) ]) (λ apart h. inl h)
