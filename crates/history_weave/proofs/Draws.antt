-- What a legal history of one task may still hold once the task was drawn.
use Rattle.std.proofs.Common.{◌≡◌, ◌≢◌, ℕ, ◌<◌, ◌⊎◌, inl, inr, Bool, refl, sym, ap, subst, ◌∙◌, arith, List, [], ◌∷◌}
use Rattle.sched_base.specs.declared.names.CallerId.{CallerId}
use Rattle.task_machine.specs.declared.task.Place.TheVariants as places
use Rattle.task_machine.specs.declared.task.Seen.{Seen}
use Rattle.task_machine.specs.declared.task.Seen.TheVariants as views
use Rattle.task_machine.specs.declared.task.TaskState.{TaskState}
use Rattle.task_machine.specs.declared.calls.Entry.{Entry}
use Rattle.task_machine.specs.Task.{seen_at, seen_of}
use Rattle.task_machine.specs.History.{calls_of}
use Rattle.task_machine.specs.Event.{Change, wakes, kills, takes, drops, retires, Event, apart, sees, posts, gets, misses, draws, event_at, Held, Allows, altered, next, LegalFor}
use Rattle.history_weave.specs.Rule.{SawTakes, TellsTakes, TellsTakesBy, draw_of, draws_in}
use Rattle.history_weave.proofs.Seens.{at, After, settles}
use Rattle.history_weave.proofs.Swaps.{at_place, ne_sym, two_places}
use Rattle.history_weave.proofs.Futures.{whose}

-- the task is gone, or was taken more than m times
abbrev pub Higher : ℕ → Seen → Type 0
Higher m views.Gone = Unit {0}
Higher m (views.Live st p b n) = m < n

Higher-after : (m : ℕ) (x y : Seen) → Higher m x → After x y → Higher m y
Higher-after m views.Gone y h g = absurd g
Higher-after m (views.Live st p b n) views.Gone h g = tt
Higher-after m (views.Live st p b n) (views.Live su q c o) h g =
    elim g [ inl lt ↦ omega arith | inr eq ↦ omega arith ]

Higher-kept : (w : ℕ) (k : CallerId) (v : Event) (t : TaskState) (m : ℕ) → Allows w k v t → Higher m (seen_of t) → Higher m (seen_of (next k v t))
Higher-kept w k v t m a h =
    elim (settles w k v t a) [
      | inl same ↦ rw same h
      | inr on ↦ Higher-after m (seen_of t) (seen_of (next k v t)) h on
    ]

SawTakes-higher : (m : ℕ) (x : Seen) → SawTakes m x → Higher m x → ⊥
SawTakes-higher m views.Gone h g = h
SawTakes-higher m (views.Live st p b n) h g = omega arith

tells-higher : (w : ℕ) (k : CallerId) (v : Event) (t : TaskState) (m : ℕ) (later : Type 0) → Allows w k v t → Higher m (seen_of t) → (later → ⊥) → TellsTakesBy m v later → ⊥
tells-higher w k (sees x c) t m later a h g tells =
    SawTakes-higher m x tells (subst (λ (y : Seen). Higher m y) a.0 h)
tells-higher w k v t m later a h g tells = g tells

-- no look of anybody sees fewer takes than there were
pub TellsTakes-higher : (w i m j : ℕ) (t : TaskState) (h : List Entry) → LegalFor w i t h → Higher m (seen_of t) → TellsTakes i m (calls_of j h) → ⊥
TellsTakes-higher w i m j t [] l p tells = tells
TellsTakes-higher w i m j t (e ∷ h) l p tells =
    let v = event_at i e in
    let later = λ (q : TellsTakes i m (calls_of j h)). TellsTakes-higher w i m j (next e.caller v t) h l.1 (Higher-kept w e.caller v t m l.0 p) q in
    elim (whose j e h) [
      | inl mine ↦ tells-higher w e.caller v t m (TellsTakes i m (calls_of j h)) l.0 p later (rw mine.1 at tells)
      | inr others ↦ later (rw others.1 at tells)
    ]

drawn_differ : (k j : CallerId) → k.0 ≢ j.0 → places.Drawn k ≡ places.Drawn j → ⊥
drawn_differ k j ne e = let f : k ≡ j = cc in ne (ap (λ c. c.0) f)

held_in_draw : (k j : CallerId) → k.0 ≢ j.0 → Held k (places.Drawn j) → ⊥
held_in_draw k j ne h = elim h [ inl a ↦ cc | inr d ↦ drawn_differ j k (ne_sym k j ne) d ]

-- the task is still drawn by caller j, and was taken as often
abbrev pub StaysDrawn : CallerId → TaskState → TaskState → Type 0
StaysDrawn j t u = (u.place ≡ places.Drawn j) × (u.takes ≡ t.takes)

goes-at : (w : ℕ) (k j : CallerId) (x : Seen) (c : Change) (n : ℕ) (f : Bool) (m : ℕ) → Allows w k (sees x c) (at (places.Drawn j) n f m) → StaysDrawn j (at (places.Drawn j) n f m) (altered k c (at (places.Drawn j) n f m)) ⊎ Higher m (seen_of (altered k c (at (places.Drawn j) n f m)))
goes-at w k j x (wakes g) n f m a = inl (refl, refl)
goes-at w k j x kills n f m a = inl (refl, refl)
goes-at w k j x takes n f m a = inr (omega arith)
goes-at w k j x drops n f m a = absurd (let h = a.1 in cc)
goes-at w k j x retires n f m a = inr tt

-- a drawn task stays drawn until it is taken once more or gone
drawn_goes : (w : ℕ) (k j : CallerId) (v : Event) (t : TaskState) → Allows w k v t → t.place ≡ places.Drawn j → StaysDrawn j t (next k v t) ⊎ Higher t.takes (seen_of (next k v t))
drawn_goes w k j apart t a h = inl (h, refl)
drawn_goes w k j (sees x c) t a h =
    at_place (λ s. Allows w k (sees x c) s → StaysDrawn j s (altered k c s) ⊎ Higher s.takes (seen_of (altered k c s))) t (places.Drawn j) h (λ g. goes-at w k j x c t.pending t.killed t.takes g) a
drawn_goes w k j (posts b) t a h = two_places t (places.Hands k) (places.Drawn j) a h (λ e. cc)
drawn_goes w k j gets t a h = two_places t (places.Boxed k.0) (places.Drawn j) a.0 h (λ e. cc)
drawn_goes w k j misses t a h = inl (h, refl)
drawn_goes w k j draws t a h = two_places t (places.Boxed w) (places.Drawn j) a h (λ e. cc)

-- what caller j has drawn, caller k does not draw when it was taken as often
pub draw_apart : (w i : ℕ) (j : CallerId) (k m : ℕ) (e : Entry) (r : List Entry) (t : TaskState) (h : List Entry) → LegalFor w i t h → t.place ≡ places.Drawn j → t.takes ≡ m → calls_of k h ≡ e ∷ r → event_at i e ≡ draws → TellsTakes i m (calls_of k h) → ⊥
draw_apart w i j k m e r t [] l p n first ev tells = cc
draw_apart w i j k m e r t (d ∷ h) l p n first ev tells =
    elim (whose k d h) [
      | inl mine ↦
          let same : d ∷ calls_of k h ≡ e ∷ r = sym mine.1 ∙ first in
          let here : d ≡ e = cc in
          let drawn : Allows w d.caller draws t = rw (ap (event_at i) here ∙ ev) at l.0 in
          two_places t (places.Boxed w) (places.Drawn j) drawn p (λ q. cc)
      | inr others ↦
          let rest : TellsTakes i m (calls_of k h) = rw others.1 at tells in
          let v = event_at i d in
          elim (drawn_goes w d.caller j v t l.0 p) [
            | inl stays ↦ draw_apart w i j k m e r (next d.caller v t) h l.1 stays.0 (stays.1 ∙ n) (sym others.1 ∙ first) ev rest
            | inr risen ↦ TellsTakes-higher w i m k (next d.caller v t) h l.1 (subst (λ (q : ℕ). Higher q (seen_of (next d.caller v t))) n risen) rest
          ]
    ]

only-at : (w : ℕ) (k j : CallerId) (x : Seen) (c : Change) (n : ℕ) (f : Bool) (m : ℕ) → k.0 ≢ j.0 → Allows w k (sees x c) (at (places.Drawn j) n f m) → StaysDrawn j (at (places.Drawn j) n f m) (altered k c (at (places.Drawn j) n f m))
only-at w k j x (wakes g) n f m ne a = (refl, refl)
only-at w k j x kills n f m ne a = (refl, refl)
only-at w k j x takes n f m ne a = absurd (held_in_draw k j ne a.1)
only-at w k j x drops n f m ne a = absurd (let h = a.1 in cc)
only-at w k j x retires n f m ne a =
    absurd (elim a.1 [ inl held ↦ held_in_draw k j ne held | inr q ↦ cc ])

-- nobody but its drawer leads a drawn task on
pub drawn_only : (w : ℕ) (k j : CallerId) (v : Event) (t : TaskState) → k.0 ≢ j.0 → Allows w k v t → t.place ≡ places.Drawn j → StaysDrawn j t (next k v t) × (draw_of v ≡ 0)
drawn_only w k j apart t ne a h = ((h, refl), refl)
drawn_only w k j (sees x c) t ne a h = (
  at_place (λ s. Allows w k (sees x c) s → StaysDrawn j s (altered k c s)) t (places.Drawn j) h (λ g. only-at w k j x c t.pending t.killed t.takes ne g) a,
  refl,
)
drawn_only w k j (posts b) t ne a h = two_places t (places.Hands k) (places.Drawn j) a h (λ e. cc)
drawn_only w k j gets t ne a h = two_places t (places.Boxed k.0) (places.Drawn j) a.0 h (λ e. cc)
drawn_only w k j misses t ne a h = ((h, refl), refl)
drawn_only w k j draws t ne a h = two_places t (places.Boxed w) (places.Drawn j) a h (λ e. cc)

-- the drawer's next event is a look that tells the takes, or leaves the task
abbrev Tells : ℕ → Event → Type 0 → Type 0
Tells m v later = TellsTakesBy m v later

abbrev Leaves : CallerId → ℕ → Event → TaskState → Type 0 → Type 0
Leaves k m v t later = (next k v t ≡ t) × (draw_of v ≡ 0) × (later → TellsTakesBy m v later)

saw_drawn : (t : TaskState) (x : Seen) (j : CallerId) → t.place ≡ places.Drawn j → seen_of t ≡ x → SawTakes t.takes x
saw_drawn t x j h e =
    let f : seen_of t ≡ seen_at (places.Drawn j) t = ap (λ p. seen_at p t) h in
    subst (λ (y : Seen). SawTakes t.takes y) (sym f ∙ e) refl

drawer_next : (w : ℕ) (k : CallerId) (v : Event) (t : TaskState) (later : Type 0) → Allows w k v t → t.place ≡ places.Drawn k → Tells t.takes v later ⊎ Leaves k t.takes v t later
drawer_next w k apart t later a h = inr (refl, refl, λ g. g)
drawer_next w k (sees x c) t later a h = inl (saw_drawn t x k h a.0)
drawer_next w k (posts b) t later a h = two_places t (places.Hands k) (places.Drawn k) a h (λ e. cc)
drawer_next w k gets t later a h = two_places t (places.Boxed k.0) (places.Drawn k) a.0 h (λ e. cc)
drawer_next w k misses t later a h = inr (refl, refl, λ g. g)
drawer_next w k draws t later a h = two_places t (places.Boxed w) (places.Drawn k) a h (λ e. cc)

-- a draw less in front changes no count of draws
pub draws-more : (i j : ℕ) (e : Entry) (h : List Entry) → draw_of (event_at i e) ≡ 0 → draws_in i (calls_of j h) ≡ 0 → draws_in i (calls_of j (e ∷ h)) ≡ 0
draws-more i j e h none rest =
    elim (whose j e h) [ inl mine ↦ rw mine.1 (omega arith) | inr others ↦ rw others.1 rest ]

-- the drawer's next look tells how often the task was taken, or nobody draws it again
pub TellsTakes-drawn : (w i : ℕ) (k : CallerId) (t : TaskState) (h : List Entry) → LegalFor w i t h → t.place ≡ places.Drawn k → TellsTakes i t.takes (calls_of k.0 h) ⊎ ((j : ℕ) → draws_in i (calls_of j h) ≡ 0)
TellsTakes-drawn w i k t [] l p = inr (λ j. refl)
TellsTakes-drawn w i k t (e ∷ h) l p =
    let v = event_at i e in
    let m = t.takes in
    let later = TellsTakes i m (calls_of k.0 h) in
    elim (whose k.0 e h) [
      | inl mine ↦
          let who : e.caller ≡ k = ap (λ (n : ℕ). let c : CallerId = record { 0 = n } in c) mine.0 in
          let a : Allows w k v t = subst (λ (c : CallerId). Allows w c v t) who l.0 in
          let on : LegalFor w i (next k v t) h = subst (λ (c : CallerId). LegalFor w i (next c v t) h) who l.1 in
          elim (drawer_next w k v t later a p) [
            | inl tells ↦ inl (rw mine.1 tells)
            | inr leaves ↦
                let same : LegalFor w i t h = rw leaves.0 at on in
                elim (TellsTakes-drawn w i k t h same p) [
                  | inl tells ↦ inl (rw mine.1 (leaves.2 tells))
                  | inr none ↦ inr (λ j. draws-more i j e h leaves.1 (none j))
                ]
          ]
      | inr others ↦
          let only = drawn_only w e.caller k v t others.0 l.0 p in
          let on = TellsTakes-drawn w i k (next e.caller v t) h l.1 only.0.0 in
          elim on [
            | inl tells ↦ inl (rw (others.1, ← only.0.1) tells)
            | inr none ↦ inr (λ j. draws-more i j e h only.1 (none j))
          ]
    ]
