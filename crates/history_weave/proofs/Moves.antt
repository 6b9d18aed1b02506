-- An entry that may go can be moved to the front of what a legal history of one task has left, and
-- the first entry of a legal history may go.
use Rattle.std.proofs.Common.{◌≡◌, ◌≢◌, ℕ, ◌+◌, ◌⊎◌, inl, inr, Bool, true, false, refl, sym, ap, ◌∙◌, arith, List, [], ◌∷◌}
use Rattle.std.proofs.lemmas.Bool.{cases_Bool}
use Rattle.sched_base.specs.declared.names.CallerId.{CallerId}
use Rattle.task_machine.specs.declared.task.Place.TheVariants as places
use Rattle.task_machine.specs.declared.task.Seen.{Seen}
use Rattle.task_machine.specs.declared.task.TaskState.{TaskState}
use Rattle.task_machine.specs.declared.calls.Entry.{Entry}
use Rattle.task_machine.specs.Task.{put}
use Rattle.task_machine.specs.History.{calls_of}
use Rattle.task_machine.specs.Event.{Change, wakes, kills, takes, drops, retires, Event, apart, sees, posts, gets, misses, draws, event_at, Allows, altered, next, LegalFor, led_for}
use Rattle.history_weave.specs.Rule.{is_quiet, Lets, LetsBy, Holds, HoldsBy, TellsTakes, draw_of, draws_in, ReadyAt}
use Rattle.history_weave.proofs.Seens.{at, loud_after}
use Rattle.history_weave.proofs.Swaps.{Apart, swaps, at_place, held_in_box, two_places}
use Rattle.history_weave.proofs.Futures.{all_but, whose, Unseen, UnseenBy, Unseen-past, Lets-Unseen, Holds-boxed}
use Rattle.history_weave.proofs.Draws.{draw_apart, TellsTakes-drawn}

-- what each caller has left
abbrev pub left : List Entry → ℕ → List Entry
left h j = calls_of j h

-- the entry with which a history begins, which is v for task i
first-lets : (w i : ℕ) (e : Entry) (h : List Entry) (t : TaskState) (x : Seen) (c : Change) → event_at i e ≡ sees x c → Allows w e.caller (sees x c) t → LegalFor w i (altered e.caller c t) h → is_quiet x c ≡ false → (j : ℕ) → Lets i x (calls_of j (e ∷ h))
first-lets w i e h t x c ev a l loud j =
    elim (whose j e h) [
      | inl mine ↦ rw (mine.1, ev) (λ same. loud)
      | inr others ↦ rw others.1 (Lets-Unseen i x (calls_of j h) (Unseen-past w i x j (altered e.caller c t) h l (loud_after w e.caller x c t a loud)))
    ]

first-holds : (w i : ℕ) (e : Entry) (h : List Entry) (t : TaskState) (b : ℕ) → event_at i e ≡ posts b → LegalFor w i (put (places.Boxed b) t) h → Holds i (calls_of b (e ∷ h))
first-holds w i e h t b ev l =
    let later = Holds-boxed w i b (put (places.Boxed b) t) h l refl in
    elim (whose b e h) [ inl mine ↦ rw (mine.1, ev) later | inr others ↦ rw others.1 later ]

pub first-draw : (w i : ℕ) (e : Entry) (h : List Entry) (t : TaskState) → event_at i e ≡ draws → LegalFor w i (put (places.Drawn e.caller) t) h → ReadyAt (left (e ∷ h)) e.caller.0 i draws t
first-draw w i e h t ev l =
    elim (whose e.caller.0 e h) [
      | inl mine ↦ elim (TellsTakes-drawn w i e.caller (put (places.Drawn e.caller) t) h l refl) [
        | inl tells ↦ inl (rw (mine.1, ev) tells)
        | inr none ↦
            inr (
              rw (mine.1, ev) (let n = none e.caller.0 in omega arith),
              λ j ne. elim (whose j e h) [ inl here ↦ absurd (ne (sym here.0)) | inr others ↦ rw others.1 (none j) ],
            )
      ]
      | inr others ↦ absurd (others.0 refl)
    ]

first-by : (w i : ℕ) (e : Entry) (h : List Entry) (t : TaskState) (v : Event) → event_at i e ≡ v → Allows w e.caller v t → LegalFor w i (next e.caller v t) h → ReadyAt (left (e ∷ h)) e.caller.0 i v t
first-by w i e h t apart ev a l = tt
first-by w i e h t (sees x c) ev a l =
    elim (cases_Bool (is_quiet x c)) [
      | inl quiet ↦ inl quiet
      | inr loud ↦ inr (λ j. first-lets w i e h t x c ev a l loud j)
    ]
first-by w i e h t (posts b) ev a l = first-holds w i e h t b ev l
first-by w i e h t gets ev a l = tt
first-by w i e h t misses ev a l = tt
first-by w i e h t draws ev a l = first-draw w i e h t ev l

-- the first entry of a legal history may go
pub first_ready : (w i : ℕ) (e : Entry) (h : List Entry) (t : TaskState) → LegalFor w i t (e ∷ h) → ReadyAt (left (e ∷ h)) e.caller.0 i (event_at i e) t
first_ready w i e h t l = first-by w i e h t (event_at i e) refl l.0 l.1

-- an entry e of caller k that may go, and d, with which the history begins and which is another
-- caller's: what e and d are for task i are u and v
abbrev Beside : ℕ → ℕ → Entry → List Entry → Entry → List Entry → Event → Event → TaskState → Type 0
Beside w i e r d h u v t =
    (event_at i e ≡ u) × (event_at i d ≡ v) × ReadyAt (left (d ∷ h)) e.caller.0 i u t × Allows w e.caller u t × Allows w d.caller v t × LegalFor w i (next d.caller v t) h × (d.caller.0 ≢ e.caller.0) × (calls_of e.caller.0 (d ∷ h) ≡ calls_of e.caller.0 h) × (calls_of e.caller.0 h ≡ e ∷ r)

clear-looks : (w i : ℕ) (e : Entry) (r : List Entry) (d : Entry) (h : List Entry) (x : Seen) (c : Change) (y : Seen) (f : Change) (t : TaskState) → Beside w i e r d h (sees x c) (sees y f) t → (is_quiet x c ≡ true) × (is_quiet y f ≡ true)
clear-looks w i e r d h x c y f t b =
    let same : y ≡ x = sym b.4.0 ∙ b.3.0 in
    let quiet_head : is_quiet y f ≡ true =
    elim (cases_Bool (is_quiet y f)) [
      | inl quiet ↦ quiet
      | inr loud ↦
          let past = Unseen-past w i y e.caller.0 (altered d.caller f t) h b.5 (loud_after w d.caller y f t b.4 loud) in
          let here : UnseenBy y (event_at i e) (Unseen i y r) = rw b.8 at past in
          let seen : UnseenBy y (sees x c) (Unseen i y r) = rw b.0 at here in absurd (seen (sym same))
    ] in (
      elim b.2 [
        | inl quiet ↦ quiet
        | inr lets ↦ elim (whose d.caller.0 d h) [
          | inl mine ↦
              let here : LetsBy x (event_at i d) (Lets i x (calls_of d.caller.0 h)) = rw mine.1 at (lets d.caller.0) in
              let loud : LetsBy x (sees y f) (Lets i x (calls_of d.caller.0 h)) = rw b.1 at here in
              absurd (let g = loud same in cc)
          | inr others ↦ absurd (others.0 refl)
        ]
      ],
      quiet_head,
    )

clear-post : (w i : ℕ) (e : Entry) (r : List Entry) (d : Entry) (h : List Entry) (o : ℕ) (t : TaskState) → Beside w i e r d h (posts o) misses t → o ≢ d.caller.0
clear-post w i e r d h o t b =
    λ same. elim (whose o d h) [
      | inl mine ↦
          let here : HoldsBy (event_at i d) (Holds i (calls_of o h)) = rw mine.1 at b.2 in
          let miss : HoldsBy misses (Holds i (calls_of o h)) = rw b.1 at here in absurd miss
      | inr others ↦ others.0 (sym same)
    ]

clear-miss : (w i : ℕ) (e : Entry) (r : List Entry) (d : Entry) (h : List Entry) (o : ℕ) (t : TaskState) → Beside w i e r d h misses (posts o) t → o ≢ e.caller.0
clear-miss w i e r d h o t b =
    λ same.
    let holds : Holds i (calls_of o h) = Holds-boxed w i o (put (places.Boxed o) t) h b.5 refl in
    let mine : Holds i (e ∷ r) = rw (same, b.8) at holds in
    let miss : HoldsBy misses (Holds i r) = rw b.0 at mine in miss

clear-draws : (w i : ℕ) (e : Entry) (r : List Entry) (d : Entry) (h : List Entry) (t : TaskState) → Beside w i e r d h draws draws t → ⊥
clear-draws w i e r d h t b =
    elim b.2 [
      | inl tells ↦
          let later : TellsTakes i t.takes (calls_of e.caller.0 h) = rw b.7 at tells in
          draw_apart w i d.caller e.caller.0 t.takes e r (put (places.Drawn d.caller) t) h b.5 refl refl b.8 b.0 later
      | inr last ↦ elim (whose d.caller.0 d h) [
        | inl mine ↦
            let none : draws_in i (calls_of d.caller.0 (d ∷ h)) ≡ 0 = last.1 d.caller.0 b.6 in
            let here : draw_of (event_at i d) + draws_in i (calls_of d.caller.0 h) ≡ 0 = rw mine.1 at none in
            let one : draw_of draws + draws_in i (calls_of d.caller.0 h) ≡ 0 = rw b.1 at here in
            absurd (omega arith)
        | inr others ↦ absurd (others.0 refl)
      ]
    ]

clears : (w i : ℕ) (e : Entry) (r : List Entry) (d : Entry) (h : List Entry) (u v : Event) (t : TaskState) → Beside w i e r d h u v t → Apart e.caller u d.caller v
clears w i e r d h (sees x c) (sees y f) t b = clear-looks w i e r d h x c y f t b
clears w i e r d h (posts o) misses t b = clear-post w i e r d h o t b
clears w i e r d h misses (posts o) t b = clear-miss w i e r d h o t b
clears w i e r d h draws draws t b = absurd (clear-draws w i e r d h t b)
clears w i e r d h u v t b = tt

-- an event that goes leaves the entry ready
lets-tail : (x : Seen) (c : Change) (k j : CallerId) (v : Event) (later : Type 0) → Apart k (sees x c) j v → LetsBy x v later → (is_quiet x c ≡ true) ⊎ later
lets-tail x c k j (sees y f) later p h = inl p.0
lets-tail x c k j v later p h = inr h

-- whether all of these hold, or one says more
all_or : (x : Seen) (i : ℕ) (q : Bool) (h : List Entry) → ((j : ℕ) → (q ≡ true) ⊎ Lets i x (calls_of j h)) → (q ≡ true) ⊎ ((j : ℕ) → Lets i x (calls_of j h))
all_or x i true h f = inl refl
all_or x i false h f = inr (λ j. elim (f j) [ inl q ↦ absurd (cc) | inr g ↦ g ])

holds-tail : (w : ℕ) (j : CallerId) (v : Event) (k : CallerId) (t : TaskState) (later : Type 0) → Allows w j v t → t.place ≡ places.Hands k → HoldsBy v later → later
holds-tail w j gets k t later a p h =
    two_places t (places.Boxed j.0) (places.Hands k) a.0 p (λ e. cc)
holds-tail w j misses k t later a p h = absurd h
holds-tail w j v k t later a p h = h

takes-at : (w : ℕ) (k : CallerId) (x : Seen) (c : Change) (b n : ℕ) (f : Bool) (m : ℕ) → Allows w k (sees x c) (at (places.Boxed b) n f m) → (altered k c (at (places.Boxed b) n f m)).takes ≡ m
takes-at w k x (wakes g) b n f m a = refl
takes-at w k x kills b n f m a = refl
takes-at w k x takes b n f m a = absurd (held_in_box k b a.1)
takes-at w k x drops b n f m a = absurd (let h = a.1 in cc)
takes-at w k x retires b n f m a = absurd (elim a.1 [ inl held ↦ held_in_box k b held | inr q ↦ cc ])

pub takes-boxed : (w : ℕ) (k : CallerId) (v : Event) (b : ℕ) (t : TaskState) → Allows w k v t → t.place ≡ places.Boxed b → (next k v t).takes ≡ t.takes
takes-boxed w k (sees x c) b t a h =
    at_place (λ s. Allows w k (sees x c) s → (altered k c s).takes ≡ s.takes) t (places.Boxed b) h (λ g. takes-at w k x c b t.pending t.killed t.takes g) a
takes-boxed w k apart b t a h = refl
takes-boxed w k v b t a h = refl

ready-looks : (w i : ℕ) (e : Entry) (r : List Entry) (d : Entry) (h : List Entry) (x : Seen) (c : Change) (v : Event) (t : TaskState) → Beside w i e r d h (sees x c) v t → Apart e.caller (sees x c) d.caller v → ReadyAt (left h) e.caller.0 i (sees x c) (next d.caller v t)
ready-looks w i e r d h x c v t b p =
    elim b.2 [
      | inl quiet ↦ inl quiet
      | inr lets ↦ all_or x i (is_quiet x c) h (λ j. elim (whose j d h) [
        | inl mine ↦
            let here : LetsBy x (event_at i d) (Lets i x (calls_of j h)) = rw mine.1 at (lets j) in
            let by : LetsBy x v (Lets i x (calls_of j h)) = rw b.1 at here in
            lets-tail x c e.caller d.caller v (Lets i x (calls_of j h)) p by
        | inr others ↦ inr (rw others.1 at (lets j))
      ])
    ]

ready-posts : (w i : ℕ) (e : Entry) (r : List Entry) (d : Entry) (h : List Entry) (o : ℕ) (v : Event) (t : TaskState) → Beside w i e r d h (posts o) v t → Holds i (calls_of o h)
ready-posts w i e r d h o v t b =
    elim (whose o d h) [
      | inl mine ↦
          let here : HoldsBy (event_at i d) (Holds i (calls_of o h)) = rw mine.1 at b.2 in
          let by : HoldsBy v (Holds i (calls_of o h)) = rw b.1 at here in
          holds-tail w d.caller v e.caller t (Holds i (calls_of o h)) b.4 b.3 by
      | inr others ↦ rw others.1 at b.2
    ]

ready-draws : (w i : ℕ) (e : Entry) (r : List Entry) (d : Entry) (h : List Entry) (v : Event) (t : TaskState) → Beside w i e r d h draws v t → ReadyAt (left h) e.caller.0 i draws (next d.caller v t)
ready-draws w i e r d h v t b =
    elim b.2 [
      | inl tells ↦
          let later : TellsTakes i t.takes (calls_of e.caller.0 h) = rw b.7 at tells in
          inl (rw (takes-boxed w d.caller v w t b.4 b.3) later)
      | inr last ↦
          inr (
            rw (← b.7) last.0,
            λ j ne. let none = last.1 j ne in elim (whose j d h) [
              | inl mine ↦
                  let here : draw_of (event_at i d) + draws_in i (calls_of j h) ≡ 0 = rw mine.1 at none in omega arith
              | inr others ↦ rw others.1 at none
            ],
          )
    ]

ready_tail : (w i : ℕ) (e : Entry) (r : List Entry) (d : Entry) (h : List Entry) (u v : Event) (t : TaskState) → Beside w i e r d h u v t → Apart e.caller u d.caller v → ReadyAt (left h) e.caller.0 i u (next d.caller v t)
ready_tail w i e r d h apart v t b p = tt
ready_tail w i e r d h (sees x c) v t b p = ready-looks w i e r d h x c v t b p
ready_tail w i e r d h (posts o) v t b p = ready-posts w i e r d h o v t b
ready_tail w i e r d h gets v t b p = tt
ready_tail w i e r d h misses v t b p = tt
ready_tail w i e r d h draws v t b p = ready-draws w i e r d h v t b

-- what is left of task i's history behind entry e, when e goes first
pub record Moved (w i : ℕ) (e : Entry) (h : List Entry) (t : TaskState) : Type 0 where
  pub legal : LegalFor w i (next e.caller (event_at i e) t) (all_but e.caller.0 h)
  pub same : led_for i t h ≡ led_for i (next e.caller (event_at i e) t) (all_but e.caller.0 h)

pub move : (w i : ℕ) (e : Entry) (r h : List Entry) (t : TaskState) → ReadyAt (left h) e.caller.0 i (event_at i e) t → Allows w e.caller (event_at i e) t → calls_of e.caller.0 h ≡ e ∷ r → LegalFor w i t h → Moved w i e h t
move w i e r [] t ready a first l = cc
move w i e r (d ∷ h) t ready a first l =
    elim (whose e.caller.0 d h) [
      | inl mine ↦
          let heads : d ∷ calls_of e.caller.0 h ≡ e ∷ r = sym mine.1 ∙ first in
          let here : d ≡ e = cc in
          record {
            legal = rw (mine.2, ← here) l.1;
            same = rw (mine.2, ← here);
          }
      | inr others ↦
          let u = event_at i e in
          let v = event_at i d in
          let later : calls_of e.caller.0 h ≡ e ∷ r = sym others.1 ∙ first in
          let b : Beside w i e r d h u v t = (refl, refl, ready, a, l.0, l.1, others.0, others.1, later) in
          let p = clears w i e r d h u v t b in
          let s = swaps w e.caller u d.caller v t (λ same. others.0 (sym same)) p a l.0 in
          let m = move w i e r h (next d.caller v t) (ready_tail w i e r d h u v t b p) s.before later l.1 in
          record {
            legal = rw others.2 (s.behind, rw s.same m.legal);
            same = rw others.2 (m.same ∙ ap (λ q. led_for i q (all_but e.caller.0 h)) (sym s.same));
          }
    ]
