-- The rule, and the rule in words, where what is left has a legal merge.
use Rattle.std.proofs.Common.{◌≡◌, ℕ, ◌+◌, ◌≤◌, ◌⊎◌, inl, inr, true, false, refl, sym, ap, subst, ◌∙◌, arith, Option, Some, None, List, [], ◌∷◌, ◌++◌}
use Rattle.std.proofs.lemmas.Bool.{cases_Bool, cases_eq}
use Rattle.sched_base.specs.declared.names.CallerId.{CallerId}
use Rattle.task_machine.specs.declared.task.Place.{Place}
use Rattle.task_machine.specs.declared.task.Place.TheVariants as places
use Rattle.task_machine.specs.declared.task.Seen.{Seen}
use Rattle.task_machine.specs.declared.task.Seen.TheVariants as views
use Rattle.task_machine.specs.declared.task.TaskState.{TaskState}
use Rattle.task_machine.specs.declared.calls.Entry.{Entry}
use Rattle.task_machine.specs.Task.{seen_at, seen_of, put}
use Rattle.task_machine.specs.History.{calls_of}
use Rattle.task_machine.specs.Event.{Change, wakes, kills, takes, drops, retires, Event, apart, sees, posts, gets, misses, draws, event_at, Allows, altered, next, LegalFor}
use Rattle.history_weave.specs.Rule.{is_quiet, Lets, LetsBy, SawTakes, TellsTakes, TellsTakesBy, draw_of, draws_in, IsLastDraw}
use Rattle.history_weave.specs.InWords.{SawAsIs, NoneSawAsIs, takes_seen, number_by, number, IsBelow}
use Rattle.history_weave.proofs.Seens.{After, After-never, After-kept, loud_after, settles}
use Rattle.history_weave.proofs.Swaps.{boxes_differ, two_places}
use Rattle.history_weave.proofs.Futures.{whose, look_keeps}
use Rattle.history_weave.proofs.Draws.{TellsTakes-drawn, drawn_only, draws-more}
use Rattle.history_weave.proofs.Moves.{left, first-draw, takes-boxed}

-- each of the entries has the property
abbrev pub Every : (Entry → Type 0) → List Entry → Type 0
Every P [] = Unit {0}
Every P (e ∷ es) = P e × Every P es

every-at : (P : Entry → Type 0) (past : List Entry) (d : Entry) (more es : List Entry) → es ≡ past ++ d ∷ more → Every P es → P d × Every P more
every-at P [] d more es e h = subst (λ (q : List Entry). Every P q) e h
every-at P (a ∷ past) d more [] e h = cc
every-at P (a ∷ past) d more (b ∷ es) e h =
    let rest : es ≡ past ++ d ∷ more = cc in every-at P past d more es rest h.1

-- an entry did not see x of task i as is
abbrev pub NotAsIs : ℕ → Seen → Entry → Type 0
NotAsIs i x d = SawAsIs i x d → ⊥

-- what is past is seen no more by anybody
past-all : (w i : ℕ) (x : Seen) (j : ℕ) (t : TaskState) (h : List Entry) → LegalFor w i t h → After x (seen_of t) → Every (NotAsIs i x) (calls_of j h)
past-all w i x j t [] l p = tt
past-all w i x j t (e ∷ h) l p =
    let v = event_at i e in
    let on = past-all w i x j (next e.caller v t) h l.1 (After-kept w e.caller v t x l.0 p) in
    elim (whose j e h) [
      | inl mine ↦
          let here : NotAsIs i x e = λ saw.
          let a : Allows w e.caller (sees x saw.0) t =
          subst (λ (u : Event). Allows w e.caller u t) saw.1 l.0 in
          After-never x (subst (λ (y : Seen). After x y) a.0 p) in rw mine.1 (here, on)
      | inr others ↦ rw others.1 on
    ]

-- behind an entry of a log whose next look is let through, the rest is let through, or x is past
lets-step : (w : ℕ) (k : CallerId) (x : Seen) (v : Event) (t : TaskState) (later : Type 0) → Allows w k v t → seen_of t ≡ x → LetsBy x v later → later ⊎ After x (seen_of (next k v t))
lets-step w k x (sees y c) t later a e h =
    let same : y ≡ x = sym a.0 ∙ e in
    inr (subst (λ (z : Seen). After z (seen_of (altered k c t))) same (loud_after w k y c t a (h same)))
lets-step w k x v t later a e h = inl h

-- an entry that is let through did not see x as is
lets-here : (i : ℕ) (x : Seen) (e : Entry) (later : Type 0) → LetsBy x (event_at i e) later → NotAsIs i x e
lets-here i x e later h saw =
    let by : LetsBy x (sees x saw.0) later = subst (λ (u : Event). LetsBy x u later) saw.1 h in
    let loud : is_quiet x saw.0 ≡ false = by refl in
    let quiet = saw.2 in cc

-- where the next look of a log is let through, none of the log saw x as is
lets-all : (w i : ℕ) (x : Seen) (j : ℕ) (t : TaskState) (h : List Entry) → LegalFor w i t h → seen_of t ≡ x → Lets i x (calls_of j h) → Every (NotAsIs i x) (calls_of j h)
lets-all w i x j t [] l s lets = tt
lets-all w i x j t (e ∷ h) l s lets =
    let v = event_at i e in
    let u = next e.caller v t in
    let gone = λ (p : After x (seen_of u)). past-all w i x j u h l.1 p in
    elim (whose j e h) [
      | inl mine ↦
          let by : LetsBy x v (Lets i x (calls_of j h)) = rw mine.1 at lets in
          let here = lets-here i x e (Lets i x (calls_of j h)) by in
          elim (lets-step w e.caller x v t (Lets i x (calls_of j h)) l.0 s by) [
            | inl later ↦ elim (settles w e.caller v t l.0) [
              | inl same ↦ rw mine.1 (here, lets-all w i x j u h l.1 (same ∙ s) later)
              | inr on ↦ rw mine.1 (here, gone (subst (λ (y : Seen). After y (seen_of u)) s on))
            ]
            | inr on ↦ rw mine.1 (here, gone on)
          ]
      | inr others ↦ elim (settles w e.caller v t l.0) [
        | inl same ↦
            let later : Lets i x (calls_of j h) = rw others.1 at lets in
            rw others.1 (lets-all w i x j u h l.1 (same ∙ s) later)
        | inr on ↦ rw others.1 (gone (subst (λ (y : Seen). After y (seen_of u)) s on))
      ]
    ]

pub none-lets : (w i : ℕ) (x : Seen) (j : ℕ) (t : TaskState) (h : List Entry) → LegalFor w i t h → seen_of t ≡ x → Lets i x (calls_of j h) → NoneSawAsIs i x (calls_of j h)
none-lets w i x j t h l s lets past d more e saw =
    (every-at (NotAsIs i x) past d more (calls_of j h) e (lets-all w i x j t h l s lets)).0 saw

lets-by : (i : ℕ) (x : Seen) (e : Entry) (v : Event) (later : Type 0) → event_at i e ≡ v → NotAsIs i x e → later → LetsBy x v later
lets-by i x e (sees y c) later ev none g =
    λ same. elim (cases_Bool (is_quiet y c)) [
      | inl quiet ↦ absurd (none (c, subst (λ (z : Seen). event_at i e ≡ sees z c) same ev, subst (λ (z : Seen). is_quiet z c ≡ true) same quiet))
      | inr loud ↦ loud
    ]
lets-by i x e v later ev none g = g

pub lets-none : (i : ℕ) (x : Seen) (es : List Entry) → NoneSawAsIs i x es → Lets i x es
lets-none i x [] none = tt
lets-none i x (e ∷ es) none =
    lets-by i x e (event_at i e) (Lets i x es) refl (none [] e es refl) (lets-none i x es (λ past d more q. none (e ∷ past) d more (ap (λ l. e ∷ l) q)))

-- a task is gone, or was taken at least m times
abbrev pub AtLeast : ℕ → Seen → Type 0
AtLeast m views.Gone = Unit {0}
AtLeast m (views.Live st p b n) = m ≤ n

AtLeast-after : (m : ℕ) (x y : Seen) → AtLeast m x → After x y → AtLeast m y
AtLeast-after m views.Gone y h g = absurd g
AtLeast-after m (views.Live st p b n) views.Gone h g = tt
AtLeast-after m (views.Live st p b n) (views.Live su q c o) h g =
    elim g [ inl lt ↦ omega arith | inr eq ↦ omega arith ]

AtLeast-kept : (w : ℕ) (k : CallerId) (v : Event) (t : TaskState) (m : ℕ) → Allows w k v t → AtLeast m (seen_of t) → AtLeast m (seen_of (next k v t))
AtLeast-kept w k v t m a h =
    elim (settles w k v t a) [
      | inl same ↦ rw same h
      | inr on ↦ AtLeast-after m (seen_of t) (seen_of (next k v t)) h on
    ]

-- a look of the entry at task i saw at least m takes
abbrev pub SawAtLeast : ℕ → ℕ → Entry → Type 0
SawAtLeast m i d = (x : Seen) (c : Change) → event_at i d ≡ sees x c → AtLeast m x

takes-grow : (w i m j : ℕ) (t : TaskState) (h : List Entry) → LegalFor w i t h → AtLeast m (seen_of t) → Every (SawAtLeast m i) (calls_of j h)
takes-grow w i m j t [] l p = tt
takes-grow w i m j t (e ∷ h) l p =
    let v = event_at i e in
    let on = takes-grow w i m j (next e.caller v t) h l.1 (AtLeast-kept w e.caller v t m l.0 p) in
    elim (whose j e h) [
      | inl mine ↦
          let here : SawAtLeast m i e = λ x c ev.
          let a : Allows w e.caller (sees x c) t = subst (λ (u : Event). Allows w e.caller u t) ev l.0 in
          subst (λ (y : Seen). AtLeast m y) a.0 p in rw mine.1 (here, on)
      | inr others ↦ rw others.1 on
    ]

seen-below : (m : ℕ) (x : Seen) → AtLeast m x → IsBelow (takes_seen x) (Some m) → ⊥
seen-below m views.Gone h b = b
seen-below m (views.Live st p q n) h b = omega arith

by-below : (m : ℕ) (v : Event) (later : Option ℕ) → ((x : Seen) (c : Change) → v ≡ sees x c → AtLeast m x) → (IsBelow later (Some m) → ⊥) → IsBelow (number_by v later) (Some m) → ⊥
by-below m apart later h g b = g b
by-below m (sees x (wakes f)) later h g b = seen-below m x (h x (wakes f) refl) b
by-below m (sees x kills) later h g b = seen-below m x (h x kills refl) b
by-below m (sees x takes) later h g b = seen-below m x (h x takes refl) b
by-below m (sees x drops) later h g b = g b
by-below m (sees x retires) later h g b = seen-below m x (h x retires refl) b
by-below m (posts n) later h g b = g b
by-below m gets later h g b = g b
by-below m misses later h g b = g b
by-below m draws later h g b = g b

number-least : (m i : ℕ) (es : List Entry) → Every (SawAtLeast m i) es → IsBelow (number i es) (Some m) → ⊥
number-least m i [] h b = b
number-least m i (e ∷ es) h b = by-below m (event_at i e) (number i es) h.0 (number-least m i es h.1) b

seen-least : (t : TaskState) (p : Place) → AtLeast t.takes (seen_at p t)
seen-least t places.Gone = tt
seen-least t p = let n = t.takes in omega arith

-- how often the task was taken at the first look of any kind
abbrev pub looked_by : Event → Option ℕ → Option ℕ
looked_by (sees x c) later = takes_seen x
looked_by v later = later

abbrev pub looked : ℕ → List Entry → Option ℕ
looked i [] = None
looked i (e ∷ es) = looked_by (event_at i e) (looked i es)

saw-takes : (m : ℕ) (x : Seen) → SawTakes m x → takes_seen x ≡ Some m
saw-takes m views.Gone h = absurd h
saw-takes m (views.Live st p b n) h = ap Some h

takes-saw : (m : ℕ) (x : Seen) → takes_seen x ≡ Some m → SawTakes m x
takes-saw m views.Gone h = cc
takes-saw m (views.Live st p b n) h = cc

looked-tells-by : (m : ℕ) (v : Event) (later : Type 0) (q : Option ℕ) → (later → q ≡ Some m) → TellsTakesBy m v later → looked_by v q ≡ Some m
looked-tells-by m (sees x c) later q f h = saw-takes m x h
looked-tells-by m v later q f h = f h

looked-tells : (m i : ℕ) (es : List Entry) → TellsTakes i m es → looked i es ≡ Some m
looked-tells m i [] h = absurd h
looked-tells m i (e ∷ es) h = looked-tells-by m (event_at i e) (TellsTakes i m es) (looked i es) (looked-tells m i es) h

tells-looked-by : (m : ℕ) (v : Event) (later : Type 0) (q : Option ℕ) → (q ≡ Some m → later) → looked_by v q ≡ Some m → TellsTakesBy m v later
tells-looked-by m (sees x c) later q f h = takes-saw m x h
tells-looked-by m v later q f h = f h

tells-looked : (m i : ℕ) (es : List Entry) → looked i es ≡ Some m → TellsTakes i m es
tells-looked m i [] h = cc
tells-looked m i (e ∷ es) h = tells-looked-by m (event_at i e) (TellsTakes i m es) (looked i es) (tells-looked m i es) h

-- a drawer does not end a run of the task before it takes it
drawer-number : (w : ℕ) (k : CallerId) (v : Event) (t : TaskState) (a b : Option ℕ) → Allows w k v t → t.place ≡ places.Drawn k → (next k v t ≡ t → a ≡ b) → number_by v a ≡ looked_by v b
drawer-number w k apart t a b h p same = same refl
drawer-number w k (sees x (wakes f)) t a b h p same = refl
drawer-number w k (sees x kills) t a b h p same = refl
drawer-number w k (sees x takes) t a b h p same = refl
drawer-number w k (sees x drops) t a b h p same = two_places t (places.Runs k) (places.Drawn k) h.1 p (λ e. cc)
drawer-number w k (sees x retires) t a b h p same = refl
drawer-number w k (posts n) t a b h p same = two_places t (places.Hands k) (places.Drawn k) h p (λ e. cc)
drawer-number w k gets t a b h p same = two_places t (places.Boxed k.0) (places.Drawn k) h.0 p (λ e. cc)
drawer-number w k misses t a b h p same = same refl
drawer-number w k draws t a b h p same = two_places t (places.Boxed w) (places.Drawn k) h p (λ e. cc)

number-looked : (w i : ℕ) (k : CallerId) (t : TaskState) (h : List Entry) → LegalFor w i t h → t.place ≡ places.Drawn k → number i (calls_of k.0 h) ≡ looked i (calls_of k.0 h)
number-looked w i k t [] l p = refl
number-looked w i k t (e ∷ h) l p =
    let v = event_at i e in
    elim (whose k.0 e h) [
      | inl mine ↦
          let who : e.caller ≡ k = ap (λ (n : ℕ). let c : CallerId = record { 0 = n } in c) mine.0 in
          let a : Allows w k v t = subst (λ (c : CallerId). Allows w c v t) who l.0 in
          let on : LegalFor w i (next k v t) h = subst (λ (c : CallerId). LegalFor w i (next c v t) h) who l.1 in
          let rest : next k v t ≡ t → number i (calls_of k.0 h) ≡ looked i (calls_of k.0 h) =
          λ same. number-looked w i k t h (rw same at on) p in
          rw mine.1 (drawer-number w k v t (number i (calls_of k.0 h)) (looked i (calls_of k.0 h)) a p rest)
      | inr others ↦
          let only = drawn_only w e.caller k v t others.0 l.0 p in
          rw others.1 (number-looked w i k (next e.caller v t) h l.1 only.0.0)
    ]

-- the task after a draw
drawn-on : (w i : ℕ) (d : Entry) (t : TaskState) (h : List Entry) → event_at i d ≡ draws → LegalFor w i (next d.caller (event_at i d) t) h → LegalFor w i (put (places.Drawn d.caller) t) h
drawn-on w i d t h ev l = subst (λ (u : Event). LegalFor w i (next d.caller u t) h) ev l

behind-draw : (w i : ℕ) (e : Entry) (r : List Entry) (t : TaskState) (h : List Entry) → LegalFor w i t h → calls_of e.caller.0 h ≡ e ∷ r → event_at i e ≡ draws → number i r ≡ looked i r
behind-draw w i e r t [] l first ev = cc
behind-draw w i e r t (d ∷ h) l first ev =
    elim (whose e.caller.0 d h) [
      | inl mine ↦
          let heads : d ∷ calls_of e.caller.0 h ≡ e ∷ r = sym mine.1 ∙ first in
          let here : d ≡ e = cc in
          let rest : calls_of e.caller.0 h ≡ r = cc in
          let on = drawn-on w i d t h (ap (event_at i) here ∙ ev) l.1 in
          let fact = number-looked w i d.caller (put (places.Drawn d.caller) t) h on refl in
          let moved : number i (calls_of e.caller.0 h) ≡ looked i (calls_of e.caller.0 h) =
          subst (λ (k : ℕ). number i (calls_of k h) ≡ looked i (calls_of k h)) mine.0 fact in
          subst (λ (q : List Entry). number i q ≡ looked i q) rest moved
      | inr others ↦
          behind-draw w i e r (next d.caller (event_at i d) t) h l.1 (sym others.1 ∙ first) ev
    ]

-- a task in the shared box stays there until it is drawn
boxed-stays : (w : ℕ) (k : CallerId) (v : Event) (t : TaskState) → Allows w k v t → t.place ≡ places.Boxed w → (v ≡ draws) ⊎ (((next k v t).place ≡ places.Boxed w) × ((next k v t).takes ≡ t.takes) × (draw_of v ≡ 0))
boxed-stays w k apart t a p = inr (p, refl, refl)
boxed-stays w k (sees x c) t a p = inr (look_keeps w k x c w t a p, takes-boxed w k (sees x c) w t a p, refl)
boxed-stays w k (posts b) t a p = two_places t (places.Hands k) (places.Boxed w) a p (λ e. cc)
boxed-stays w k gets t a p =
    two_places t (places.Boxed k.0) (places.Boxed w) a.0 p (boxes_differ k.0 w (let lt = a.1 in omega arith))
boxed-stays w k misses t a p = inr (p, refl, refl)
boxed-stays w k draws t a p = inl refl

-- among the entries is a draw of task i with the number m
abbrev pub HasDraw : ℕ → ℕ → List Entry → Type 0
HasDraw i m es =
    (past : List Entry) × (d : Entry) × (more : List Entry) × (es ≡ past ++ d ∷ more) × (event_at i d ≡ draws) × (number i more ≡ Some m)

draw-behind : (i m : ℕ) (e : Entry) (es : List Entry) → HasDraw i m es → HasDraw i m (e ∷ es)
draw-behind i m e es h = (e ∷ h.0, h.1, h.2, ap (λ l. e ∷ l) h.3, h.4, h.5)

-- an entry of caller k that is a draw may be the next of task i, or some other draw has the number m
abbrev pub DrawsFirst : ℕ → ℕ → ℕ → List Entry → Type 0
DrawsFirst i m k h =
    (TellsTakes i m (calls_of k h) ⊎ IsLastDraw (left h) k i) ⊎ ((j : ℕ) × HasDraw i m (calls_of j h))

first-drawn-here : (w i m k : ℕ) (d : Entry) (t : TaskState) (h : List Entry) → d.caller.0 ≡ k → event_at i d ≡ draws → LegalFor w i (put (places.Drawn d.caller) t) h → t.takes ≡ m → DrawsFirst i m k (d ∷ h)
first-drawn-here w i m k d t h who ev l n =
    let ready : TellsTakes i t.takes (calls_of d.caller.0 (d ∷ h)) ⊎ IsLastDraw (left (d ∷ h)) d.caller.0 i =
    first-draw w i d h t ev l in
    let named = subst (λ (q : ℕ). TellsTakes i q (calls_of d.caller.0 (d ∷ h)) ⊎ IsLastDraw (left (d ∷ h)) d.caller.0 i) n ready in
    inl (subst (λ (q : ℕ). TellsTakes i m (calls_of q (d ∷ h)) ⊎ IsLastDraw (left (d ∷ h)) q i) who named)

first-drawn-other : (w i m : ℕ) (e : Entry) (r : List Entry) (d : Entry) (t : TaskState) (h : List Entry) → event_at i d ≡ draws → LegalFor w i (put (places.Drawn d.caller) t) h → t.takes ≡ m → calls_of e.caller.0 h ≡ e ∷ r → event_at i e ≡ draws → (j : ℕ) × HasDraw i m (calls_of j (d ∷ h))
first-drawn-other w i m e r d t h drawn l n first ev =
    let k = d.caller in
    elim (TellsTakes-drawn w i k (put (places.Drawn k) t) h l refl) [
      | inl tells ↦
          let told : number i (calls_of k.0 h) ≡ Some m =
          number-looked w i k (put (places.Drawn k) t) h l refl ∙ looked-tells t.takes i (calls_of k.0 h) tells ∙ ap Some n in
          let here : HasDraw i m (d ∷ calls_of k.0 h) = ([], d, calls_of k.0 h, refl, drawn, told) in
          elim (whose k.0 d h) [
            | inl mine ↦ (k.0, rw mine.1 here)
            | inr others ↦ absurd (others.0 refl)
          ]
      | inr none ↦
          let some : draw_of (event_at i e) + draws_in i r ≡ 0 = rw first at (none e.caller.0) in
          let one : draw_of draws + draws_in i r ≡ 0 = rw ev at some in absurd (omega arith)
    ]

first-drawn : (w i m : ℕ) (e : Entry) (r : List Entry) (t : TaskState) (h : List Entry) → LegalFor w i t h → t.place ≡ places.Boxed w → t.takes ≡ m → calls_of e.caller.0 h ≡ e ∷ r → event_at i e ≡ draws → DrawsFirst i m e.caller.0 h
first-drawn w i m e r t [] l p n first ev = cc
first-drawn w i m e r t (d ∷ h) l p n first ev =
    let k = e.caller.0 in
    let v = event_at i d in
    elim (whose k d h) [
      | inl mine ↦
          let heads : d ∷ calls_of k h ≡ e ∷ r = sym mine.1 ∙ first in
          let here : d ≡ e = cc in
          let drawn : v ≡ draws = ap (event_at i) here ∙ ev in
          first-drawn-here w i m k d t h mine.0 drawn (drawn-on w i d t h drawn l.1) n
      | inr others ↦
          let later : calls_of k h ≡ e ∷ r = sym others.1 ∙ first in
          elim (boxed-stays w d.caller v t l.0 p) [
            | inl drawn ↦ inr (first-drawn-other w i m e r d t h drawn (drawn-on w i d t h drawn l.1) n later ev)
            | inr stays ↦ elim (first-drawn w i m e r (next d.caller v t) h l.1 stays.0 (stays.1 ∙ n) later ev) [
              | inl ready ↦ inl (elim ready [
                | inl tells ↦ inl (rw others.1 tells)
                | inr last ↦ inr (rw others.1 last.0, λ j ne. draws-more i j d h stays.2 (last.1 j ne))
              ])
              | inr some ↦ inr (
                some.0,
                elim (whose some.0 d h) [
                  | inl mine ↦ rw mine.1 (draw-behind i m d (calls_of some.0 h) some.1)
                  | inr away ↦ rw away.1 some.1
                ],
              )
            ]
          ]
    ]

draws-some : (i : ℕ) (past : List Entry) (d : Entry) (more : List Entry) → event_at i d ≡ draws → draws_in i (past ++ d ∷ more) ≡ 0 → ⊥
draws-some i [] d more ev h = let one : draw_of draws + draws_in i more ≡ 0 = rw ev at h in omega arith
draws-some i (a ∷ past) d more ev h = draws-some i past d more ev (omega arith)

never-below : (q : Option ℕ) → IsBelow q q → ⊥
never-below None h = h
never-below (Some n) h = omega arith

-- the only draw of a log is its first entry
only-draw : (i : ℕ) (e : Entry) (r past : List Entry) (d : Entry) (more : List Entry) → e ∷ r ≡ past ++ d ∷ more → event_at i d ≡ draws → draws_in i r ≡ 0 → r ≡ more
only-draw i e r [] d more h ev none = cc
only-draw i e r (a ∷ past) d more h ev none =
    let rest : r ≡ past ++ d ∷ more = cc in absurd (draws-some i past d more ev (rw rest at none))

-- task i is in the shared box, and was taken m times; entry e, which is a draw of it, is the head of its
-- log, with r behind it
pub record Drawing (w i m : ℕ) (e : Entry) (r : List Entry) (t : TaskState) (h : List Entry) : Type 0 where
  pub legal : LegalFor w i t h
  pub boxed : t.place ≡ places.Boxed w
  pub takes : t.takes ≡ m
  pub first : calls_of e.caller.0 h ≡ e ∷ r
  pub drawn : event_at i e ≡ draws

grown : (w i m j : ℕ) (e : Entry) (r : List Entry) (t : TaskState) (h : List Entry) → Drawing w i m e r t h → Every (SawAtLeast m i) (calls_of j h)
grown w i m j e r t h b =
    takes-grow w i m j t h b.legal (subst (λ (q : ℕ). AtLeast q (seen_of t)) b.takes (seen-least t t.place))

pub ready-lowest : (w i m : ℕ) (e : Entry) (r : List Entry) (t : TaskState) (h : List Entry) → Drawing w i m e r t h → TellsTakes i m (calls_of e.caller.0 h) ⊎ IsLastDraw (left h) e.caller.0 i → (j : ℕ) (past : List Entry) (d : Entry) (more : List Entry) → calls_of j h ≡ past ++ d ∷ more → event_at i d ≡ draws → IsBelow (number i more) (number i r) → ⊥
ready-lowest w i m e r t h b ready j past d more stands ev below =
    elim ready [
      | inl tells ↦
          let here : TellsTakesBy m (event_at i e) (TellsTakes i m r) = rw b.first at tells in
          let rest : TellsTakes i m r = rw b.drawn at here in
          let told : number i r ≡ Some m =
          behind-draw w i e r t h b.legal b.first b.drawn ∙ looked-tells m i r rest in
          let least = (every-at (SawAtLeast m i) past d more (calls_of j h) stands (grown w i m j e r t h b)).1 in
          number-least m i more least (subst (λ (q : Option ℕ). IsBelow (number i more) q) told below)
      | inr last ↦ elim (cases_eq j e.caller.0) [
        | inl same ↦
            let count : draw_of (event_at i e) + draws_in i r ≡ 1 = rw b.first at last.0 in
            let one : draw_of draws + draws_in i r ≡ 1 = rw b.drawn at count in
            let mine : calls_of e.caller.0 h ≡ past ++ d ∷ more =
            subst (λ (q : ℕ). calls_of q h ≡ past ++ d ∷ more) same stands in
            let rest : r ≡ more = only-draw i e r past d more (sym b.first ∙ mine) ev (omega arith) in
            never-below (number i more) (subst (λ (q : List Entry). IsBelow (number i more) (number i q)) rest below)
        | inr ne ↦ draws-some i past d more ev (rw stands at (last.1 j ne))
      ]
    ]

squeezed : (m : ℕ) (q : Option ℕ) → (IsBelow (Some m) q → ⊥) → (IsBelow q (Some m) → ⊥) → q ≡ Some m
squeezed m None h g = absurd (h tt)
squeezed m (Some n) h g = let e : n ≡ m = omega arith in ap Some e

pub lowest-ready : (w i m : ℕ) (e : Entry) (r : List Entry) (t : TaskState) (h : List Entry) → Drawing w i m e r t h → ((j : ℕ) (past : List Entry) (d : Entry) (more : List Entry) → calls_of j h ≡ past ++ d ∷ more → event_at i d ≡ draws → IsBelow (number i more) (number i r) → ⊥) → TellsTakes i m (calls_of e.caller.0 h) ⊎ IsLastDraw (left h) e.caller.0 i
lowest-ready w i m e r t h b lowest =
    elim (first-drawn w i m e r t h b.legal b.boxed b.takes b.first b.drawn) [
      | inl ready ↦ ready
      | inr some ↦
          let d = some.1 in
          let above : IsBelow (Some m) (number i r) → ⊥ =
          subst (λ (q : Option ℕ). IsBelow q (number i r) → ⊥) d.5 (lowest some.0 d.0 d.1 d.2 d.3 d.4) in
          let all : Every (SawAtLeast m i) (e ∷ r) = rw b.first at (grown w i m e.caller.0 e r t h b) in
          let told : number i r ≡ Some m = squeezed m (number i r) above (number-least m i r all.1) in
          let looks = sym (behind-draw w i e r t h b.legal b.first b.drawn) ∙ told in
          let rest : TellsTakes i m r = tells-looked m i r looks in
          let here : TellsTakesBy m (event_at i e) (TellsTakes i m r) = rw b.drawn rest in inl (rw b.first here)
    ]
