-- What a legal history of one task may still hold, from the state in which the task is.
use Rattle.std.proofs.Common.{◌≡◌, ◌≢◌, ℕ, ◌<◌, ◌⊎◌, inl, inr, Bool, ◌==◌, if◌then◌else◌, refl, sym, ap, subst, ◌∙◌, arith, List, [], ◌∷◌}
use Rattle.std.proofs.lemmas.Bool.{cases_lt}
use Rattle.std.proofs.lemmas.Bool.Decides.{eqb_tells}
use Rattle.sched_base.specs.declared.names.CallerId.{CallerId}
use Rattle.task_machine.specs.declared.task.Place.TheVariants as places
use Rattle.task_machine.specs.declared.task.Seen.{Seen}
use Rattle.task_machine.specs.declared.task.TaskState.{TaskState}
use Rattle.task_machine.specs.declared.calls.Entry.{Entry}
use Rattle.task_machine.specs.Task.{seen_of}
use Rattle.task_machine.specs.History.{calls_of}
use Rattle.task_machine.specs.Event.{Change, wakes, kills, takes, drops, retires, Event, apart, sees, posts, gets, misses, draws, event_at, Allows, altered, next, LegalFor}
use Rattle.history_weave.specs.Rule.{Lets, LetsBy, Holds, HoldsBy}
use Rattle.history_weave.proofs.Seens.{at, After, After-never, After-kept}
use Rattle.history_weave.proofs.Swaps.{at_place, boxes_differ, held_in_box, two_places}

-- the entries without the first one of caller k
abbrev pub all_but : ℕ → List Entry → List Entry
all_but k [] = []
all_but k (e ∷ es) = if e.caller.0 == k then es else e ∷ all_but k es

-- the calls of caller j and all else, split by whose the first entry is
abbrev pub Mine : ℕ → Entry → List Entry → Type 0
Mine j e h = (e.caller.0 ≡ j) × (calls_of j (e ∷ h) ≡ e ∷ calls_of j h) × (all_but j (e ∷ h) ≡ h)

abbrev pub Others : ℕ → Entry → List Entry → Type 0
Others j e h =
    (e.caller.0 ≢ j) × (calls_of j (e ∷ h) ≡ calls_of j h) × (all_but j (e ∷ h) ≡ e ∷ all_but j h)

pub whose : (j : ℕ) (e : Entry) (h : List Entry) → Mine j e h ⊎ Others j e h
whose j e h =
    elim (eqb_tells e.caller.0 j) [
      | inl hit ↦ inl (hit.1, rw hit.0, rw hit.0)
      | inr miss ↦ inr (miss.1, rw miss.0, rw miss.0)
    ]

-- the first look at task i in the log did not see x
abbrev pub UnseenBy : Seen → Event → Type 0 → Type 0
UnseenBy x (sees y c) later = y ≢ x
UnseenBy x v later = later

abbrev pub Unseen : ℕ → Seen → List Entry → Type 0
Unseen i x [] = Unit {0}
Unseen i x (e ∷ es) = UnseenBy x (event_at i e) (Unseen i x es)

unseen-next : (w : ℕ) (k : CallerId) (x : Seen) (v : Event) (t : TaskState) (later : Type 0) → Allows w k v t → After x (seen_of t) → later → UnseenBy x v later
unseen-next w k x apart t later a h g = g
unseen-next w k x (sees y c) t later a h g =
    λ e. After-never x (subst (λ (z : Seen). After x z) (a.0 ∙ e) h)
unseen-next w k x (posts b) t later a h g = g
unseen-next w k x gets t later a h g = g
unseen-next w k x misses t later a h g = g
unseen-next w k x draws t later a h g = g

-- what is past is not seen by the next look of anybody
pub Unseen-past : (w i : ℕ) (x : Seen) (j : ℕ) (t : TaskState) (h : List Entry) → LegalFor w i t h → After x (seen_of t) → Unseen i x (calls_of j h)
Unseen-past w i x j t [] l p = tt
Unseen-past w i x j t (e ∷ h) l p =
    let v = event_at i e in
    let later = Unseen-past w i x j (next e.caller v t) h l.1 (After-kept w e.caller v t x l.0 p) in
    elim (whose j e h) [
      | inl mine ↦ rw mine.1 (unseen-next w e.caller x v t (Unseen i x (calls_of j h)) l.0 p later)
      | inr others ↦ rw others.1 later
    ]

lets-unseen : (x : Seen) (v : Event) (a b : Type 0) → (a → b) → UnseenBy x v a → LetsBy x v b
lets-unseen x apart a b f h = f h
lets-unseen x (sees y c) a b f h = λ e. absurd (h e)
lets-unseen x (posts n) a b f h = f h
lets-unseen x gets a b f h = f h
lets-unseen x misses a b f h = f h
lets-unseen x draws a b f h = f h

pub Lets-Unseen : (i : ℕ) (x : Seen) (es : List Entry) → Unseen i x es → Lets i x es
Lets-Unseen i x [] h = tt
Lets-Unseen i x (e ∷ es) h = lets-unseen x (event_at i e) (Unseen i x es) (Lets i x es) (Lets-Unseen i x es) h

-- a task in a worker's box stays there until its get
look_keeps_box : (k : CallerId) (c : Change) (b n : ℕ) (f : Bool) (m w : ℕ) (x : Seen) → Allows w k (sees x c) (at (places.Boxed b) n f m) → (altered k c (at (places.Boxed b) n f m)).place ≡ places.Boxed b
look_keeps_box k (wakes g) b n f m w x a = refl
look_keeps_box k kills b n f m w x a = refl
look_keeps_box k takes b n f m w x a = absurd (held_in_box k b a.1)
look_keeps_box k drops b n f m w x a = absurd (let h = a.1 in cc)
look_keeps_box k retires b n f m w x a = absurd (elim a.1 [ inl held ↦ held_in_box k b held | inr r ↦ cc ])

pub look_keeps : (w : ℕ) (k : CallerId) (x : Seen) (c : Change) (b : ℕ) (t : TaskState) → Allows w k (sees x c) t → t.place ≡ places.Boxed b → (altered k c t).place ≡ places.Boxed b
look_keeps w k x c b t a h =
    at_place (λ s. Allows w k (sees x c) s → (altered k c s).place ≡ places.Boxed b) t (places.Boxed b) h (λ g. look_keeps_box k c b t.pending t.killed t.takes w x g) a

-- an event on a task in the box of worker b that is no get of it leaves it there
kept_boxed : (w : ℕ) (k : CallerId) (v : Event) (b : ℕ) (t : TaskState) → b < w → Allows w k v t → t.place ≡ places.Boxed b → ((next k v t).place ≡ places.Boxed b) ⊎ ((v ≡ gets) × (k.0 ≡ b))
kept_boxed w k apart b t lt a h = inl h
kept_boxed w k (sees x c) b t lt a h = inl (look_keeps w k x c b t a h)
kept_boxed w k (posts n) b t lt a h = two_places t (places.Hands k) (places.Boxed b) a h (λ e. cc)
kept_boxed w k gets b t lt a h =
    inr (refl, let e : places.Boxed k.0 ≡ places.Boxed b = sym a.0 ∙ h in cc)
kept_boxed w k misses b t lt a h = inl h
kept_boxed w k draws b t lt a h =
    two_places t (places.Boxed w) (places.Boxed b) a h (boxes_differ w b (omega arith))

holds-later : (w : ℕ) (k : CallerId) (v : Event) (t : TaskState) (later : Type 0) → Allows w k v t → t.place ≡ places.Boxed k.0 → later → HoldsBy v later
holds-later w k apart t later a h g = g
holds-later w k (sees x c) t later a h g = g
holds-later w k (posts b) t later a h g = g
holds-later w k gets t later a h g = tt
holds-later w k misses t later a h g = absurd (a.0 h)
holds-later w k draws t later a h g = g

holds-now : (v : Event) (later : Type 0) → v ≡ gets → HoldsBy v later
holds-now v later e = rw e tt

Holds-worker : (w i b : ℕ) (t : TaskState) (h : List Entry) → b < w → LegalFor w i t h → t.place ≡ places.Boxed b → Holds i (calls_of b h)
Holds-worker w i b t [] lt l p = tt
Holds-worker w i b t (e ∷ h) lt l p =
    let v = event_at i e in
    elim (kept_boxed w e.caller v b t lt l.0 p) [
      | inl stays ↦
          let later = Holds-worker w i b (next e.caller v t) h lt l.1 stays in
          elim (whose b e h) [
            | inl mine ↦ rw mine.1 (holds-later w e.caller v t (Holds i (calls_of b h)) l.0 (p ∙ ap places.Boxed (sym mine.0)) later)
            | inr others ↦ rw others.1 later
          ]
      | inr got ↦ elim (whose b e h) [
        | inl mine ↦ rw mine.1 (holds-now v (Holds i (calls_of b h)) got.0)
        | inr others ↦ absurd (others.0 got.1)
      ]
    ]

-- who is no worker has no get
holds-no_worker : (w : ℕ) (k : CallerId) (v : Event) (t : TaskState) (later : Type 0) → (k.0 < w → ⊥) → Allows w k v t → later → HoldsBy v later
holds-no_worker w k apart t later no_worker a g = g
holds-no_worker w k (sees x c) t later no_worker a g = g
holds-no_worker w k (posts b) t later no_worker a g = g
holds-no_worker w k gets t later no_worker a g = tt
holds-no_worker w k misses t later no_worker a g = absurd (no_worker a.1)
holds-no_worker w k draws t later no_worker a g = g

Holds-no_worker : (w i b : ℕ) (t : TaskState) (h : List Entry) → (b < w → ⊥) → LegalFor w i t h → Holds i (calls_of b h)
Holds-no_worker w i b t [] no_worker l = tt
Holds-no_worker w i b t (e ∷ h) no_worker l =
    let v = event_at i e in
    let later = Holds-no_worker w i b (next e.caller v t) h no_worker l.1 in
    elim (whose b e h) [
      | inl mine ↦ rw mine.1 (holds-no_worker w e.caller v t (Holds i (calls_of b h)) (λ lt. no_worker (rw mine.0 at lt)) l.0 later)
      | inr others ↦ rw others.1 later
    ]

-- a task that is in a box is held by the next get of its group there
pub Holds-boxed : (w i b : ℕ) (t : TaskState) (h : List Entry) → LegalFor w i t h → t.place ≡ places.Boxed b → Holds i (calls_of b h)
Holds-boxed w i b t h l p =
    elim (cases_lt b w) [
      | inl lt ↦ Holds-worker w i b t h lt l p
      | inr le ↦ Holds-no_worker w i b t h (λ lt. omega arith) l
    ]
