-- Where what is left has a legal merge, the rule says the same as the rule in words.
use Rattle.std.proofs.Common.{◌≡◌, ◌≢◌, ℕ, ◌⊎◌, inl, inr, Bool, false, refl, sym, ap, subst, ◌∙◌, List, ◌∷◌}
use Rattle.std.proofs.Math.Path.{fun_ext}
use Rattle.std.proofs.lemmas.Bool.{cases_Bool, cases_eq}
use Rattle.sched_base.specs.declared.names.CallerId.{CallerId}
use Rattle.task_machine.specs.declared.task.Place.TheVariants as places
use Rattle.task_machine.specs.declared.task.Seen.{Seen}
use Rattle.task_machine.specs.declared.task.TaskState.{TaskState}
use Rattle.task_machine.specs.declared.calls.Call.{Call}
use Rattle.task_machine.specs.declared.calls.Call.TheVariants as calls
use Rattle.task_machine.specs.declared.calls.Reply.{Reply}
use Rattle.task_machine.specs.declared.calls.Reply.TheVariants as replies
use Rattle.task_machine.specs.declared.calls.Entry.{Entry}
use Rattle.task_machine.specs.Task.{seen_of, put}
use Rattle.task_machine.specs.Step.{State, task_at, Allowed}
use Rattle.task_machine.specs.History.{stepped, calls_of, IsMerge}
use Rattle.task_machine.specs.Event.{Change, wakes, kills, takes, Event, apart, sees, posts, gets, misses, draws, event_at, Allows, altered, next}
use Rattle.task_machine.proofs.After.{length-after}
use Rattle.task_machine.proofs.Events.{Allowed-split, Legal-split, task_at-stepped}
use Rattle.history_weave.specs.declared.kinds.Kind.{Kind}
use Rattle.history_weave.specs.declared.kinds.Kind.TheVariants as kinds
use Rattle.history_weave.specs.Rule.{is_quiet, Lets, Holds, ReadyAt, Ready}
use Rattle.history_weave.specs.Kinds.{kind, look, is_look, KindGoes}
use Rattle.history_weave.specs.InWords.{NoneSawAsIs, ChangesUnseen, IsLowestDraw, MayGoNext, RuleIsInWords}
use Rattle.history_weave.proofs.Seens.{After, After-never, loud_after, quiet_same, moved-seen}
use Rattle.history_weave.proofs.Swaps.{two_places}
use Rattle.history_weave.proofs.KindEvents.{Events-kind, NoLook, no_look-passes, Ready-goes, goes-Ready}
use Rattle.history_weave.proofs.Merges.{same_states}
use Rattle.history_weave.proofs.Moves.{left}
use Rattle.history_weave.proofs.Wordings.{none-lets, lets-none, Drawing, ready-lowest, lowest-ready}

-- what each task admits, where the entry is allowed
admits : (s : State) (e : Entry) → Allowed s e → (i : ℕ) → Allows s.workers e.caller (event_at i e) (task_at s i)
admits s e a i = (Allowed-split s e a).1 i

-- an entry that changes no task changes nothing
still : (s : State) (e : Entry) → Allowed s e → ((i : ℕ) → next e.caller (event_at i e) (task_at s i) ≡ task_at s i) → stepped s e ≡ s
still s e a same =
    same_states (stepped s e) s refl (length-after s e.caller e.call) (λ i. task_at-stepped s e a i ∙ same i)

-- an event that is no look leaves what is seen
seen-kept : (w : ℕ) (k : CallerId) (v : Event) (t : TaskState) → Allows w k v t → is_look v ≡ false → seen_of (next k v t) ≡ seen_of t
seen-kept w k apart t a h = refl
seen-kept w k (sees x c) t a h = cc
seen-kept w k (posts b) t a h = moved-seen t (places.Hands k) (places.Boxed b) a refl
seen-kept w k gets t a h = moved-seen t (places.Boxed k.0) (places.Hands k) a.0 refl
seen-kept w k misses t a h = refl
seen-kept w k draws t a h = moved-seen t (places.Boxed w) (places.Drawn k) a refl

-- an entry of this kind is the head of a log, and is allowed, where what is left has a merge
pub record Heads (s : State) (es : List Entry) (e : Entry) (rest : List Entry) (κ : Kind) : Type 0 where
  pub merge : IsMerge s (left es) es
  pub head : calls_of e.caller.0 es ≡ e ∷ rest
  pub allowed : Allowed s e
  pub kind : kind e.call e.reply ≡ κ

-- a look that may go changes nothing, or what is seen with nobody who saw it as is
look-said : (s : State) (es : List Entry) (e : Entry) (rest : List Entry) (i : ℕ) (x : Seen) (q : Bool) → Heads s es e rest (kinds.Look i x q) → Ready (left es) s e → (stepped s e ≡ s) ⊎ ChangesUnseen (left es) s e
look-said s es e rest i x q b ready =
    let v = Events-kind (kinds.Look i x q) e b.kind in
    let c = v.0 in
    let t = task_at s i in
    let a : Allows s.workers e.caller (sees x c) t =
    subst (λ (u : Event). Allows s.workers e.caller u t) v.2 (admits s e b.allowed i) in
    let here : ReadyAt (left es) e.caller.0 i (sees x c) t =
    subst (λ (u : Event). ReadyAt (left es) e.caller.0 i u t) v.2 (ready i) in
    let after : task_at (stepped s e) i ≡ altered e.caller c t =
    task_at-stepped s e b.allowed i ∙ ap (λ (u : Event). next e.caller u t) v.2 in
    elim (cases_Bool (is_quiet x c)) [
      | inl quiet ↦ inl (still s e b.allowed (λ j. elim (cases_eq j i) [
        | inl same ↦ rw (same, v.2) (quiet_same s.workers e.caller x c t a quiet)
        | inr ne ↦ rw (v.3 j ne) refl
      ]))
      | inr loud ↦
          let on : After x (seen_of (altered e.caller c t)) = loud_after s.workers e.caller x c t a loud in
          let changed : seen_of (task_at (stepped s e) i) ≢ seen_of t = λ same.
          let back : seen_of (altered e.caller c t) ≡ x = ap seen_of (sym after) ∙ same ∙ a.0 in
          After-never x (subst (λ (y : Seen). After x y) back on) in
          let none : (j : ℕ) → NoneSawAsIs i (seen_of t) (calls_of j es) = λ j.
          let lets : Lets i x (calls_of j es) =
          elim here [ inl quiet ↦ absurd (cc) | inr all ↦ all j ] in
          let legal = (Legal-split s es b.merge.0).1 i in
          none-lets s.workers i (seen_of t) j t es legal refl (subst (λ (y : Seen). Lets i y (calls_of j es)) (sym a.0) lets) in
          inr (i, changed, none)
    ]

-- and the other way round
said-look : (s : State) (es : List Entry) (e : Entry) (rest : List Entry) (i : ℕ) (x : Seen) (q : Bool) → Heads s es e rest (kinds.Look i x q) → (stepped s e ≡ s) ⊎ ChangesUnseen (left es) s e → KindGoes (left es) s e.caller.0 (kinds.Look i x q)
said-look s es e rest i x q b said =
    let v = Events-kind (kinds.Look i x q) e b.kind in
    let c = v.0 in
    let t = task_at s i in
    let a : Allows s.workers e.caller (sees x c) t =
    subst (λ (u : Event). Allows s.workers e.caller u t) v.2 (admits s e b.allowed i) in
    let after : task_at (stepped s e) i ≡ altered e.caller c t =
    task_at-stepped s e b.allowed i ∙ ap (λ (u : Event). next e.caller u t) v.2 in
    elim (cases_Bool (is_quiet x c)) [
      | inl quiet ↦ inl (v.1 ∙ quiet)
      | inr loud ↦
          let on : After x (seen_of (altered e.caller c t)) = loud_after s.workers e.caller x c t a loud in
          elim said [
            | inl nothing ↦
                let back : seen_of (altered e.caller c t) ≡ x =
                ap seen_of (sym after ∙ ap (λ (u : State). task_at u i) nothing) ∙ a.0 in
                absurd (After-never x (subst (λ (y : Seen). After x y) back on))
            | inr unseen ↦ elim (cases_eq unseen.0 i) [
              | inl same ↦
                  let none : (j : ℕ) → NoneSawAsIs i (seen_of t) (calls_of j es) =
                  subst (λ (m : ℕ). (j : ℕ) → NoneSawAsIs m (seen_of (task_at s m)) (calls_of j es)) same unseen.2 in
                  inr (λ j. subst (λ (y : Seen). Lets i y (calls_of j es)) a.0 (lets-none i (seen_of t) (calls_of j es) (none j)))
              | inr ne ↦
                  let left_as_is : task_at (stepped s e) unseen.0 ≡ task_at s unseen.0 =
                  task_at-stepped s e b.allowed unseen.0 ∙ ap (λ (u : Event). next e.caller u (task_at s unseen.0)) (v.3 unseen.0 ne) in
                  absurd (unseen.1 (ap seen_of left_as_is))
            ]
          ]
    ]

-- an entry that is no look changes nothing that is seen
not-unseen : (s : State) (logs : ℕ → List Entry) (e : Entry) (κ : Kind) → Allowed s e → kind e.call e.reply ≡ κ → NoLook κ → ChangesUnseen logs s e → ⊥
not-unseen s logs e κ a h no_look unseen =
    let i = unseen.0 in
    let kept = seen-kept s.workers e.caller (event_at i e) (task_at s i) (admits s e a i) (no_look-passes κ e h no_look i) in
    unseen.1 (ap seen_of (task_at-stepped s e a i) ∙ kept)

-- a post moves its task, and so does a draw
post-moves : (s : State) (e : Entry) (i b : ℕ) → Allowed s e → event_at i e ≡ posts b → stepped s e ≡ s → ⊥
post-moves s e i b a ev nothing =
    let t = task_at s i in
    let here : t.place ≡ places.Hands e.caller =
    subst (λ (u : Event). Allows s.workers e.caller u t) ev (admits s e a i) in
    let after : task_at (stepped s e) i ≡ put (places.Boxed b) t =
    task_at-stepped s e a i ∙ ap (λ (u : Event). next e.caller u t) ev in
    let there : t.place ≡ places.Boxed b =
    ap (λ (u : TaskState). u.place) (sym (ap (λ (u : State). task_at u i) nothing) ∙ after) in
    two_places t (places.Hands e.caller) (places.Boxed b) here there (λ q. cc)

draw-moves : (s : State) (e : Entry) (i : ℕ) → Allowed s e → event_at i e ≡ draws → stepped s e ≡ s → ⊥
draw-moves s e i a ev nothing =
    let t = task_at s i in
    let here : t.place ≡ places.Boxed s.workers =
    subst (λ (u : Event). Allows s.workers e.caller u t) ev (admits s e a i) in
    let after : task_at (stepped s e) i ≡ put (places.Drawn e.caller) t =
    task_at-stepped s e a i ∙ ap (λ (u : Event). next e.caller u t) ev in
    let there : t.place ≡ places.Drawn e.caller =
    ap (λ (u : TaskState). u.place) (sym (ap (λ (u : State). task_at u i) nothing) ∙ after) in
    two_places t (places.Boxed s.workers) (places.Drawn e.caller) here there (λ q. cc)

drawing : (s : State) (es : List Entry) (e : Entry) (rest : List Entry) (i : ℕ) → Heads s es e rest (kinds.Draw i) → Drawing s.workers i (task_at s i).takes e rest (task_at s i) es
drawing s es e rest i b =
    let v = Events-kind (kinds.Draw i) e b.kind in
    record {
      legal = (Legal-split s es b.merge.0).1 i;
      boxed = subst (λ (u : Event). Allows s.workers e.caller u (task_at s i)) v.0 (admits s e b.allowed i);
      takes = refl;
      first = b.head;
      drawn = v.0;
    }

-- the entry with these parts
abbrev made : CallerId → Call → Reply → Entry
made k c r = record { caller = k; call = c; reply = r }

abbrev Said : State → List Entry → Entry → List Entry → Type 0
Said s es e rest = MayGoNext (left es) s e rest

looks-said : (s : State) (es : List Entry) (e : Entry) (rest : List Entry) → (stepped s e ≡ s) ⊎ ChangesUnseen (left es) s e → Said s es e rest
looks-said s es e rest h = elim h [ inl nothing ↦ inl nothing | inr unseen ↦ inr (inl unseen) ]

seen-head : (s : State) (es : List Entry) (k : CallerId) (c : Call) (r : Reply) (rest : List Entry) (i : ℕ) (d : Change) → ((q : Reply) → kind c q ≡ look i d q) → ((x : Seen) × (r ≡ replies.Task x)) → Heads s es (made k c r) rest (kind c r) → (x : Seen) × Heads s es (made k c r) rest (kinds.Look i x (is_quiet x d))
seen-head s es k c r rest i d shape h b = (
  h.0,
  record {
    merge = b.merge;
    head = b.head;
    allowed = b.allowed;
    kind = shape r ∙ ap (λ (q : Reply). look i d q) h.1;
  },
)

ready-said : (s : State) (es : List Entry) (k : CallerId) (c : Call) (r : Reply) (rest : List Entry) → Heads s es (made k c r) rest (kind c r) → Ready (left es) s (made k c r) → Said s es (made k c r) rest
ready-said s es k (calls.Wake i f) r rest b ready =
    let h = seen-head s es k (calls.Wake i f) r rest i.0 (wakes f) (λ q. refl) (Allowed-split s (made k (calls.Wake i f) r) b.allowed).0.1 b in
    looks-said s es (made k (calls.Wake i f) r) rest (look-said s es (made k (calls.Wake i f) r) rest i.0 h.0 (is_quiet h.0 (wakes f)) h.1 ready)
ready-said s es k (calls.Kill i) r rest b ready =
    let h = seen-head s es k (calls.Kill i) r rest i.0 kills (λ q. refl) (Allowed-split s (made k (calls.Kill i) r) b.allowed).0.1 b in
    looks-said s es (made k (calls.Kill i) r) rest (look-said s es (made k (calls.Kill i) r) rest i.0 h.0 (is_quiet h.0 kills) h.1 ready)
ready-said s es k (calls.Post i o) r rest b ready =
    inr (inr (inl (goes-Ready (left es) s (made k (calls.Post i o) r) (kinds.Post i.0 o) refl ready)))
ready-said s es k (calls.Get g) r rest b ready = inr (inr (inr (inl tt)))
ready-said s es k (calls.Draw i) r rest b ready =
    let e = made k (calls.Draw i) r in
    let goes = goes-Ready (left es) s e (kinds.Draw i.0) refl ready in
    inr (inr (inr (inr (ready-lowest s.workers i.0 (task_at s i.0).takes e rest (task_at s i.0) es (drawing s es e rest i.0 b) goes))))
ready-said s es k (calls.Take i) r rest b ready =
    let h = seen-head s es k (calls.Take i) r rest i.0 takes (λ q. refl) (Allowed-split s (made k (calls.Take i) r) b.allowed).0.1 b in
    looks-said s es (made k (calls.Take i) r) rest (look-said s es (made k (calls.Take i) r) rest i.0 h.0 (is_quiet h.0 takes) h.1 ready)
ready-said s es k (calls.DropRun i) r rest b ready =
    let h = seen-head s es k (calls.DropRun i) r rest i.0 takes (λ q. refl) (Allowed-split s (made k (calls.DropRun i) r) b.allowed).0.1 b in
    looks-said s es (made k (calls.DropRun i) r) rest (look-said s es (made k (calls.DropRun i) r) rest i.0 h.0 (is_quiet h.0 takes) h.1 ready)
ready-said s es k (calls.Retire i) r rest b ready =
    let h = seen-head s es k (calls.Retire i) r rest i.0 takes (λ q. refl) (Allowed-split s (made k (calls.Retire i) r) b.allowed).0.1 b in
    looks-said s es (made k (calls.Retire i) r) rest (look-said s es (made k (calls.Retire i) r) rest i.0 h.0 (is_quiet h.0 takes) h.1 ready)

-- where the other three cannot hold
only-looks : {A B : Type 0} → A ⊎ (B ⊎ (⊥ ⊎ (⊥ ⊎ ⊥))) → A ⊎ B
only-looks h =
    elim h [
      | inl a ↦ inl a
      | inr more ↦ elim more [
        | inl b ↦ inr b
        | inr none ↦ absurd (elim none [ inl x ↦ x | inr yz ↦ elim yz [ inl y ↦ y | inr z ↦ z ] ])
      ]
    ]

said-ready : (s : State) (es : List Entry) (k : CallerId) (c : Call) (r : Reply) (rest : List Entry) → Heads s es (made k c r) rest (kind c r) → Said s es (made k c r) rest → Ready (left es) s (made k c r)
said-ready s es k (calls.Wake i f) r rest b said =
    let e = made k (calls.Wake i f) r in
    let h = seen-head s es k (calls.Wake i f) r rest i.0 (wakes f) (λ q. refl) (Allowed-split s e b.allowed).0.1 b in
    let κ = kinds.Look i.0 h.0 (is_quiet h.0 (wakes f)) in
    Ready-goes (left es) s e κ h.1.kind (said-look s es e rest i.0 h.0 (is_quiet h.0 (wakes f)) h.1 (only-looks said))
said-ready s es k (calls.Kill i) r rest b said =
    let e = made k (calls.Kill i) r in
    let h = seen-head s es k (calls.Kill i) r rest i.0 kills (λ q. refl) (Allowed-split s e b.allowed).0.1 b in
    let κ = kinds.Look i.0 h.0 (is_quiet h.0 kills) in
    Ready-goes (left es) s e κ h.1.kind (said-look s es e rest i.0 h.0 (is_quiet h.0 kills) h.1 (only-looks said))
said-ready s es k (calls.Post i o) r rest b said =
    let e = made k (calls.Post i o) r in
    let v = Events-kind (kinds.Post i.0 o) e refl in
    let holds : Holds i.0 (calls_of o es) =
    elim said [
      | inl nothing ↦ absurd (post-moves s e i.0 o b.allowed v.0 nothing)
      | inr more ↦ elim more [
        | inl unseen ↦ absurd (not-unseen s (left es) e (kinds.Post i.0 o) b.allowed refl tt unseen)
        | inr some ↦ elim some [ inl held ↦ held | inr none ↦ absurd (elim none [ inl x ↦ x | inr y ↦ y ]) ]
      ]
    ] in
    Ready-goes (left es) s e (kinds.Post i.0 o) refl holds
said-ready s es k (calls.Get g) r rest b said =
    let e = made k (calls.Get g) r in
    let h = (Allowed-split s e b.allowed).0.1 in
    let shape : kind (calls.Get g) r ≡ kinds.Get g = ap (λ (q : Reply). kind (calls.Get g) q) h.1 in
    Ready-goes (left es) s e (kinds.Get g) shape tt
said-ready s es k (calls.Draw i) r rest b said =
    let e = made k (calls.Draw i) r in
    let v = Events-kind (kinds.Draw i.0) e refl in
    let lowest : IsLowestDraw (left es) rest (calls.Draw i) =
    elim said [
      | inl nothing ↦ absurd (draw-moves s e i.0 b.allowed v.0 nothing)
      | inr more ↦ elim more [
        | inl unseen ↦ absurd (not-unseen s (left es) e (kinds.Draw i.0) b.allowed refl tt unseen)
        | inr some ↦ elim some [ inl x ↦ absurd x | inr rest ↦ elim rest [ inl y ↦ absurd y | inr low ↦ low ] ]
      ]
    ] in
    let goes = lowest-ready s.workers i.0 (task_at s i.0).takes e rest (task_at s i.0) es (drawing s es e rest i.0 b) lowest in
    Ready-goes (left es) s e (kinds.Draw i.0) refl goes
said-ready s es k (calls.Take i) r rest b said =
    let e = made k (calls.Take i) r in
    let h = seen-head s es k (calls.Take i) r rest i.0 takes (λ q. refl) (Allowed-split s e b.allowed).0.1 b in
    let κ = kinds.Look i.0 h.0 (is_quiet h.0 takes) in
    Ready-goes (left es) s e κ h.1.kind (said-look s es e rest i.0 h.0 (is_quiet h.0 takes) h.1 (only-looks said))
said-ready s es k (calls.DropRun i) r rest b said =
    let e = made k (calls.DropRun i) r in
    let h = seen-head s es k (calls.DropRun i) r rest i.0 takes (λ q. refl) (Allowed-split s e b.allowed).0.1 b in
    let κ = kinds.Look i.0 h.0 (is_quiet h.0 takes) in
    Ready-goes (left es) s e κ h.1.kind (said-look s es e rest i.0 h.0 (is_quiet h.0 takes) h.1 (only-looks said))
said-ready s es k (calls.Retire i) r rest b said =
    let e = made k (calls.Retire i) r in
    let h = seen-head s es k (calls.Retire i) r rest i.0 takes (λ q. refl) (Allowed-split s e b.allowed).0.1 b in
    let κ = kinds.Look i.0 h.0 (is_quiet h.0 takes) in
    Ready-goes (left es) s e κ h.1.kind (said-look s es e rest i.0 h.0 (is_quiet h.0 takes) h.1 (only-looks said))

-- the rule in words looks at what each caller has left alone
Said-same : (s : State) (e : Entry) (rest : List Entry) (a b : ℕ → List Entry) → a ≡ b → MayGoNext a s e rest → MayGoNext b s e rest
Said-same s e rest a b same h = subst (λ (f : ℕ → List Entry). MayGoNext f s e rest) same h

pub Ready-said : RuleIsInWords
Ready-said s logs es e rest merge head allowed =
    let same : left es ≡ logs = fun_ext merge.1 in
    let first : calls_of e.caller.0 es ≡ e ∷ rest = merge.1 e.caller.0 ∙ head in
    let b : Heads s es e rest (kind e.call e.reply) =
    record { merge = (merge.0, λ k. refl); head = first; allowed = allowed; kind = refl } in (
      λ ready. Said-same s e rest (left es) logs same (ready-said s es e.caller e.call e.reply rest b (subst (λ (f : ℕ → List Entry). Ready f s e) (sym same) ready)),
      λ said. subst (λ (f : ℕ → List Entry). Ready f s e) same (said-ready s es e.caller e.call e.reply rest b (Said-same s e rest logs (left es) (sym same) said)),
    )
