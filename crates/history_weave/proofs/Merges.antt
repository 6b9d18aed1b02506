-- Legal merges: an entry that may go can be moved to the front, so all merges lead to one state.
use Rattle.std.proofs.Common.{◌≡◌, ◌≢◌, ℕ, inl, inr, refl, sym, ap, subst, ◌∙◌, List, [], ◌∷◌, length}
use Rattle.std.proofs.lemmas.List.{ext_get_or}
use Rattle.std.proofs.Math.Path.{fun_ext}
use Rattle.task_machine.specs.declared.task.TaskState.{TaskState}
use Rattle.task_machine.specs.declared.calls.Entry.{Entry}
use Rattle.task_machine.specs.Task.{resting}
use Rattle.task_machine.specs.Step.{State, task_at, Allowed}
use Rattle.task_machine.specs.History.{stepped, Legal, led, calls_of, IsMerge}
use Rattle.task_machine.specs.Event.{AllFormed, led_for}
use Rattle.task_machine.proofs.After.{length-after}
use Rattle.task_machine.proofs.Events.{Allowed-split, task_at-stepped, Legal-split, Legal-joined, task_at-led, AllFormed-stepped}
use Rattle.history_weave.specs.Rule.{Ready}
use Rattle.history_weave.proofs.Futures.{all_but, whose}
use Rattle.history_weave.proofs.Moves.{left, first_ready, move}

-- the first entry of a legal history may go
pub Ready-first : (s : State) (e : Entry) (h : List Entry) → Legal s (e ∷ h) → Ready (left (e ∷ h)) s e
Ready-first s e h l =
    let parts = Legal-split s (e ∷ h) l in λ i. first_ready s.workers i e h (task_at s i) (parts.1 i)

AllFormed-all_but : (s : State) (k : ℕ) (h : List Entry) → AllFormed s h → AllFormed s (all_but k h)
AllFormed-all_but s k [] f = tt
AllFormed-all_but s k (e ∷ h) f =
    elim (whose k e h) [
      | inl mine ↦ rw mine.2 f.1
      | inr others ↦ rw others.2 (f.0, AllFormed-all_but s k h f.1)
    ]

pub led-workers : (s : State) (es : List Entry) → (led s es).workers ≡ s.workers
led-workers s [] = refl
led-workers s (e ∷ es) = led-workers (stepped s e) es

pub length-led : (s : State) (es : List Entry) → length (led s es).tasks ≡ length s.tasks
length-led s [] = refl
length-led s (e ∷ es) = length-led (stepped s e) es ∙ length-after s e.caller e.call

-- states with the same tasks are one
pub same_states : (a b : State) → a.workers ≡ b.workers → length a.tasks ≡ length b.tasks → ((i : ℕ) → task_at a i ≡ task_at b i) → a ≡ b
same_states a b w l t =
    let tasks : a.tasks ≡ b.tasks = ext_get_or resting a.tasks b.tasks l (λ i lt. t i) in
    let made : ℕ → List TaskState → State = λ n ts. record { workers = n; tasks = ts } in
    ap (λ n. made n a.tasks) w ∙ ap (λ ts. made b.workers ts) tasks

-- the history without entry e, when e goes first
pub record Moved_all (s : State) (e : Entry) (h : List Entry) : Type 0 where
  pub legal : Legal (stepped s e) (all_but e.caller.0 h)
  pub same : led s h ≡ led (stepped s e) (all_but e.caller.0 h)

-- an entry that may go can be moved to the front
pub Legal-move : (s : State) (e : Entry) (r h : List Entry) → Ready (left h) s e → Allowed s e → calls_of e.caller.0 h ≡ e ∷ r → Legal s h → Moved_all s e h
Legal-move s e r h ready a first l =
    let parts = Legal-split s h l in
    let admits = (Allowed-split s e a).1 in
    let k = e.caller.0 in
    let moves = λ (i : ℕ). move s.workers i e r h (task_at s i) (ready i) (admits i) first (parts.1 i) in
    let formed = AllFormed-stepped s e (all_but k h) (AllFormed-all_but s k h parts.0) in
    let legal : Legal (stepped s e) (all_but k h) =
    Legal-joined (stepped s e) (all_but k h) formed (λ i. rw (task_at-stepped s e a i) (moves i).legal) in
    let tasks : (i : ℕ) → task_at (led s h) i ≡ task_at (led (stepped s e) (all_but k h)) i =
    λ i. task_at-led s h l i ∙ (moves i).same ∙
    sym (task_at-led (stepped s e) (all_but k h) legal i ∙ ap (λ t. led_for i t (all_but k h)) (task_at-stepped s e a i)) in
    record {
      legal = legal;
      same = same_states (led s h) (led (stepped s e) (all_but k h)) (led-workers s h ∙ sym (led-workers (stepped s e) (all_but k h))) (length-led s h ∙ sym (length-led (stepped s e) (all_but k h) ∙ length-after s e.caller e.call)) tasks;
    }

-- what the callers have left behind the first entry of caller k
pub calls_of-mine : (k : ℕ) (e : Entry) (r h : List Entry) → calls_of k h ≡ e ∷ r → calls_of k (all_but k h) ≡ r
calls_of-mine k e r [] first = cc
calls_of-mine k e r (d ∷ h) first =
    elim (whose k d h) [
      | inl mine ↦
          let heads : d ∷ calls_of k h ≡ e ∷ r = sym mine.1 ∙ first in
          let rest : calls_of k h ≡ r = cc in rw mine.2 rest
      | inr others ↦ elim (whose k d (all_but k h)) [
        | inl mine ↦ absurd (others.0 mine.0)
        | inr still ↦ rw (others.2, still.1) (calls_of-mine k e r h (sym others.1 ∙ first))
      ]
    ]

pub calls_of-others : (k j : ℕ) (h : List Entry) → j ≢ k → calls_of j (all_but k h) ≡ calls_of j h
calls_of-others k j [] ne = refl
calls_of-others k j (d ∷ h) ne =
    elim (whose k d h) [
      | inl mine ↦ rw mine.2 (elim (whose j d h) [
        | inl here ↦ absurd (ne (sym here.0 ∙ mine.0))
        | inr others ↦ sym others.1
      ])
      | inr others ↦ rw others.2 (elim (whose j d h) [
        | inl here ↦ elim (whose j d (all_but k h)) [
          | inl again ↦ again.1 ∙ ap (λ es. d ∷ es) (calls_of-others k j h ne) ∙ sym here.1
          | inr away ↦ absurd (away.0 here.0)
        ]
        | inr away ↦ elim (whose j d (all_but k h)) [
          | inl again ↦ absurd (away.0 again.0)
          | inr still ↦ still.1 ∙ calls_of-others k j h ne ∙ sym away.1
        ]
      ])
    ]

-- a merge with entry e left to go first, which is the head of its log
pub IsMerge-head : (s : State) (logs : ℕ → List Entry) (e : Entry) (h : List Entry) → IsMerge s logs (e ∷ h) → logs e.caller.0 ≡ e ∷ calls_of e.caller.0 h
IsMerge-head s logs e h m =
    elim (whose e.caller.0 e h) [
      | inl mine ↦ sym (m.1 e.caller.0) ∙ mine.1
      | inr others ↦ absurd (others.0 refl)
    ]

no_entries : (h : List Entry) → ((k : ℕ) → calls_of k h ≡ []) → h ≡ []
no_entries [] none = refl
no_entries (e ∷ h) none =
    elim (whose e.caller.0 e h) [
      | inl mine ↦ let empty : e ∷ calls_of e.caller.0 h ≡ [] = sym mine.1 ∙ none e.caller.0 in cc
      | inr others ↦ absurd (others.0 refl)
    ]

-- what is left of another merge of the same logs, when the first entry of the one goes first
calls-rest : (e : Entry) (es fs : List Entry) → ((j : ℕ) → calls_of j fs ≡ calls_of j (e ∷ es)) → (j : ℕ) → calls_of j (all_but e.caller.0 fs) ≡ calls_of j es
calls-rest e es fs same j =
    elim (whose j e es) [
      | inl mine ↦
          let first : calls_of j fs ≡ e ∷ calls_of j es = same j ∙ mine.1 in
          rw mine.0 (calls_of-mine j e (calls_of j es) fs first)
      | inr others ↦
          calls_of-others e.caller.0 j fs (λ h. others.0 (sym h)) ∙ same j ∙ others.1
    ]

-- whether an entry may go depends on what the callers have left alone
pub Ready-same : (s : State) (e : Entry) (a b : ℕ → List Entry) → ((j : ℕ) → b j ≡ a j) → Ready a s e → Ready b s e
Ready-same s e a b same h = subst (λ (f : ℕ → List Entry). Ready f s e) (sym (fun_ext same)) h

-- two histories of the same calls lead to one state
ends_agree : (s : State) (es fs : List Entry) → Legal s es → Legal s fs → ((j : ℕ) → calls_of j fs ≡ calls_of j es) → led s es ≡ led s fs
ends_agree s [] fs l g same = ap (led s) (sym (no_entries fs same))
ends_agree s (e ∷ es) fs l g same =
    let first : calls_of e.caller.0 fs ≡ e ∷ calls_of e.caller.0 es =
    elim (whose e.caller.0 e es) [
      | inl mine ↦ same e.caller.0 ∙ mine.1
      | inr others ↦ absurd (others.0 refl)
    ] in
    let ready : Ready (left fs) s e = Ready-same s e (left (e ∷ es)) (left fs) same (Ready-first s e es l) in
    let m = Legal-move s e (calls_of e.caller.0 es) fs ready l.0 first g in
    ends_agree (stepped s e) es (all_but e.caller.0 fs) l.1 m.legal (calls-rest e es fs same) ∙ sym m.same

pub IsMerge-one_end : (s : State) (logs : ℕ → List Entry) (es fs : List Entry) → IsMerge s logs es → IsMerge s logs fs → led s es ≡ led s fs
IsMerge-one_end s logs es fs m n = ends_agree s es fs m.0 n.0 (λ j. n.1 j ∙ sym (m.1 j))
