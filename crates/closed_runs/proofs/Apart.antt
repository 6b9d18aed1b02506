-- What a caller does and hears depends on its own tasks alone, and no other caller changes these.
use Rattle.std.proofs.Common.{◌≡◌, ◌≢◌, ℕ, ◌+◌, ◌*◌, ◌≤◌, Bool, true, false, ◌==◌, if◌then◌else◌, inl, inr, List, [], ◌∷◌, None, Some, refl, sym, ap, ◌∙◌, eqb-true, subst}
use Rattle.std.proofs.lemmas.Bool.{cases_Bool, cases_eq}
use Rattle.sched_base.specs.declared.names.CallerId.{CallerId}
use Rattle.step_tables.specs.declared.tables.Script.{Script}
use Rattle.task_machine.specs.declared.task.Place.TheVariants as places
use Rattle.task_machine.specs.declared.task.TaskState.{TaskState}
use Rattle.task_machine.specs.declared.calls.Call.{Call}
use Rattle.task_machine.specs.declared.calls.Call.TheVariants as calls
use Rattle.task_machine.specs.declared.calls.Reply.{Reply}
use Rattle.task_machine.specs.declared.calls.Reply.TheVariants.{Task, Group}
use Rattle.task_machine.specs.declared.calls.Entry.{Entry}
use Rattle.task_machine.specs.Task.{put, is_boxed, seen_of}
use Rattle.task_machine.specs.Step.{State, task_at, is_about, changed, bit, IsBox, Allowed}
use Rattle.task_machine.specs.History.{stepped, calls_of}
use Rattle.task_machine.specs.Event.{event_at, next}
use Rattle.task_machine.proofs.Events.{task_at-stepped}
use Rattle.task_machine.proofs.Replies.{IsBox-unique}
use Rattle.run_model.proofs.Readings.{some_inj}
use Rattle.run_model.specs.Tables.{home_of}
use Rattle.turn_steps.specs.Left.{Stage, asked, went}
use Rattle.turn_steps.specs.Has.{caller, said}
use Rattle.standing.specs.Homes.{IsOf, BoxesOf, KeepsHomes}
use Rattle.standing.specs.Keeps.{Callers}
use Rattle.standing.specs.Going.{called, IsNext, Going, gone_on, IsDone}
use Rattle.standing.proofs.Effects.{by_step}
use Rattle.standing.proofs.HomesKept.{KeepsHomes-next}
use Rattle.standing.proofs.Merge.{set_same, set_other, own_calls, other_calls}
use Rattle.standing.proofs.Steps.{at_each}
use Rattle.closed_runs.proofs.Scripts.{Closed, timers_have_homes}
use Rattle.closed_runs.proofs.Inward.{Inward, inward-went, NamesOwn, names-own, asks}

-- ---- a call of another caller

two_homes : (s : Script) (k m i j : ℕ) (P : Type 0) → IsOf s k i → IsOf s m j → k ≢ m → (i == j) ≡ true → P
two_homes s k m i j P here there ne same =
    absurd (ne (sym here ∙ ap (home_of s) (eqb-true i j same) ∙ there))

got_apart : (w : CallerId) (t : TaskState) (here : Bool) → is_boxed w.0 t.place ≡ here → (here ≡ true → ⊥) → (if here then put (places.Hands w) t else t) ≡ t
got_apart w t true e away = absurd (away refl)
got_apart w t false e away = refl

-- it changes no task of caller k
apart_changed : (s : Script) (k i : ℕ) (w : CallerId) (c : Call) (t : TaskState) → NamesOwn s w.0 c → IsOf s k i → k ≢ w.0 → (is_boxed w.0 t.place ≡ true → IsOf s w.0 i) → is_about i c ≡ true → changed w c t ≡ t
apart_changed s k i w (calls.Wake j f) t own here ne boxes about = two_homes s k w.0 i j.0 _ here own ne about
apart_changed s k i w (calls.Kill j) t own here ne boxes about = two_homes s k w.0 i j.0 _ here own ne about
apart_changed s k i w (calls.Post j b) t own here ne boxes about = two_homes s k w.0 i j.0 _ here own ne about
apart_changed s k i w (calls.Get g) t own here ne boxes about =
    got_apart w t (is_boxed w.0 t.place) refl (λ boxed. ne (sym here ∙ boxes boxed))
apart_changed s k i w (calls.Draw j) t own here ne boxes about = two_homes s k w.0 i j.0 _ here own ne about
apart_changed s k i w (calls.Take j) t own here ne boxes about = two_homes s k w.0 i j.0 _ here own ne about
apart_changed s k i w (calls.DropRun j) t own here ne boxes about = two_homes s k w.0 i j.0 _ here own ne about
apart_changed s k i w (calls.Retire j) t own here ne boxes about = two_homes s k w.0 i j.0 _ here own ne about

apart_step : (s : Script) (k i : ℕ) (state : State) (e : Entry) → BoxesOf s state → NamesOwn s e.caller.0 e.call → IsOf s k i → k ≢ e.caller.0 → Allowed state e → task_at (stepped state e) i ≡ task_at state i
apart_step s k i state e boxes own here ne a =
    by_step state e i (λ t. t ≡ task_at state i) a (λ about. apart_changed s k i e.caller e.call (task_at state i) own here ne (boxes e.caller.0 i) about) (λ apart. refl)

-- ---- the reply to a call of caller k

-- two states have the same tasks of caller k
abbrev pub TasksAgree : Script → ℕ → State → State → Type 0
TasksAgree s k a b = (i : ℕ) → IsOf s k i → task_at a i ≡ task_at b i

boxed_alike : (s : Script) (k i : ℕ) (a b : State) → BoxesOf s a → BoxesOf s b → TasksAgree s k a b → is_boxed k (task_at a i).place ≡ is_boxed k (task_at b i).place
boxed_alike s k i a b ha hb agree =
    let same = λ (own : IsOf s k i). ap (λ (t : TaskState). is_boxed k t.place) (agree i own) in
    elim (cases_Bool (is_boxed k (task_at a i).place)) [
      | inl boxed ↦ same (ha k i boxed)
      | inr none ↦
          elim (cases_Bool (is_boxed k (task_at b i).place)) [
            | inl boxed ↦ same (hb k i boxed)
            | inr out ↦ none ∙ sym out
          ]
    ]

boxes_alike : (s : Script) (k g n : ℕ) (a b : State) → BoxesOf s a → BoxesOf s b → TasksAgree s k a b → IsBox b k g n → IsBox a k g n
boxes_alike s k g n a b ha hb agree box =
    (box.0, λ j lt. box.1 j lt ∙ ap bit (sym (boxed_alike s k (64 * g + j) a b ha hb agree)))

seen_alike : (s : Script) (k i : ℕ) (a b : State) (q r : Reply) → TasksAgree s k a b → IsOf s k i → q ≡ Task (seen_of (task_at a i)) → r ≡ Task (seen_of (task_at b i)) → q ≡ r
seen_alike s k i a b q r agree own e f = e ∙ ap (λ (t : TaskState). Task (seen_of t)) (agree i own) ∙ sym f

reply_alike : (s : Script) (k : ℕ) (c : Call) (a b : State) (q r : Reply) → BoxesOf s a → BoxesOf s b → TasksAgree s k a b → NamesOwn s k c → Allowed a (said (caller k) c q) → Allowed b (said (caller k) c r) → q ≡ r
reply_alike s k (calls.Wake i f) a b q r ha hb agree own x y = seen_alike s k i.0 a b q r agree own x.reply y.reply
reply_alike s k (calls.Kill i) a b q r ha hb agree own x y = seen_alike s k i.0 a b q r agree own x.reply y.reply
reply_alike s k (calls.Post i box) a b q r ha hb agree own x y = let e = x.reply in let f = y.reply in e ∙ sym f
reply_alike s k (calls.Get g) a b q r ha hb agree own x y =
    let one = IsBox-unique a k g x.reply.0 y.reply.0 x.reply.2 (boxes_alike s k g y.reply.0 a b ha hb agree y.reply.2) in
    x.reply.1 ∙ ap Group one ∙ sym y.reply.1
reply_alike s k (calls.Draw i) a b q r ha hb agree own x y = let e = x.reply in let f = y.reply in e ∙ sym f
reply_alike s k (calls.Take i) a b q r ha hb agree own x y = seen_alike s k i.0 a b q r agree own x.reply y.reply
reply_alike s k (calls.DropRun i) a b q r ha hb agree own x y = seen_alike s k i.0 a b q r agree own x.reply y.reply
reply_alike s k (calls.Retire i) a b q r ha hb agree own x y = seen_alike s k i.0 a b q r agree own x.reply y.reply

-- ---- callers that agree on caller k

pub record Agree (s : Script) (k : ℕ) (c d : Callers) : Type 0 where
  pub stage : c.at k ≡ d.at k
  pub tasks : TasksAgree s k c.state d.state

-- each caller names its own tasks only
pub record KeepsInward (s : Script) (c : Callers) : Type 0 where
  pub homes : KeepsHomes s c
  pub inward : (k : ℕ) → k ≤ s.workers → Inward s k (c.at k).left

next-own : (s : Script) (c : Callers) (e : Entry) → Closed s → KeepsInward s c → IsNext s c e → NamesOwn s e.caller.0 e.call
next-own s c e closed keeps is =
    let k = e.caller.0 in
    names-own s k (c.at k) e.call closed (keeps.homes.homed k is.caller) (keeps.inward k is.caller) is.asks

inward-next : (s : Script) (T : ℕ) (c : Callers) (e : Entry) → Closed s → KeepsInward s c → IsNext s c e → KeepsInward s (called s T c e)
inward-next s T c e closed keeps is =
    let j = e.caller.0 in
    record {
      homes = KeepsHomes-next s T c e (timers_have_homes s closed) keeps.homes is;
      inward = λ k le. at_each (λ k (x : Stage). Inward s k x.left) j k (went s e.caller T e.call e.reply (c.at j)) c.at (λ same. subst (λ (v : ℕ). Inward s v (went s e.caller T e.call e.reply (c.at j)).left) (sym same) (inward-went s j T (c.at j) e.call e.reply closed is.asks (keeps.homes.homed j is.caller) (keeps.inward j is.caller))) (λ ne. keeps.inward k le);
    }

Agree-sym : (s : Script) (k : ℕ) (c d : Callers) → Agree s k c d → Agree s k d c
Agree-sym s k c d h = record { stage = sym h.stage; tasks = λ i own. sym (h.tasks i own) }

-- after a call of another caller
Agree-other : (s : Script) (T k : ℕ) (c d : Callers) (e : Entry) → Closed s → KeepsInward s c → IsNext s c e → k ≢ e.caller.0 → Agree s k c d → Agree s k (called s T c e) d
Agree-other s T k c d e closed keeps is ne h = record {
  stage = set_other e.caller.0 k (went s e.caller T e.call e.reply (c.at e.caller.0)) c.at ne ∙ h.stage;
  tasks = λ i own. apart_step s k i c.state e keeps.homes.boxes (next-own s c e closed keeps is) own ne is.allowed ∙ h.tasks i own;
}

-- after the same call of this one
Agree-own : (s : Script) (T : ℕ) (c d : Callers) (e : Entry) → IsNext s c e → IsNext s d e → Agree s e.caller.0 c d → Agree s e.caller.0 (called s T c e) (called s T d e)
Agree-own s T c d e x y h =
    let j = e.caller.0 in record {
      stage = set_same j (went s e.caller T e.call e.reply (c.at j)) c.at ∙ ap (went s e.caller T e.call e.reply) h.stage ∙ sym (set_same j (went s e.caller T e.call e.reply (d.at j)) d.at);
      tasks = λ i own. task_at-stepped c.state e x.allowed i ∙ ap (next e.caller (event_at i e)) (h.tasks i own) ∙ sym (task_at-stepped d.state e y.allowed i);
    }

-- the next calls of caller k are the same entry
said_same : (w v : CallerId) (c d : Call) (q r : Reply) → w ≡ v → c ≡ d → q ≡ r → said w c q ≡ said v d r
said_same w v c d q r e f g = ap (λ (x : CallerId). said x c q) e ∙ ap (λ (x : Call). said v x q) f ∙ ap (λ (x : Reply). said v d x) g

same_next : (s : Script) (c d : Callers) (e f : Entry) → Closed s → KeepsInward s c → KeepsInward s d → IsNext s c e → IsNext s d f → e.caller.0 ≡ f.caller.0 → Agree s e.caller.0 c d → e ≡ f
same_next s c d e f closed kc kd x y same h =
    let k = e.caller.0 in
    let who : e.caller ≡ f.caller = ap (λ (n : ℕ). caller n) same in
    let there : asked s (d.at k) ≡ Some f.call = ap (λ (v : ℕ). asked s (d.at v)) same ∙ asks s (d.at f.caller.0) f.call closed y.asks in
    let call : e.call ≡ f.call = some_inj e.call f.call (sym (asks s (c.at k) e.call closed x.asks) ∙ ap (asked s) h.stage ∙ there) in
    let mine : Allowed d.state (said (caller k) e.call f.reply) = subst (λ (z : Call). Allowed d.state (said (caller k) z f.reply)) (sym call) (subst (λ (w : CallerId). Allowed d.state (said w f.call f.reply)) (sym who) y.allowed) in
    said_same e.caller f.caller e.call f.call e.reply f.reply who call (reply_alike s k e.call c.state d.state e.reply f.reply kc.homes.boxes kd.homes.boxes h.tasks (next-own s c e closed kc x) x.allowed mine)

-- ---- whole rounds

-- calls up to the end of a round
pub record Ends (s : Script) (T : ℕ) (c : Callers) (es : List Entry) : Type 0 where
  pub keeps : KeepsInward s c
  pub going : Going s T c es
  pub done : IsDone s (gone_on s T c es)

Ends-next : (s : Script) (T : ℕ) (c : Callers) (e : Entry) (es : List Entry) → Closed s → Ends s T c (e ∷ es) → Ends s T (called s T c e) es
Ends-next s T c e es closed h = record {
  keeps = inward-next s T c e closed h.keeps h.going.0;
  going = h.going.1;
  done = h.done;
}

pub record Same (s : Script) (T k : ℕ) (c d : Callers) (es fs : List Entry) : Type 0 where
  pub calls : calls_of k es ≡ calls_of k fs
  pub agree : Agree s k (gone_on s T c es) (gone_on s T d fs)

-- a caller that has no call left has no further one
no_more : (s : Script) (c d : Callers) (f : Entry) (P : Type 0) → Closed s → asked s (c.at f.caller.0) ≡ None → IsNext s d f → Agree s f.caller.0 c d → P
no_more s c d f P closed none y h =
    absurd (let asks_ : None ≡ Some f.call = sym none ∙ ap (asked s) h.stage ∙ asks s (d.at f.caller.0) f.call closed y.asks in cc)

after_none : (s : Script) (T k : ℕ) (c d : Callers) (fs : List Entry) → Closed s → IsDone s c → Ends s T d fs → Agree s k c d → Same s T k c d [] fs
after_none s T k c d [] closed done y h = record { calls = refl; agree = h }
after_none s T k c d (f ∷ fs) closed done y h =
    elim (cases_eq k f.caller.0) [
      | inl same ↦
          no_more s c d f (Same s T k c d [] (f ∷ fs)) closed (done f.caller.0 y.going.0.caller) y.going.0 (subst (λ (v : ℕ). Agree s v c d) same h)
      | inr ne ↦
          (let later = after_none s T k c (called s T d f) fs closed done (Ends-next s T d f fs closed y) (Agree-sym s k (called s T d f) c (Agree-other s T k d c f closed y.keeps y.going.0 ne (Agree-sym s k c d h))) in
          record { calls = later.calls ∙ sym (other_calls k f fs ne); agree = later.agree })
    ]

-- the first call of the one side is caller k's: the other side comes to it
abbrev Later : Script → ℕ → ℕ → Callers → List Entry → Type 0
Later s T k c es = (d : Callers) (fs : List Entry) → Ends s T d fs → Agree s k c d → Same s T k c d es fs

after_own : (s : Script) (T : ℕ) (c d : Callers) (e : Entry) (es fs : List Entry) → Closed s → Later s T e.caller.0 (called s T c e) es → Ends s T c (e ∷ es) → Ends s T d fs → Agree s e.caller.0 c d → Same s T e.caller.0 c d (e ∷ es) fs
after_own s T c d e es [] closed later x y h =
    no_more s d c e (Same s T e.caller.0 c d (e ∷ es) []) closed (y.done e.caller.0 x.going.0.caller) x.going.0 (Agree-sym s e.caller.0 c d h)
after_own s T c d e es (f ∷ fs) closed later x y h =
    elim (cases_eq e.caller.0 f.caller.0) [
      | inl same ↦
          (let one = same_next s c d e f closed x.keeps y.keeps x.going.0 y.going.0 same h in
          both_own s T c d e es fs closed later x (subst (λ (z : Entry). Ends s T d (z ∷ fs)) (sym one) y) h f one)
      | inr ne ↦
          (let k = e.caller.0 in
          let past = after_own s T c (called s T d f) e es fs closed later x (Ends-next s T d f fs closed y) (Agree-sym s k (called s T d f) c (Agree-other s T k d c f closed y.keeps y.going.0 ne (Agree-sym s k c d h))) in
          record { calls = past.calls ∙ sym (other_calls k f fs ne); agree = past.agree })
    ]
  where
    both_own : (s : Script) (T : ℕ) (c d : Callers) (e : Entry) (es fs : List Entry) → Closed s → Later s T e.caller.0 (called s T c e) es → Ends s T c (e ∷ es) → Ends s T d (e ∷ fs) → Agree s e.caller.0 c d → (f : Entry) → e ≡ f → Same s T e.caller.0 c d (e ∷ es) (f ∷ fs)
    both_own s T c d e es fs closed later x y h f one =
        let k = e.caller.0 in
        let there = later (called s T d e) fs (Ends-next s T d e fs closed y) (Agree-own s T c d e x.going.0 y.going.0 h) in
        let here : Same s T k c d (e ∷ es) (e ∷ fs) = record {
          calls = own_calls e es ∙ ap (λ (zs : List Entry). e ∷ zs) there.calls ∙ sym (own_calls e fs);
          agree = there.agree;
        } in
        subst (λ (z : Entry). Same s T k c d (e ∷ es) (z ∷ fs)) one here

-- two whole rounds have the same calls of caller k, and leave it and its tasks alike
pub same-round : (s : Script) (T k : ℕ) (c : Callers) (es : List Entry) → Closed s → Ends s T c es → Later s T k c es
same-round s T k c [] closed x = λ d fs y h. after_none s T k c d fs closed x.done y h
same-round s T k c (e ∷ es) closed x = λ d fs y h.
    elim (cases_eq k e.caller.0) [
      | inl same ↦
          subst (λ (v : ℕ). Same s T v c d (e ∷ es) fs) (sym same) (after_own s T c d e es fs closed (same-round s T e.caller.0 (called s T c e) es closed (Ends-next s T c e es closed x)) x y (subst (λ (v : ℕ). Agree s v c d) same h))
      | inr ne ↦
          (let later = same-round s T k (called s T c e) es closed (Ends-next s T c e es closed x) d fs y (Agree-other s T k c d e closed x.keeps x.going.0 ne h) in
          record { calls = other_calls k e es ne ∙ later.calls; agree = later.agree })
    ]
