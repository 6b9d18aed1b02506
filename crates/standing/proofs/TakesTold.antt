-- The takes of a live task of a worker are those before and those among the worker's own calls.
use Rattle.std.proofs.Common.{◌≡◌, ℕ, ◌+◌, ◌<◌, Bool, true, false, ◌==◌, if◌then◌else◌, ◌⊎◌, inl, inr, List, [], ◌∷◌, Option, None, Some, refl, sym, ap, ◌∙◌, arith, subst, eqb-true, eq-eqb, bit_or}
use Rattle.std.proofs.lemmas.Bool.{cases_Bool, cases_eq}
use Rattle.sched_base.specs.declared.names.CallerId.{CallerId}
use Rattle.queue_model.specs.Classes.{Next}
use Rattle.step_tables.specs.declared.tables.Action.{Action}
use Rattle.step_tables.specs.declared.tables.Action.TheVariants.{Wake as Wakes, Kill as Kills}
use Rattle.step_tables.specs.declared.tables.Script.{Script}
use Rattle.task_machine.specs.declared.task.Place.{Place}
use Rattle.task_machine.specs.declared.task.Place.TheVariants as places
use Rattle.task_machine.specs.declared.task.TaskState.{TaskState}
use Rattle.task_machine.specs.declared.calls.Call.{Call}
use Rattle.task_machine.specs.declared.calls.Call.TheVariants as calls
use Rattle.task_machine.specs.declared.calls.Entry.{Entry}
use Rattle.task_machine.specs.Task.{is_gone, put, is_boxed, raised}
use Rattle.task_machine.specs.Step.{State, task_at, is_about, needs, changed, bit, Allowed}
use Rattle.task_machine.specs.History.{stepped, calls_of}
use Rattle.task_machine.specs.Since.{is_take}
use Rattle.task_machine.proofs.Reasons.{boxed_not_gone}
use Rattle.run_model.proofs.Readings.{some_inj}
use Rattle.run_model.specs.Tables.{home_of, call_of}
use Rattle.run_model.specs.Book.{Book}
use Rattle.turn_steps.specs.Left.{Onward, next_in, Left, gets, wakes, runs, acts, posts, drops, retires, returns, drawn, injects, carries, over, Stage, stage, take_call, asked_in, MayCall}
use Rattle.turn_steps.proofs.Books.{listed-taken}
use Rattle.standing.specs.Keeps.{Callers}
use Rattle.standing.specs.Going.{called, Going, gone_on}
use Rattle.standing.specs.Homes.{IsOf, Homed, KeepsHomes, TimersHaveHomes}
use Rattle.standing.specs.Laws.{takes_by}
use Rattle.standing.proofs.Effects.{by_step, fits_about, is_of, of_held, of_taken, of_run}
use Rattle.standing.proofs.HomesKept.{KeepsHomes-next}
use Rattle.standing.proofs.Merge.{own_calls, other_calls}

-- where a task is not gone after a change, it was not before, and has at most one take more
abbrev Takes : ℕ → TaskState → TaskState → Type 0
Takes n old new = is_gone new.place ≡ false → (is_gone old.place ≡ false) × (new.takes ≡ old.takes + n)

takes_if : (n : ℕ) (gone : Bool) (t u : TaskState) → is_gone t.place ≡ gone → u.takes ≡ t.takes + n → (n ≡ 0) → Takes n t (if gone then t else u)
takes_if n true t u e same none = λ h. absurd (let no = e in cc)
takes_if n false t u e same none = λ h. (e, same)

got_takes : (k : CallerId) (t : TaskState) (here : Bool) → is_boxed k.0 t.place ≡ here → Takes 0 t (if here then put (places.Hands k) t else t)
got_takes k t true e = λ h. (boxed_not_gone k.0 t.place e, omega arith)
got_takes k t false e = λ h. (h, omega arith)

of_not_gone : (k : CallerId) (p : Place) → is_of k p ≡ true → is_gone p ≡ false
of_not_gone k places.Rest h = refl
of_not_gone k (places.Hands j) h = refl
of_not_gone k (places.Boxed b) h = refl
of_not_gone k (places.Drawn j) h = refl
of_not_gone k (places.Runs j) h = refl
of_not_gone k places.Gone h = cc

changed-takes : (w : ℕ) (k : CallerId) (c : Call) (i : ℕ) (t : TaskState) → is_about i c ≡ true → needs w k c t.place ≡ true → Takes (bit (is_take i c)) t (changed k c t)
changed-takes w k (calls.Wake j f) i t about fit =
    takes_if 0 (is_gone t.place) t (record t { place = raised k t.place; pending = bit_or t.pending f }) refl (omega arith) refl
changed-takes w k (calls.Kill j) i t about fit = takes_if 0 (is_gone t.place) t (record t { place = raised k t.place; killed = true }) refl (omega arith) refl
changed-takes w k (calls.Post j b) i t about fit = λ h. (of_not_gone k t.place (of_held k t.place fit), omega arith)
changed-takes w k (calls.Get g) i t about fit = got_takes k t (is_boxed k.0 t.place) refl
changed-takes w k (calls.Draw j) i t about fit = λ h. (boxed_not_gone w t.place fit, omega arith)
changed-takes w k (calls.Take j) i t about fit = λ h. (of_not_gone k t.place (of_taken k t.place fit), ap (λ b. t.takes + bit b) (sym about))
changed-takes w k (calls.DropRun j) i t about fit = λ h. (of_not_gone k t.place (of_run k t.place fit), omega arith)
changed-takes w k (calls.Retire j) i t about fit = λ h. absurd (let no = h in cc)

apart_take : (i : ℕ) (c : Call) → is_about i c ≡ false → is_take i c ≡ false
apart_take i (calls.Wake j f) h = refl
apart_take i (calls.Kill j) h = refl
apart_take i (calls.Post j b) h = refl
apart_take i (calls.Get g) h = refl
apart_take i (calls.Draw j) h = refl
apart_take i (calls.Take j) h = h
apart_take i (calls.DropRun j) h = refl
apart_take i (calls.Retire j) h = refl

pub step-takes : (s : State) (e : Entry) (i : ℕ) → Allowed s e → Takes (bit (is_take i e.call)) (task_at s i) (task_at (stepped s e) i)
step-takes s e i a =
    by_step s e i (λ t. Takes (bit (is_take i e.call)) (task_at s i) t) a (λ about. changed-takes s.workers e.caller e.call i (task_at s i) about (fits_about s e i a about)) (λ apart h. (h, omega (arith, ap bit (apart_take i e.call apart))))

-- ---- who takes a task

-- who takes a task is its home, or it is a shared one
abbrev TakenHome : Script → ℕ → ℕ → Call → Type 0
TakenHome s k i c = is_take i c ≡ true → IsOf s k i ⊎ IsOf s s.workers i

action_take : (i : ℕ) (a : Action) → is_take i (call_of a) ≡ false
action_take i (Wakes j f) = refl
action_take i (Kills j) = refl

none_taken : (s : Script) (k i : ℕ) (d c : Call) → is_take i d ≡ false → Some d ≡ Some c → TakenHome s k i c
none_taken s k i d c none e = λ h. absurd (let same : is_take i d ≡ is_take i c = ap (is_take i) (some_inj d c e) in cc)

next_home : (s : Script) (k i : ℕ) (q : Onward) (b : Book) (o : Option Next) (c : Call) → Homed s k (stage (runs q) b) → next_in q b ≡ o → take_call o ≡ Some c → TakenHome s k i c
next_home s k i q b None c h e asks = cc
next_home s k i q b (Some x) c h e asks = λ take.
    let call : calls.Take (record { 0 = x.task }) ≡ c = some_inj (calls.Take (record { 0 = x.task })) c asks in
    let is : (i == x.task) ≡ true = ap (is_take i) call ∙ take in
    let same = eqb-true i x.task is in
    let one : bit (x.task == x.task) ≡ 1 = ap bit (eq-eqb x.task x.task refl) in
    let own : IsOf s k x.task = h.lists x.task (omega (arith, listed-taken x.task b q x e)) in
    inl (subst (IsOf s k) (sym same) own)

asked_home : (s : Script) (k i : ℕ) (l : Left) (b : Book) (c : Call) → Homed s k (stage l b) → asked_in s l b ≡ Some c → TakenHome s k i c
asked_home s k i (gets g gs) b c h e = none_taken s k i _ c refl e
asked_home s k i (wakes j js) b c h e = none_taken s k i _ c refl e
asked_home s k i (runs q) b c h e = next_home s k i q b (next_in q b) c h refl e
asked_home s k i (acts a more j row q) b c h e = none_taken s k i (call_of a) c (action_take i a) e
asked_home s k i (posts x more j row q) b c h e = none_taken s k i _ c refl e
asked_home s k i (drops j q) b c h e = none_taken s k i _ c refl e
asked_home s k i (retires held j q) b c h e = none_taken s k i _ c refl e
asked_home s k i (returns j q) b c h e = none_taken s k i _ c refl e
asked_home s k i (drawn j n) b c h e = λ take.
    let call : calls.Take (record { 0 = j }) ≡ c = some_inj (calls.Take (record { 0 = j })) c e in
    let is : (i == j) ≡ true = ap (is_take i) call ∙ take in
    inr (subst (IsOf s s.workers) (sym (eqb-true i j is)) h.left)
asked_home s k i (injects a more) b c h e = none_taken s k i (call_of a) c (action_take i a) e
asked_home s k i (carries j more) b c h e = none_taken s k i _ c refl e
asked_home s k i over b c h e = cc

may_home : (s : Script) (k i : ℕ) (g : Stage) (c : Call) → Homed s k g → MayCall s g c → TakenHome s k i c
may_home s k i g c h may =
    elim may [ inl e ↦ asked_home s k i g.left g.book c h e | inr d ↦ (λ take. absurd (let no : is_take i c ≡ false = ap (is_take i) d.call in cc)) ]

-- ---- the takes among a worker's own calls

take_one : (i : ℕ) (e : Entry) (ys : List Entry) (b : Bool) → is_take i e.call ≡ b → takes_by i (e ∷ ys) ≡ bit b + takes_by i ys
take_one i e ys true h = rw h (omega arith)
take_one i e ys false h = rw h (omega arith)

-- an entry's take of a worker's own task is among the worker's calls
counted : (w i : ℕ) (e : Entry) (es : List Entry) → (is_take i e.call ≡ true → e.caller.0 ≡ w) → takes_by i (calls_of w (e ∷ es)) ≡ bit (is_take i e.call) + takes_by i (calls_of w es)
counted w i e es mine =
    elim (cases_eq w e.caller.0) [
      | inl same ↦
          subst (λ (v : ℕ). takes_by i (calls_of v (e ∷ es)) ≡ bit (is_take i e.call) + takes_by i (calls_of v es)) (sym same) (ap (takes_by i) (own_calls e es) ∙ take_one i e (calls_of e.caller.0 es) (is_take i e.call) refl)
      | inr ne ↦
          (let no : is_take i e.call ≡ false = elim (cases_Bool (is_take i e.call)) [ inl take ↦ absurd (ne (sym (mine take))) | inr none ↦ none ] in
          let same = ap (takes_by i) (other_calls w e es ne) in
          let none : bit (is_take i e.call) ≡ 0 = ap bit no in
          omega arith)
    ]

pub takes-told : (s : Script) (T w i : ℕ) (c : Callers) (es : List Entry) → TimersHaveHomes s → KeepsHomes s c → w < s.workers → home_of s i ≡ w → Going s T c es → is_gone (task_at (gone_on s T c es).state i).place ≡ false → (is_gone (task_at c.state i).place ≡ false) × ((task_at (gone_on s T c es).state i).takes ≡ (task_at c.state i).takes + takes_by i (calls_of w es))
takes-told s T w i c [] have keeps lt home h live = (live, omega arith)
takes-told s T w i c (e ∷ es) have keeps lt home h live =
    let later = takes-told s T w i (called s T c e) es have (KeepsHomes-next s T c e have keeps h.0) lt home h.1 live in
    let step = step-takes c.state e i h.0.allowed later.0 in
    let mine = λ (take : is_take i e.call ≡ true). elim (may_home s e.caller.0 i (c.at e.caller.0) e.call (keeps.homed e.caller.0 h.0.caller) h.0.asks take) as (λ _. e.caller.0 ≡ w) [ inl own ↦ sym own ∙ home | inr shared ↦ absurd (omega arith) ] in
    (step.0, omega (arith, later.1, step.1, counted w i e es mine))
