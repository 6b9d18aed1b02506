-- How often a task was taken, by the entries of the one caller that takes it.
use Rattle.std.proofs.Common.{◌≡◌, ◌≢◌, ℕ, suc, ◌+◌, Bool, true, false, ◌==◌, if◌then◌else◌, List, [], ◌∷◌, refl, sym, ap, subst, ◌∙◌, inl, inr, arith, eq-eqb, ne_eqb, eqb-true}
use Rattle.std.proofs.lemmas.Bool.{cases_eq, cases_Bool}
use mathlib.Core.Option.{some}
use lib.ListN.{get_elem?}
use Rattle.sched_base.specs.declared.names.CallerId.{CallerId}
use Rattle.task_machine.specs.declared.task.Place.{Place}
use Rattle.task_machine.specs.declared.task.Place.TheVariants as places
use Rattle.task_machine.specs.declared.task.TaskState.{TaskState}
use Rattle.task_machine.specs.declared.calls.Call.{Call}
use Rattle.task_machine.specs.declared.calls.Call.TheVariants as calls
use Rattle.task_machine.specs.declared.calls.Entry.{Entry}
use Rattle.task_machine.specs.Task.{is_gone, is_boxed, put, woken, flagged, got}
use Rattle.task_machine.specs.Step.{State, task_at, is_about, bit, changed, Allowed}
use Rattle.task_machine.specs.History.{stepped, Legal, led, calls_of}
use Rattle.task_machine.specs.Since.{is_take}
use Rattle.task_machine.specs.Event.{Event, apart, sees, posts, gets, misses, draws, wakes, kills, takes, drops, retires, event_at, Allows, next}
use Rattle.task_machine.proofs.After.{task_at-after, subject-lt}
use Rattle.task_machine.proofs.Events.{Allowed-split, task_at-stepped}
use Rattle.wake_board.specs.Start.{Start, home_of, IsShared}
use Rattle.wake_board.specs.Rule.{TakesAtHome}
use Rattle.wake_board.specs.Own.{takes_in}

-- a task that is gone stays so
gone-next : (w : ℕ) (k : CallerId) (v : Event) (t : TaskState) → t.place ≡ places.Gone → Allows w k v t → (next k v t).place ≡ places.Gone
gone-next w k apart t e h = e
gone-next w k (sees x (wakes f)) t e h = ap (λ (p : Place). (woken k f (let y : TaskState = record t { place = p } in y)).place) e
gone-next w k (sees x kills) t e h = ap (λ (p : Place). (flagged k (let y : TaskState = record t { place = p } in y)).place) e
gone-next w k (sees x takes) t e h = elim h.1 [ inl a ↦ cc | inr b ↦ cc ]
gone-next w k (sees x drops) t e h = (let a = h.1 in cc)
gone-next w k (sees x retires) t e h = refl
gone-next w k (posts b) t e h = cc
gone-next w k gets t e h = (let a = h.0 in cc)
gone-next w k misses t e h = e
gone-next w k draws t e h = cc

pub gone-led : (s : State) (h : List Entry) (i : ℕ) → Legal s h → (task_at s i).place ≡ places.Gone → (task_at (led s h) i).place ≡ places.Gone
gone-led s [] i l e = e
gone-led s (x ∷ h) i l e =
    gone-led (stepped s x) h i l.1 (ap (λ (t : TaskState). t.place) (task_at-stepped s x l.0 i) ∙ gone-next s.workers x.caller (event_at i x) (task_at s i) e ((Allowed-split s x l.0).1 i))

takes_if : (b : Bool) (t u : TaskState) (m : ℕ) → t.takes ≡ m → u.takes ≡ m → (if b then t else u).takes ≡ m
takes_if true t u m g h = g
takes_if false t u m g h = h

no_more : (n : ℕ) → n ≡ n + 0
no_more n = omega arith

-- a call raises the takes of a task that it does not end by one where it takes it
takes-changed : (k : CallerId) (c : Call) (i : ℕ) (t : TaskState) (b : Bool) → is_about i c ≡ b → (if b then changed k c t else t).place ≢ places.Gone → (if b then changed k c t else t).takes ≡ t.takes + bit (is_take i c)
takes-changed k (calls.Wake j f) i t b e lives = takes_if b (woken k f t) t t.takes (takes_if (is_gone t.place) t _ t.takes refl refl) refl ∙ no_more t.takes
takes-changed k (calls.Kill j) i t b e lives = takes_if b (flagged k t) t t.takes (takes_if (is_gone t.place) t _ t.takes refl refl) refl ∙ no_more t.takes
takes-changed k (calls.Post j x) i t b e lives = takes_if b (put (places.Boxed x) t) t t.takes refl refl ∙ no_more t.takes
takes-changed k (calls.Get g) i t b e lives = takes_if b (got k t) t t.takes (takes_if (is_boxed k.0 t.place) _ t t.takes refl refl) refl ∙ no_more t.takes
takes-changed k (calls.Draw j) i t b e lives = takes_if b (put (places.Drawn k) t) t t.takes refl refl ∙ no_more t.takes
takes-changed k (calls.Take j) i t true e lives = ap (λ (x : Bool). t.takes + bit x) (sym e)
takes-changed k (calls.Take j) i t false e lives = no_more t.takes ∙ ap (λ (x : Bool). t.takes + bit x) (sym e)
takes-changed k (calls.DropRun j) i t b e lives = takes_if b (changed k (calls.DropRun j) t) t t.takes refl refl ∙ no_more t.takes
takes-changed k (calls.Retire j) i t true e lives = absurd (lives refl)
takes-changed k (calls.Retire j) i t false e lives = no_more t.takes

takes-stepped : (s : State) (e : Entry) (i : ℕ) → Allowed s e → (task_at (stepped s e) i).place ≢ places.Gone → (task_at (stepped s e) i).takes ≡ (task_at s i).takes + bit (is_take i e.call)
takes-stepped s e i a lives =
    let same = task_at-after s e.caller e.call i (subject-lt s e.caller e.call a.named) in
    ap (λ (t : TaskState). t.takes) same ∙ takes-changed e.caller e.call i (task_at s i) (is_about i e.call) refl (λ gone'. lives (ap (λ (t : TaskState). t.place) same ∙ gone'))

-- a task that is not gone at the end was taken as often as the history takes it
pub takes-led : (s : State) (h : List Entry) (i : ℕ) → Legal s h → (task_at (led s h) i).place ≢ places.Gone → (task_at (led s h) i).takes ≡ (task_at s i).takes + takes_in i h
takes-led s [] i l lives = no_more (task_at s i).takes
takes-led s (e ∷ h) i l lives =
    let more = takes-led (stepped s e) h i l.1 lives in
    let first = takes-stepped s e i l.0 (λ gone'. lives (gone-led (stepped s e) h i l.1 gone')) in
    omega arith

-- an entry of another caller takes no task of this home
other_take : (o : Start) (k j : CallerId) (c : Call) (i : ℕ) → TakesAtHome o j c → home_of o i ≡ k.0 → ¬ IsShared o i → j.0 ≢ k.0 → is_take i c ≡ false
other_take o k j (calls.Take x) i h home own ne =
    elim (cases_Bool (i == x.0)) [
      | inl hit ↦
          (let same : i ≡ x.0 = eqb-true i x.0 hit in
          elim h [
            | inl a ↦ absurd (ne (sym a ∙ (ap (λ (n : ℕ). home_of o n) (sym same) ∙ home)))
            | inr b ↦ absurd (own (subst (IsShared o) (sym same) b))
          ])
      | inr apart' ↦ apart'
    ]
other_take o k j (calls.Wake x f) i h home own ne = refl
other_take o k j (calls.Kill x) i h home own ne = refl
other_take o k j (calls.Post x b) i h home own ne = refl
other_take o k j (calls.Get g) i h home own ne = refl
other_take o k j (calls.Draw x) i h home own ne = refl
other_take o k j (calls.DropRun x) i h home own ne = refl
other_take o k j (calls.Retire x) i h home own ne = refl

-- so its takes are those among its home's calls
pub takes_in-home : (o : Start) (k : CallerId) (h : List Entry) (i : ℕ) → ((j : ℕ) (e : Entry) → get_elem? h j ≡ some e → TakesAtHome o e.caller e.call) → home_of o i ≡ k.0 → ¬ IsShared o i → takes_in i h ≡ takes_in i (calls_of k.0 h)
takes_in-home o k [] i all home own = refl
takes_in-home o k (e ∷ h) i all home own =
    let more = takes_in-home o k h i (λ j x a. all (suc j) x a) home own in
    elim (cases_eq e.caller.0 k.0) [
      | inl same ↦ ap (λ (n : ℕ). bit (is_take i e.call) + n) more ∙ ap (λ (b : Bool). takes_in i (if b then e ∷ calls_of k.0 h else calls_of k.0 h)) (sym (eq-eqb e.caller.0 k.0 same))
      | inr ne ↦
          (let zero' : bit (is_take i e.call) ≡ 0 = ap bit (other_take o k e.caller e.call i (all 0 e refl) home own ne) in
          (let z : bit (is_take i e.call) + takes_in i h ≡ takes_in i h = omega arith in z) ∙ (more ∙ ap (λ (b : Bool). takes_in i (if b then e ∷ calls_of k.0 h else calls_of k.0 h)) (sym (ne_eqb e.caller.0 k.0 ne))))
    ]
