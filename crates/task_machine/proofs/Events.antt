-- An entry is allowed exactly where it is formed and each task admits what it is for that task.
use Rattle.std.proofs.Common.{◌≡◌, ◌≢◌, ℕ, ◌+◌, ◌*◌, ◌/◌, ◌%◌, ◌<◌, Bool, true, false, ◌||◌, ◌==◌, if◌then◌else◌, nat_lt, refl, sym, ap, ◌∙◌, inl, inr, ◌⊎◌, arith, eqb-true, eq-eqb, length, List, [], ◌∷◌}
use Rattle.std.proofs.lemmas.Bool.{cases_Bool, or_cases, or_left, or_right}
use Rattle.std.proofs.lemmas.Bool.Decides.{nat_tests}
use Rattle.std.specs.Int.{bit_at}
use Rattle.sched_base.specs.declared.names.CallerId.{CallerId}
use Rattle.task_machine.specs.declared.task.Place.{Place}
use Rattle.task_machine.specs.declared.task.Place.TheVariants as places
use Rattle.task_machine.specs.declared.task.TaskState.{TaskState}
use Rattle.task_machine.specs.declared.calls.Call.{Call}
use Rattle.task_machine.specs.declared.calls.Call.TheVariants as calls
use Rattle.task_machine.specs.declared.calls.Reply.{Reply}
use Rattle.task_machine.specs.declared.calls.Reply.TheVariants as replies
use Rattle.task_machine.specs.declared.calls.Entry.{Entry}
use Rattle.task_machine.specs.Task.{put, in_hands, in_draw, in_run, is_boxed, seen_of}
use Rattle.task_machine.specs.Step.{State, task_at, subject, is_about, is_box, is_task, names, is_named, fits, Roomy, changed, bit, IsBox, IsReply, Allowed}
use Rattle.task_machine.specs.History.{stepped, Legal, led}
use Rattle.task_machine.specs.Event.{apart, gets, misses, gathers, event_of, event_at, Held, Allows, next, HasKind, IsFormed, AllFormed, Admits, LegalFor, led_for}
use Rattle.task_machine.proofs.After.{task_at-after, subject-lt, length-after}

-- the tests of a place, and the places
same_caller : (k j : CallerId) → (k.0 == j.0) ≡ true → j ≡ k
same_caller k j h = let e = eqb-true k.0 j.0 h in ap (λ (n : ℕ). let c : CallerId = record { 0 = n } in c) (sym e)

in_hands-place : (k : CallerId) (p : Place) → in_hands k p ≡ true → p ≡ places.Hands k
in_hands-place k (places.Hands j) h = ap places.Hands (same_caller k j h)
in_hands-place k p h = cc

in_draw-place : (k : CallerId) (p : Place) → in_draw k p ≡ true → p ≡ places.Drawn k
in_draw-place k (places.Drawn j) h = ap places.Drawn (same_caller k j h)
in_draw-place k p h = cc

in_run-place : (k : CallerId) (p : Place) → in_run k p ≡ true → p ≡ places.Runs k
in_run-place k (places.Runs j) h = ap places.Runs (same_caller k j h)
in_run-place k p h = cc

is_boxed-place : (b : ℕ) (p : Place) → is_boxed b p ≡ true → p ≡ places.Boxed b
is_boxed-place b (places.Boxed c) h = ap places.Boxed (sym (eqb-true b c h))
is_boxed-place b p h = cc

place-is_boxed : (b : ℕ) (p : Place) → p ≡ places.Boxed b → is_boxed b p ≡ true
place-is_boxed b p h = rw h (eq-eqb b b refl)

place-in_hands : (k : CallerId) (p : Place) → p ≡ places.Hands k → in_hands k p ≡ true
place-in_hands k p h = rw h (eq-eqb k.0 k.0 refl)

place-in_draw : (k : CallerId) (p : Place) → p ≡ places.Drawn k → in_draw k p ≡ true
place-in_draw k p h = rw h (eq-eqb k.0 k.0 refl)

place-in_run : (k : CallerId) (p : Place) → p ≡ places.Runs k → in_run k p ≡ true
place-in_run k p h = rw h (eq-eqb k.0 k.0 refl)

-- a get's bit of its task tells whether the task was in the caller's box
bit-lt : (b : Bool) (n : ℕ) → n ≡ bit b → (n == 1) ≡ b
bit-lt true n h = rw h
bit-lt false n h = rw h

in_group : (i g : ℕ) → i / 64 ≡ g → 64 * g + i % 64 ≡ i
in_group i g h = omega arith

get-event : (s : State) (b g n i : ℕ) → IsBox s b g n → i / 64 ≡ g → gathers i (replies.Group n) ≡ (if is_boxed b (task_at s i).place then gets else misses)
get-event s b g n i h e =
    let low : i % 64 < 64 = omega arith in
    let here : bit_at n (i % 64) ≡ bit (is_boxed b (task_at s i).place) = rw (in_group i g e) at (h.1 (i % 64) low) in
    ap (λ (v : Bool). if v then gets else misses) (bit-lt (is_boxed b (task_at s i).place) (bit_at n (i % 64)) here)

-- a task that is in the caller's box, or not, admits what a get is for it
get-allows : (w : ℕ) (k : CallerId) (t : TaskState) (b : Bool) → is_boxed k.0 t.place ≡ b → k.0 < w → Allows w k (if b then gets else misses) t
get-allows w k t true e lt = (is_boxed-place k.0 t.place e, lt)
get-allows w k t false e lt = (λ here. (let h = place-is_boxed k.0 t.place here in cc), lt)

get-next : (k : CallerId) (t : TaskState) (b : Bool) → is_boxed k.0 t.place ≡ b → next k (if b then gets else misses) t ≡ (if b then put (places.Hands k) t else t)
get-next k t true e = refl
get-next k t false e = refl

-- what the table asks of a call's task, and what its event asks
held-fit : (k : CallerId) (p : Place) → (in_hands k p || in_draw k p) ≡ true → Held k p
held-fit k p h =
    elim (or_cases (in_hands k p) (in_draw k p) h) [ inl a ↦ inl (in_hands-place k p a) | inr b ↦ inr (in_draw-place k p b) ]

fit-held : (k : CallerId) (p : Place) → Held k p → (in_hands k p || in_draw k p) ≡ true
fit-held k p h =
    elim h [
      | inl a ↦ or_left (in_hands k p) (in_draw k p) (place-in_hands k p a)
      | inr b ↦ or_right (in_hands k p) (in_draw k p) (place-in_draw k p b)
    ]

retire-fit : (k : CallerId) (p : Place) → (in_hands k p || (in_draw k p || in_run k p)) ≡ true → Held k p ⊎ (p ≡ places.Runs k)
retire-fit k p h =
    elim (or_cases (in_hands k p) (in_draw k p || in_run k p) h) [
      | inl a ↦ inl (inl (in_hands-place k p a))
      | inr b ↦ elim (or_cases (in_draw k p) (in_run k p) b) [
        | inl d ↦ inl (inr (in_draw-place k p d))
        | inr r ↦ inr (in_run-place k p r)
      ]
    ]

fit-retire : (k : CallerId) (p : Place) → Held k p ⊎ (p ≡ places.Runs k) → (in_hands k p || (in_draw k p || in_run k p)) ≡ true
fit-retire k p h =
    elim h [
      | inl held ↦ elim held [
        | inl a ↦ or_left (in_hands k p) (in_draw k p || in_run k p) (place-in_hands k p a)
        | inr d ↦ or_right (in_hands k p) (in_draw k p || in_run k p) (or_left (in_draw k p) (in_run k p) (place-in_draw k p d))
      ]
      | inr r ↦ or_right (in_hands k p) (in_draw k p || in_run k p) (or_right (in_draw k p) (in_run k p) (place-in_run k p r))
    ]

-- a worker's get names a worker
worker-named : (s : State) (k : CallerId) (g : ℕ) → is_named s k (calls.Get g) ≡ true → k.0 < s.workers
worker-named s k g h = grind (arith, nat_tests)

-- each task that an allowed call is about admits the call's event
admits-about : (s : State) (k : CallerId) (c : Call) (r : Reply) (i : ℕ) → is_named s k c ≡ true → fits s k c ≡ true → Roomy c (task_at s (subject c)) → IsReply s k c r → is_about i c ≡ true → Allows s.workers k (event_of i c r) (task_at s i)
admits-about s k (calls.Wake j f) r i named fit room reply about =
    let e = eqb-true i j.0 about in rw (reply, e) (refl, tt, tt)
admits-about s k (calls.Kill j) r i named fit room reply about =
    let e = eqb-true i j.0 about in rw (reply, e) (refl, tt, tt)
admits-about s k (calls.Post j b) r i named fit room reply about =
    let e = eqb-true i j.0 about in rw e (in_hands-place k (task_at s j.0).place fit)
admits-about s k (calls.Get g) r i named fit room reply about =
    let e = eqb-true (i / 64) g about in
    rw (reply.1, get-event s k.0 g reply.0 i reply.2 e) (get-allows s.workers k (task_at s i) (is_boxed k.0 (task_at s i).place) refl (worker-named s k g named))
admits-about s k (calls.Draw j) r i named fit room reply about =
    let e = eqb-true i j.0 about in rw e (is_boxed-place s.workers (task_at s j.0).place fit)
admits-about s k (calls.Take j) r i named fit room reply about =
    let e = eqb-true i j.0 about in rw (reply, e) (refl, held-fit k (task_at s j.0).place fit, room)
admits-about s k (calls.DropRun j) r i named fit room reply about =
    let e = eqb-true i j.0 about in rw (reply, e) (refl, in_run-place k (task_at s j.0).place fit, tt)
admits-about s k (calls.Retire j) r i named fit room reply about =
    let e = eqb-true i j.0 about in rw (reply, e) (refl, retire-fit k (task_at s j.0).place fit, tt)

kind-reply : (s : State) (k : CallerId) (c : Call) (r : Reply) → IsReply s k c r → HasKind c r
kind-reply s k (calls.Wake j f) r h = (seen_of (task_at s j.0), h)
kind-reply s k (calls.Kill j) r h = (seen_of (task_at s j.0), h)
kind-reply s k (calls.Post j b) r h = h
kind-reply s k (calls.Get g) r h = (h.0, h.1, h.2.0)
kind-reply s k (calls.Draw j) r h = h
kind-reply s k (calls.Take j) r h = (seen_of (task_at s j.0), h)
kind-reply s k (calls.DropRun j) r h = (seen_of (task_at s j.0), h)
kind-reply s k (calls.Retire j) r h = (seen_of (task_at s j.0), h)

admits-either : (s : State) (k : CallerId) (c : Call) (r : Reply) (i : ℕ) (b : Bool) → (b ≡ true → Allows s.workers k (event_of i c r) (task_at s i)) → Allows s.workers k (if b then event_of i c r else apart) (task_at s i)
admits-either s k c r i true h = h refl
admits-either s k c r i false h = tt

pub Allowed-split : (s : State) (e : Entry) → Allowed s e → IsFormed s e × Admits s e
Allowed-split s e a = (
  (a.named, kind-reply s e.caller e.call e.reply a.reply),
  λ i. admits-either s e.caller e.call e.reply i (is_about i e.call) (λ about. admits-about s e.caller e.call e.reply i a.named a.fit a.room a.reply about),
)

-- what a call is for a task that it is about
event-about : (i : ℕ) (e : Entry) → is_about i e.call ≡ true → event_at i e ≡ event_of i e.call e.reply
event-about i e h = rw h

-- the task that a call names tells that the call is allowed
abbrev Fitting : State → CallerId → Call → Reply → Type 0
Fitting s k c r = (fits s k c ≡ true) × Roomy c (task_at s (subject c)) × IsReply s k c r

abbrev AdmitsAll : State → CallerId → Call → Reply → Type 0
AdmitsAll s k c r = (i : ℕ) → Allows s.workers k (if is_about i c then event_of i c r else apart) (task_at s i)

here : (i : ℕ) → (i == i) ≡ true
here i = eq-eqb i i refl

-- the bit of a get's word at a task of the group
get-bit : (w : ℕ) (k : CallerId) (t : TaskState) (n : ℕ) → n < 2 → Allows w k (if n == 1 then gets else misses) t → n ≡ bit (is_boxed k.0 t.place)
get-bit w k t n small h =
    elim (cases_Bool (n == 1)) [
      | inl one ↦
          let a : Allows w k gets t = rw one at h in
          rw (place-is_boxed k.0 t.place a.0) (eqb-true n 1 one)
      | inr none ↦
          let a : Allows w k misses t = rw none at h in
          elim (cases_Bool (is_boxed k.0 t.place)) [
            | inl boxed ↦ absurd (a.0 (is_boxed-place k.0 t.place boxed))
            | inr other ↦ rw other (let ne : n ≢ 1 = λ e. (let f = eq-eqb n 1 e in cc) in omega arith)
          ]
    ]

fitting : (s : State) (k : CallerId) (c : Call) (r : Reply) → HasKind c r → AdmitsAll s k c r → Fitting s k c r
fitting s k (calls.Wake j f) r kind a =
    let h = a j.0 in let g = rw (here j.0, kind.1) at h in (refl, tt, kind.1 ∙ ap replies.Task (sym g.0))
fitting s k (calls.Kill j) r kind a =
    let h = a j.0 in let g = rw (here j.0, kind.1) at h in (refl, tt, kind.1 ∙ ap replies.Task (sym g.0))
fitting s k (calls.Post j b) r kind a =
    let h = a j.0 in let g = rw (here j.0) at h in (place-in_hands k (task_at s j.0).place g, tt, kind)
fitting s k (calls.Get g) r kind a = (refl, tt, (kind.0, kind.1, (kind.2, get-bits s k g r kind.0 kind.1 a)))
  where
    get-bits : (s : State) (k : CallerId) (g : ℕ) (r : Reply) (n : ℕ) → r ≡ replies.Group n → AdmitsAll s k (calls.Get g) r → (j : ℕ) → j < 64 → bit_at n j ≡ bit (is_boxed k.0 (task_at s (64 * g + j)).place)
    get-bits s k g r n e a j lt =
        let q : (64 * g + j) / 64 ≡ g = omega arith in
        let m : (64 * g + j) % 64 ≡ j = omega arith in
        let h = a (64 * g + j) in
        let about : ((64 * g + j) / 64 == g) ≡ true = eq-eqb ((64 * g + j) / 64) g q in
        let small : bit_at n j < 2 = omega arith in
        get-bit s.workers k (task_at s (64 * g + j)) (bit_at n j) small (rw (about, e, m) at h)
fitting s k (calls.Draw j) r kind a =
    let h = a j.0 in let g = rw (here j.0) at h in (place-is_boxed s.workers (task_at s j.0).place g, tt, kind)
fitting s k (calls.Take j) r kind a =
    let h = a j.0 in
    let g = rw (here j.0, kind.1) at h in (fit-held k (task_at s j.0).place g.1, g.2, kind.1 ∙ ap replies.Task (sym g.0))
fitting s k (calls.DropRun j) r kind a =
    let h = a j.0 in
    let g = rw (here j.0, kind.1) at h in (place-in_run k (task_at s j.0).place g.1, tt, kind.1 ∙ ap replies.Task (sym g.0))
fitting s k (calls.Retire j) r kind a =
    let h = a j.0 in
    let g = rw (here j.0, kind.1) at h in (fit-retire k (task_at s j.0).place g.1, tt, kind.1 ∙ ap replies.Task (sym g.0))

pub Allowed-joined : (s : State) (e : Entry) → IsFormed s e → Admits s e → Allowed s e
Allowed-joined s e formed a =
    let f = fitting s e.caller e.call e.reply formed.1 a in
    record { named = formed.0; fit = f.0; room = f.1; reply = f.2 }

-- a task that a call is about is afterwards what the call's event makes of it
changed-about : (s : State) (k : CallerId) (c : Call) (r : Reply) (i : ℕ) → IsReply s k c r → is_about i c ≡ true → changed k c (task_at s i) ≡ next k (event_of i c r) (task_at s i)
changed-about s k (calls.Wake j f) r i reply about = rw reply
changed-about s k (calls.Kill j) r i reply about = rw reply
changed-about s k (calls.Post j b) r i reply about = refl
changed-about s k (calls.Get g) r i reply about =
    let e = eqb-true (i / 64) g about in
    rw (reply.1, get-event s k.0 g reply.0 i reply.2 e) (sym (get-next k (task_at s i) (is_boxed k.0 (task_at s i).place) refl))
changed-about s k (calls.Draw j) r i reply about = refl
changed-about s k (calls.Take j) r i reply about = rw reply
changed-about s k (calls.DropRun j) r i reply about = rw reply
changed-about s k (calls.Retire j) r i reply about = rw reply

moved-either : (s : State) (k : CallerId) (c : Call) (r : Reply) (i : ℕ) (b : Bool) → (b ≡ true → changed k c (task_at s i) ≡ next k (event_of i c r) (task_at s i)) → (if b then changed k c (task_at s i) else task_at s i) ≡ next k (if b then event_of i c r else apart) (task_at s i)
moved-either s k c r i true h = h refl
moved-either s k c r i false h = refl

pub task_at-stepped : (s : State) (e : Entry) → Allowed s e → (i : ℕ) → task_at (stepped s e) i ≡ next e.caller (event_at i e) (task_at s i)
task_at-stepped s e a i =
    task_at-after s e.caller e.call i (subject-lt s e.caller e.call a.named) ∙
    moved-either s e.caller e.call e.reply i (is_about i e.call) (λ about. changed-about s e.caller e.call e.reply i a.reply about)

-- what an entry names is there whatever state of the machine this is
names-sized : (a b : State) (k : CallerId) (c : Call) → a.workers ≡ b.workers → names a k c ≡ names b k c
names-sized a b k (calls.Wake i f) e = refl
names-sized a b k (calls.Kill i) e = refl
names-sized a b k (calls.Post i x) e = ap (λ w. nat_lt x (w + 1)) e
names-sized a b k (calls.Get g) e = ap (λ w. nat_lt k.0 w) e
names-sized a b k (calls.Draw i) e = refl
names-sized a b k (calls.Take i) e = refl
names-sized a b k (calls.DropRun i) e = refl
names-sized a b k (calls.Retire i) e = refl

pub is_named-sized : (a b : State) (k : CallerId) (c : Call) → a.workers ≡ b.workers → length a.tasks ≡ length b.tasks → is_named a k c ≡ is_named b k c
is_named-sized a b k c e l =
    let box : is_box a k.0 ≡ is_box b k.0 = ap (λ w. nat_lt k.0 (w + 1)) e in
    let task : is_task a (subject c) ≡ is_task b (subject c) = ap (λ n. nat_lt (subject c) n) l in
    let other = names-sized a b k c e in cc

pub IsFormed-sized : (a b : State) (e : Entry) → a.workers ≡ b.workers → length a.tasks ≡ length b.tasks → IsFormed a e → IsFormed b e
IsFormed-sized a b e w l h = (sym (is_named-sized a b e.caller e.call w l) ∙ h.0, h.1)

pub AllFormed-sized : (a b : State) (es : List Entry) → a.workers ≡ b.workers → length a.tasks ≡ length b.tasks → AllFormed a es → AllFormed b es
AllFormed-sized a b [] w l h = tt
AllFormed-sized a b (e ∷ es) w l h = (IsFormed-sized a b e w l h.0, AllFormed-sized a b es w l h.1)

pub AllFormed-stepped : (s : State) (d : Entry) (es : List Entry) → AllFormed s es → AllFormed (stepped s d) es
AllFormed-stepped s d es h = AllFormed-sized s (stepped s d) es refl (sym (length-after s d.caller d.call)) h

AllFormed-before : (s : State) (d : Entry) (es : List Entry) → AllFormed (stepped s d) es → AllFormed s es
AllFormed-before s d es h = AllFormed-sized (stepped s d) s es refl (length-after s d.caller d.call) h

pub Legal-split : (s : State) (es : List Entry) → Legal s es → AllFormed s es × ((i : ℕ) → LegalFor s.workers i (task_at s i) es)
Legal-split s [] h = (tt, λ i. tt)
Legal-split s (e ∷ es) h =
    let first = Allowed-split s e h.0 in
    let rest = Legal-split (stepped s e) es h.1 in (
      (first.0, AllFormed-before s e es rest.0),
      λ i. (first.1 i, rw (task_at-stepped s e h.0 i) at (rest.1 i)),
    )

pub Legal-joined : (s : State) (es : List Entry) → AllFormed s es → ((i : ℕ) → LegalFor s.workers i (task_at s i) es) → Legal s es
Legal-joined s [] f h = tt
Legal-joined s (e ∷ es) f h =
    let first = Allowed-joined s e f.0 (λ i. (h i).0) in
    (first, Legal-joined (stepped s e) es (AllFormed-stepped s e es f.1) (λ i. rw (task_at-stepped s e first i) (h i).1))

pub task_at-led : (s : State) (es : List Entry) → Legal s es → (i : ℕ) → task_at (led s es) i ≡ led_for i (task_at s i) es
task_at-led s [] h i = refl
task_at-led s (e ∷ es) h i =
    task_at-led (stepped s e) es h.1 i ∙ ap (λ t. led_for i t es) (task_at-stepped s e h.0 i)
