-- A take in a legal history has the reasons since the task's previous take.
use Rattle.std.proofs.Common.{◌≡◌, ℕ, Bool, true, false, ◌||◌, ◌==◌, if◌then◌else◌, List, [], ◌∷◌, ◌++◌, refl, ap, subst, inl, inr, length, ◌⊎◌, eqb-true, bit_or}
use Rattle.std.proofs.lemmas.Bool.{cases_Bool, cases_eq, cases_lt}
use Rattle.std.proofs.lemmas.List.{append_assoc, append-nil, get_or-set_same, get_or-set_other, set_past}
use Rattle.std.proofs.Math.Bool.{or-true}
use Rattle.std.specs.Int.Bits.{or_zero_r}
use Rattle.sched_base.specs.declared.names.CallerId.{CallerId}
use Rattle.task_machine.specs.declared.task.Place.{Place}
use Rattle.task_machine.specs.declared.task.Place.TheVariants as places
use Rattle.task_machine.specs.declared.task.TaskState.{TaskState}
use Rattle.task_machine.specs.declared.calls.Call.{Call}
use Rattle.task_machine.specs.declared.calls.Call.TheVariants as calls
use Rattle.task_machine.specs.declared.calls.Reply.{Reply}
use Rattle.task_machine.specs.declared.calls.Reply.TheVariants as replies
use Rattle.task_machine.specs.declared.calls.Entry.{Entry}
use Rattle.task_machine.specs.Task.{resting, is_gone, put, in_hands, in_draw, in_run, is_boxed, seen_at, woken, flagged, got}
use Rattle.task_machine.specs.Step.{State, task_at, is_about, needs, fits, changed, put_task, IsReply, Allowed}
use Rattle.task_machine.specs.History.{stepped, Legal, led}
use Rattle.task_machine.specs.Since.{wake_of, is_kill, is_take, first_reasons, reasons_since, killed_since, Tells, TakesTell, OpensAs, IsOpening}
use Rattle.task_machine.proofs.After.{task_at-after, subject-lt}
use Rattle.task_machine.proofs.Histories.{Legal-front, Legal-rest}
use Rattle.task_machine.proofs.SinceTake.{or_false, reasons_since-take, reasons_since-push, reasons_since-none, killed_since-take, killed_since-push}
use Rattle.task_machine.proofs.Validity.{needs-about}

-- a task that is not gone has these pending reasons and this flag
abbrev pub AgreesAt : ℕ → Bool → TaskState → Type 0
AgreesAt n b t = is_gone t.place ≡ false → (t.pending ≡ n) × (t.killed ≡ b)

-- each task that is not gone has what came for it since its last take
abbrev pub Agrees : (ℕ → Bool) → List Entry → State → Type 0
Agrees is_init past s = (i : ℕ) → AgreesAt (reasons_since is_init i past) (killed_since i past) (task_at s i)

-- each take tells what came since the task's last take, counting what came in the past
abbrev pub TellsAfter : (ℕ → Bool) → List Entry → List Entry → Type 0
TellsAfter is_init past es =
    (xs : List Entry) (e : Entry) (more : List Entry) (i : ℕ) → es ≡ xs ++ e ∷ more → is_take i e.call ≡ true → Tells (reasons_since is_init i (past ++ xs)) (killed_since i (past ++ xs)) e.reply

-- a task with these parts
abbrev at : Place → ℕ → Bool → ℕ → TaskState
at p n b m = record { place = p; pending = n; killed = b; takes = m }

woken-agrees : (k : CallerId) (f n : ℕ) (b : Bool) (p : Place) (x : ℕ) (y : Bool) (m : ℕ) → AgreesAt n b (at p x y m) → AgreesAt (bit_or n f) b (woken k f (at p x y m))
woken-agrees k f n b places.Rest x y m h = λ _. (ap (λ v. bit_or v f) (h refl).0, (h refl).1)
woken-agrees k f n b (places.Hands j) x y m h = λ _. (ap (λ v. bit_or v f) (h refl).0, (h refl).1)
woken-agrees k f n b (places.Boxed c) x y m h = λ _. (ap (λ v. bit_or v f) (h refl).0, (h refl).1)
woken-agrees k f n b (places.Drawn j) x y m h = λ _. (ap (λ v. bit_or v f) (h refl).0, (h refl).1)
woken-agrees k f n b (places.Runs j) x y m h = λ _. (ap (λ v. bit_or v f) (h refl).0, (h refl).1)
woken-agrees k f n b places.Gone x y m h = λ e. cc

flagged-agrees : (k : CallerId) (n : ℕ) (b : Bool) (p : Place) (x : ℕ) (y : Bool) (m : ℕ) → AgreesAt n b (at p x y m) → AgreesAt n true (flagged k (at p x y m))
flagged-agrees k n b places.Rest x y m h = λ _. ((h refl).0, refl)
flagged-agrees k n b (places.Hands j) x y m h = λ _. ((h refl).0, refl)
flagged-agrees k n b (places.Boxed c) x y m h = λ _. ((h refl).0, refl)
flagged-agrees k n b (places.Drawn j) x y m h = λ _. ((h refl).0, refl)
flagged-agrees k n b (places.Runs j) x y m h = λ _. ((h refl).0, refl)
flagged-agrees k n b places.Gone x y m h = λ e. cc

got-agrees : (k : CallerId) (n : ℕ) (b : Bool) (t : TaskState) (here : Bool) → AgreesAt n b t → is_gone t.place ≡ false → AgreesAt n b (if here then put (places.Hands k) t else t)
got-agrees k n b t true h e = λ _. h e
got-agrees k n b t false h e = h

got-agrees-at : (k : CallerId) (n : ℕ) (b : Bool) (p : Place) (x : ℕ) (y : Bool) (m : ℕ) → AgreesAt n b (at p x y m) → AgreesAt n b (got k (at p x y m))
got-agrees-at k n b places.Rest x y m h = h
got-agrees-at k n b (places.Hands j) x y m h = h
got-agrees-at k n b (places.Boxed c) x y m h = got-agrees k n b (at (places.Boxed c) x y m) (k.0 == c) h refl
got-agrees-at k n b (places.Drawn j) x y m h = h
got-agrees-at k n b (places.Runs j) x y m h = h
got-agrees-at k n b places.Gone x y m h = h

pub held_not_gone : (k : CallerId) (p : Place) → in_hands k p ≡ true → is_gone p ≡ false
held_not_gone k places.Rest h = refl
held_not_gone k (places.Hands j) h = refl
held_not_gone k (places.Boxed c) h = refl
held_not_gone k (places.Drawn j) h = refl
held_not_gone k (places.Runs j) h = refl
held_not_gone k places.Gone h = cc

pub boxed_not_gone : (c : ℕ) (p : Place) → is_boxed c p ≡ true → is_gone p ≡ false
boxed_not_gone c places.Rest h = refl
boxed_not_gone c (places.Hands j) h = refl
boxed_not_gone c (places.Boxed d) h = refl
boxed_not_gone c (places.Drawn j) h = refl
boxed_not_gone c (places.Runs j) h = refl
boxed_not_gone c places.Gone h = cc

pub run_not_gone : (k : CallerId) (p : Place) → in_run k p ≡ true → is_gone p ≡ false
run_not_gone k places.Rest h = refl
run_not_gone k (places.Hands j) h = refl
run_not_gone k (places.Boxed c) h = refl
run_not_gone k (places.Drawn j) h = refl
run_not_gone k (places.Runs j) h = refl
run_not_gone k places.Gone h = cc

-- what a call adds to the reasons and the flag of a task
abbrev next_reasons : ℕ → Call → ℕ → ℕ
next_reasons i c n = if is_take i c then 0 else bit_or n (wake_of i c)

abbrev next_killed : ℕ → Call → Bool → Bool
next_killed i c b = if is_take i c then false else b || is_kill i c

changed-agrees : (w : ℕ) (k : CallerId) (c : Call) (i : ℕ) (t : TaskState) (n : ℕ) (b : Bool) → needs w k c t.place ≡ true → is_about i c ≡ true → AgreesAt n b t → AgreesAt (next_reasons i c n) (next_killed i c b) (changed k c t)
changed-agrees w k (calls.Wake j f) i t n b fit e h = rw (e, or_false b) (woken-agrees k f n b t.place t.pending t.killed t.takes h)
changed-agrees w k (calls.Kill j) i t n b fit e h = rw (e, or_zero_r n, or-true b) (flagged-agrees k n b t.place t.pending t.killed t.takes h)
changed-agrees w k (calls.Post j c) i t n b fit e h = rw (or_zero_r n, or_false b) (λ _. h (held_not_gone k t.place fit))
changed-agrees w k (calls.Get g) i t n b fit e h = rw (or_zero_r n, or_false b) (got-agrees-at k n b t.place t.pending t.killed t.takes h)
changed-agrees w k (calls.Draw j) i t n b fit e h = rw (or_zero_r n, or_false b) (λ _. h (boxed_not_gone w t.place fit))
changed-agrees w k (calls.Take j) i t n b fit e h = rw e (λ _. (refl, refl))
changed-agrees w k (calls.DropRun j) i t n b fit e h = rw (or_zero_r n, or_false b) (λ _. h (run_not_gone k t.place fit))
changed-agrees w k (calls.Retire j) i t n b fit e h = λ g. cc

apart-agrees : (c : Call) (i : ℕ) (t : TaskState) (n : ℕ) (b : Bool) → is_about i c ≡ false → AgreesAt n b t → AgreesAt (next_reasons i c n) (next_killed i c b) t
apart-agrees (calls.Wake j f) i t n b e h = rw (e, or_zero_r n, or_false b) h
apart-agrees (calls.Kill j) i t n b e h = rw (e, or_zero_r n, or_false b) h
apart-agrees (calls.Post j c) i t n b e h = rw (or_zero_r n, or_false b) h
apart-agrees (calls.Get g) i t n b e h = rw (or_zero_r n, or_false b) h
apart-agrees (calls.Draw j) i t n b e h = rw (or_zero_r n, or_false b) h
apart-agrees (calls.Take j) i t n b e h = rw (e, or_zero_r n, or_false b) h
apart-agrees (calls.DropRun j) i t n b e h = rw (or_zero_r n, or_false b) h
apart-agrees (calls.Retire j) i t n b e h = rw (or_zero_r n, or_false b) h

moved-agrees : (s : State) (k : CallerId) (c : Call) (i : ℕ) (about : Bool) (n : ℕ) (b : Bool) → is_about i c ≡ about → fits s k c ≡ true → AgreesAt n b (task_at s i) → AgreesAt (next_reasons i c n) (next_killed i c b) (if about then changed k c (task_at s i) else task_at s i)
moved-agrees s k c i true n b e fit h = changed-agrees s.workers k c i (task_at s i) n b (needs-about s k c i fit e) e h
moved-agrees s k c i false n b e fit h = apart-agrees c i (task_at s i) n b e h

reasons_since-next : (is_init : ℕ → Bool) (i : ℕ) (xs : List Entry) (e : Entry) → reasons_since is_init i (xs ++ e ∷ []) ≡ next_reasons i e.call (reasons_since is_init i xs)
reasons_since-next is_init i xs e =
    elim (cases_Bool (is_take i e.call)) [
      | inl hit ↦ rw hit (reasons_since-take is_init i xs e hit)
      | inr miss ↦ rw miss (reasons_since-push is_init i xs e miss)
    ]

killed_since-next : (i : ℕ) (xs : List Entry) (e : Entry) → killed_since i (xs ++ e ∷ []) ≡ next_killed i e.call (killed_since i xs)
killed_since-next i xs e =
    elim (cases_Bool (is_take i e.call)) [
      | inl hit ↦ rw hit (killed_since-take i xs e hit)
      | inr miss ↦ rw miss (killed_since-push i xs e miss)
    ]

-- one step keeps the agreement, with its entry in the past
pub Agrees-step : (is_init : ℕ → Bool) (past : List Entry) (s : State) (e : Entry) → Allowed s e → Agrees is_init past s → Agrees is_init (past ++ e ∷ []) (stepped s e)
Agrees-step is_init past s e a h i =
    rw (reasons_since-next is_init i past e, killed_since-next i past e, task_at-after s e.caller e.call i (subject-lt s e.caller e.call a.named)) (moved-agrees s e.caller e.call i (is_about i e.call) (reasons_since is_init i past) (killed_since i past) refl a.fit (h i))

pub Agrees-legal : (is_init : ℕ → Bool) (past : List Entry) (s : State) (es : List Entry) → Legal s es → Agrees is_init past s → Agrees is_init (past ++ es) (led s es)
Agrees-legal is_init past s [] l h = rw (append-nil past) h
Agrees-legal is_init past s (e ∷ es) l h =
    rw (← append_assoc past (e ∷ []) es) (Agrees-legal is_init (past ++ e ∷ []) (stepped s e) es l.1 (Agrees-step is_init past s e l.0 h))

-- the reply of a take of task i tells what the task has
seen-tells : (k : CallerId) (p : Place) (n : ℕ) (b : Bool) (t : TaskState) → (in_hands k p || in_draw k p) ≡ true → t.place ≡ p → AgreesAt n b t → Tells n b (replies.Task (seen_at p t))
seen-tells k places.Rest n b t held e h = cc
seen-tells k (places.Hands j) n b t held e h = h (ap is_gone e)
seen-tells k (places.Boxed c) n b t held e h = cc
seen-tells k (places.Drawn j) n b t held e h = h (ap is_gone e)
seen-tells k (places.Runs j) n b t held e h = cc
seen-tells k places.Gone n b t held e h = cc

take-tells : (s : State) (k : CallerId) (c : Call) (r : Reply) (i n : ℕ) (b : Bool) → is_take i c ≡ true → fits s k c ≡ true → IsReply s k c r → AgreesAt n b (task_at s i) → Tells n b r
take-tells s k (calls.Wake j f) r i n b e fit reply h = cc
take-tells s k (calls.Kill j) r i n b e fit reply h = cc
take-tells s k (calls.Post j c) r i n b e fit reply h = cc
take-tells s k (calls.Get g) r i n b e fit reply h = cc
take-tells s k (calls.Draw j) r i n b e fit reply h = cc
take-tells s k (calls.Take j) r i n b e fit reply h =
    let t = task_at s j.0 in
    let here : AgreesAt n b t = subst (λ (m : ℕ). AgreesAt n b (task_at s m)) (eqb-true i j.0 e) h in
    rw reply (seen-tells k t.place n b t fit refl here)
take-tells s k (calls.DropRun j) r i n b e fit reply h = cc
take-tells s k (calls.Retire j) r i n b e fit reply h = cc

pub Tells-legal : (is_init : ℕ → Bool) (past : List Entry) (s : State) (es : List Entry) → Legal s es → Agrees is_init past s → TellsAfter is_init past es
Tells-legal is_init past s es l h xs e more i split hit =
    let whole : Legal s (xs ++ e ∷ more) = subst (λ (ys : List Entry). Legal s ys) split l in
    let a = (Legal-rest s xs (e ∷ more) whole).0 in
    let agrees = Agrees-legal is_init past s xs (Legal-front s xs (e ∷ more) whole) h in
    take-tells (led s xs) e.caller e.call e.reply i (reasons_since is_init i (past ++ xs)) (killed_since i (past ++ xs)) hit a.fit a.reply (agrees i)

OpensAs-agrees : (init : Bool) (t : TaskState) → OpensAs init t → AgreesAt (first_reasons init) false t
OpensAs-agrees true t h = λ _. rw h.1 (refl, refl)
OpensAs-agrees false t h = λ _. rw h (refl, refl)

pub Agrees-opening : (is_init : ℕ → Bool) (s : State) → IsOpening is_init s → Agrees is_init [] s
Agrees-opening is_init s h i = rw (reasons_since-none is_init i) (OpensAs-agrees (is_init i) (task_at s i) (h i))

pub TakesTell-legal : (is_init : ℕ → Bool) (s : State) (es : List Entry) → IsOpening is_init s → Legal s es → TakesTell is_init es
TakesTell-legal is_init s es o l = Tells-legal is_init [] s es l (Agrees-opening is_init s o)

-- a task that is not gone may be put elsewhere
pub Agrees-put : (is_init : ℕ → Bool) (past : List Entry) (s : State) (i : ℕ) (p : Place) → is_gone (task_at s i).place ≡ false → Agrees is_init past s → Agrees is_init past (put_task s i (put p (task_at s i)))
Agrees-put is_init past s i p live h j =
    elim (cases_eq j i) [
      | inl same ↦
          rw same (elim (cases_lt i (length s.tasks)) [
            | inl lt ↦ rw (get_or-set_same s.tasks i (put p (task_at s i)) resting lt) (λ _. h i live)
            | inr le ↦ rw (set_past s.tasks i (put p (task_at s i)) le) (h i)
          ])
      | inr ne ↦ rw (get_or-set_other s.tasks i j (put p (task_at s i)) resting ne) (h j)
    ]

-- an entry of two lists stands in the first or in the second
abbrev InFirst : List Entry → List Entry → Entry → Type 0
InFirst es xs e = (zs : List Entry) × (es ≡ xs ++ e ∷ zs)

abbrev InSecond : List Entry → List Entry → List Entry → Entry → List Entry → Type 0
InSecond es fs xs e more = (zs : List Entry) × (xs ≡ es ++ zs) × (fs ≡ zs ++ e ∷ more)

entry_of_two : (es fs xs : List Entry) (e : Entry) (more : List Entry) → es ++ fs ≡ xs ++ e ∷ more → InFirst es xs e ⊎ InSecond es fs xs e more
entry_of_two [] fs xs e more h = inr (xs, refl, h)
entry_of_two (y ∷ es) fs [] e more h = let first : y ≡ e = cc in inl (es, ap (λ x. x ∷ es) first)
entry_of_two (y ∷ es) fs (x ∷ xs) e more h =
    let first : y ≡ x = cc in
    let rest : es ++ fs ≡ xs ++ e ∷ more = cc in
    elim (entry_of_two es fs xs e more rest) [
      | inl a ↦ inl (a.0, rw first (ap (λ ys. x ∷ ys) a.1))
      | inr b ↦ inr (b.0, rw first (ap (λ ys. x ∷ ys) b.1), b.2)
    ]

-- what two histories tell one after the other, the second over the first
pub TellsAfter-append : (is_init : ℕ → Bool) (past es fs : List Entry) → TellsAfter is_init past es → TellsAfter is_init (past ++ es) fs → TellsAfter is_init past (es ++ fs)
TellsAfter-append is_init past es fs h g xs e more i split hit =
    elim (entry_of_two es fs xs e more split) [
      | inl a ↦ h xs e a.0 i a.1 hit
      | inr b ↦ rw (b.1, ← append_assoc past es b.0) (g b.0 e more i b.2 hit)
    ]
