-- The steps of a take, of the end of a run and of a retirement.
use Rattle.std.proofs.Common.{◌≡◌, ◌≢◌, ◌⊎◌, ℕ, suc, ◌+◌, ◌-◌, ◌^◌, ◌<◌, Bool, true, false, ◌==◌, ◌||◌, if◌then◌else◌, [], ◌∷◌, length, get_or, set, bit_and, refl, sym, ap, subst, ◌∙◌, inl, inr, arith, eq-eqb, eqb-true}
use mathlib.Core.Option.{some, none}
use lib.ListN.{get_elem?}
use Rattle.atomic_table.specs.Table as table
use Rattle.sched_base.specs.declared.names.CallerId.{CallerId}
use Rattle.sched_base.specs.declared.names.TaskId.{TaskId}
use Rattle.task_machine.specs.declared.task.Place.{Place}
use Rattle.task_machine.specs.declared.task.Place.TheVariants as places
use Rattle.task_machine.specs.declared.task.TaskState.{TaskState}
use Rattle.task_machine.specs.declared.calls.Call.{Call}
use Rattle.task_machine.specs.declared.calls.Call.TheVariants as calls
use Rattle.task_machine.specs.declared.calls.Reply.TheVariants as replies
use Rattle.task_machine.specs.declared.calls.Entry.{Entry}
use Rattle.task_machine.specs.Task.{gone, is_busy, is_boxed, in_hands, in_draw, in_run, seen_of, seen_at, taken, dropped}
use Rattle.task_machine.specs.Step.{State, task_at}
use Rattle.task_machine.specs.History.{stepped}
use Rattle.task_machine.specs.Own.{away, holding, drawing, running, own_at}
use Rattle.task_word.specs.Word.{seen_in, StandsFor, drop_mask, taken_word}
use Rattle.task_word.proofs.Words.{dropped_follows, seen_in-stands}
use Rattle.wake_board.specs.declared.body.Body.{Body}
use Rattle.wake_board.specs.declared.views.Opening.{Opening}
use Rattle.wake_board.specs.declared.views.View.{View}
use Rattle.wake_board.specs.Start.{Start, start_of, home_of, IsShared}
use Rattle.wake_board.specs.Rule.{now_of, IsHomed, IsPaced, Leads, gain, IsAway, Housed, IsKept}
use Rattle.wake_board.specs.Outs.{out_of, HasBody, NoBody}
use Rattle.wake_board.specs.Seen.{entry_by, own_log, logged, own_view, Told, TellsCall, takes_seen, TellsTake}
use Rattle.wake_board.specs.Own.{takes_in, known_takes}
use Rattle.wake_board.proofs.Moves.{own_first, attests-call}
use Rattle.wake_board.proofs.Tasks.{OneTask}
use Rattle.wake_board.proofs.Looks.{LookStep, look-kept, own-now, housed-free, housed-taken, free_led, free_own}
use Rattle.wake_board.proofs.Known.{takes-led, takes_in-home}

-- a caller by its number
abbrev pub caller : ℕ → CallerId
caller k = record { 0 = k }

same_caller : (k : ℕ) (j : CallerId) → (j.0 == k) ≡ true → j ≡ caller k
same_caller k j e = ap caller (eqb-true j.0 k e)

-- the place of a task that a caller has
pub record HasAt (k : ℕ) (p : Place) : Type 0 where
  pub place : (p ≡ places.Hands (caller k)) ⊎ ((p ≡ places.Drawn (caller k)) ⊎ (p ≡ places.Runs (caller k)))

hands_at : (k : ℕ) (j : CallerId) (b : Bool) → (j.0 == k) ≡ b → (if b then holding else away) ≢ away → HasAt k (places.Hands j)
hands_at k j true e h = record { place = inl (ap places.Hands (same_caller k j e)) }
hands_at k j false e h = absurd (h refl)

drawn_at : (k : ℕ) (j : CallerId) (b : Bool) → (j.0 == k) ≡ b → (if b then drawing else away) ≢ away → HasAt k (places.Drawn j)
drawn_at k j true e h = record { place = inr (inl (ap places.Drawn (same_caller k j e))) }
drawn_at k j false e h = absurd (h refl)

runs_at : (k : ℕ) (j : CallerId) (b : Bool) → (j.0 == k) ≡ b → (if b then running else away) ≢ away → HasAt k (places.Runs j)
runs_at k j true e h = record { place = inr (inr (ap places.Runs (same_caller k j e))) }
runs_at k j false e h = absurd (h refl)

pub has_at : (k : ℕ) (p : Place) → own_at k p ≢ away → HasAt k p
has_at k places.Rest h = absurd (h refl)
has_at k (places.Hands j) h = hands_at k j (j.0 == k) refl h
has_at k (places.Boxed b) h = absurd (h refl)
has_at k (places.Drawn j) h = drawn_at k j (j.0 == k) refl h
has_at k (places.Runs j) h = runs_at k j (j.0 == k) refl h
has_at k places.Gone h = absurd (h refl)

own_hands : (k : ℕ) → own_at k (places.Hands (caller k)) ≡ holding
own_hands k = ap (λ (b : Bool). if b then holding else away) (eq-eqb k k refl)

own_drawn : (k : ℕ) → own_at k (places.Drawn (caller k)) ≡ drawing
own_drawn k = ap (λ (b : Bool). if b then drawing else away) (eq-eqb k k refl)

own_runs : (k : ℕ) → own_at k (places.Runs (caller k)) ≡ running
own_runs k = ap (λ (b : Bool). if b then running else away) (eq-eqb k k refl)

pub hands_by : (k : ℕ) (p : Place) → own_at k p ≡ holding → p ≡ places.Hands (caller k)
hands_by k p h =
    let some' : own_at k p ≢ away = λ e. cc in
    elim (has_at k p some').place [
      | inl a ↦ a
      | inr other ↦ elim other [
        | inl b ↦ (let x : own_at k p ≡ drawing = ap (own_at k) b ∙ own_drawn k in cc)
        | inr d ↦ (let x : own_at k p ≡ running = ap (own_at k) d ∙ own_runs k in cc)
      ]
    ]

pub drawn_by : (k : ℕ) (p : Place) → own_at k p ≡ drawing → p ≡ places.Drawn (caller k)
drawn_by k p h =
    let some' : own_at k p ≢ away = λ e. cc in
    elim (has_at k p some').place [
      | inl a ↦ (let x : own_at k p ≡ holding = ap (own_at k) a ∙ own_hands k in cc)
      | inr other ↦ elim other [
        | inl b ↦ b
        | inr d ↦ (let x : own_at k p ≡ running = ap (own_at k) d ∙ own_runs k in cc)
      ]
    ]

pub runs_by : (k : ℕ) (p : Place) → own_at k p ≡ running → p ≡ places.Runs (caller k)
runs_by k p h =
    let some' : own_at k p ≢ away = λ e. cc in
    elim (has_at k p some').place [
      | inl a ↦ (let x : own_at k p ≡ holding = ap (own_at k) a ∙ own_hands k in cc)
      | inr other ↦ elim other [
        | inl b ↦ (let x : own_at k p ≡ drawing = ap (own_at k) b ∙ own_drawn k in cc)
        | inr d ↦ d
      ]
    ]

-- what a call told, for the task that its word names
tells : (call : TaskId → Call) (slots id : ℕ) (me new : table.Me Body View) (i x n : ℕ) → Told me (call (record { 0 = i })) (replies.Task (seen_in n)) new → TellsCall call (table.step slots (suc i) x 0 none) me n new
tells call slots id me new i x n t j word =
    let same : i ≡ j = omega arith in
    subst (λ (y : ℕ). Told me (call (record { 0 = y })) (replies.Task (seen_in n)) new) same t

taken_follows : (k : CallerId) (t : TaskState) (takes : ℕ) → t.takes ≡ takes → takes < 2 ^ 48 - 1 → StandsFor (taken_word takes) (seen_of (taken k t))
taken_follows k t takes e small = (ap taken_word (sym e), (omega arith, omega arith))

no_get_take : (i g : ℕ) → calls.Take (record { 0 = i }) ≢ calls.Get g
no_get_take i g e = cc

no_get_drop : (i g : ℕ) → calls.DropRun (record { 0 = i }) ≢ calls.Get g
no_get_drop i g e = cc

no_get_retire : (i g : ℕ) → calls.Retire (record { 0 = i }) ≢ calls.Get g
no_get_retire i g e = cc

-- the takes of a task of the caller's own, which is in the caller's hands
known-now : (o : Opening) (s : table.State Body View) (r : IsKept o s) (id : ℕ) (v : View) (i : ℕ) → get_elem? s.views id ≡ some v → v.logs ≡ own_log v.logs ∷ [] → (task_at (now_of (start_of o) r.history) i).place ≢ places.Gone → home_of (start_of o) i ≡ v.first → ¬ IsShared (start_of o) i → (task_at (now_of (start_of o) r.history) i).takes ≡ known_takes (start_of o) (own_log v.logs) i
known-now o s r id v i at one lives home own =
    let mine = own_first o s r id v at one in
    takes-led (start_of o).state r.history i r.legal lives ∙ ap (λ (n : ℕ). (task_at (start_of o).state i).takes + n) (takes_in-home (start_of o) (caller v.first) r.history i r.takes home own ∙ ap (takes_in i) mine.2)

-- what the takes of a body that is out tell, by the place of its task
drawn_gain : (k : CallerId) (p : Place) (n m : ℕ) → p ≡ places.Drawn k → n ≡ m + gain p → n ≡ m
drawn_gain k p n m place h =
    let z : n ≡ m + 0 = subst (λ (q : Place). n ≡ m + gain q) place h in omega arith

-- a task that a pass may take: one of its own in its hands, or one that it has drawn
pub held-now : (o : Opening) (s : table.State Body View) (r : IsKept o s) (id : ℕ) (v : View) (i takes : ℕ) → get_elem? s.views id ≡ some v → v.logs ≡ own_log v.logs ∷ [] → own_view v i ≡ holding → home_of (start_of o) i ≡ v.first → v.first < (start_of o).state.workers → takes ≡ known_takes (start_of o) (own_log v.logs) i → ((task_at (now_of (start_of o) r.history) i).place ≡ places.Hands (caller v.first)) × ((task_at (now_of (start_of o) r.history) i).takes ≡ takes)
held-now o s r id v i takes at one held home worker known =
    let place = hands_by v.first (task_at (now_of (start_of o) r.history) i).place (own-now o s r id v i at one ∙ held) in
    (place, known-now o s r id v i at one (λ gone'. (let z = sym place ∙ gone' in cc)) home (λ h. omega arith) ∙ sym known)

pub drawn-now : (o : Opening) (s : table.State Body View) (r : IsKept o s) (id : ℕ) (v : View) (i takes : ℕ) → get_elem? s.views id ≡ some v → v.logs ≡ own_log v.logs ∷ [] → own_view v i ≡ drawing → HasBody v.outs i takes → ((task_at (now_of (start_of o) r.history) i).place ≡ places.Drawn (caller v.first)) × ((task_at (now_of (start_of o) r.history) i).takes ≡ takes)
drawn-now o s r id v i takes at one drew out =
    let t : TaskState = task_at (now_of (start_of o) r.history) i in
    let place = drawn_by v.first t.place (own-now o s r id v i at one ∙ drew) in
    (place, drawn_gain (caller v.first) t.place t.takes takes place (r.housed.outs id v out.0 (out_of i takes) at out.1).takes)

seen_takes : (p : Place) (t : TaskState) → p ≢ places.Gone → takes_seen (seen_at p t) ≡ t.takes
seen_takes places.Rest t h = refl
seen_takes (places.Hands k) t h = refl
seen_takes (places.Boxed b) t h = refl
seen_takes (places.Drawn k) t h = refl
seen_takes (places.Runs k) t h = refl
seen_takes places.Gone t h = absurd (h refl)

-- what a take told, for the task and the takes that its word and operand name
tells_take : (slots id : ℕ) (me new : table.Me Body View) (i takes n : ℕ) → Told me (calls.Take (record { 0 = i })) (replies.Task (seen_in n)) new → takes_seen (seen_in n) ≡ takes → TellsTake (table.step slots (suc i) (taken_word takes) 0 none) me n new
tells_take slots id me new i takes n t saw j u word operand =
    let same : i ≡ j = omega arith in
    let often : takes ≡ u = omega arith in
    (subst (λ (y : ℕ). Told me (calls.Take (record { 0 = y })) (replies.Task (seen_in n)) new) same t, saw ∙ often)

-- the step of a take, where the caller may take the task, which has these takes
taking : (o : Opening) (slots id : ℕ) (me : table.Me Body View) (i takes : ℕ) (s : table.State Body View) (r : IsKept o s) → get_elem? s.views id ≡ some me.0 → me.0.logs ≡ own_log me.0.logs ∷ [] → i < length (start_of o).state.tasks → (let m : State = now_of (start_of o) r.history in
    let t : TaskState = task_at m i in
    let e : Entry = entry_by me.0.first (calls.Take (record { 0 = i })) (replies.Task (seen_in (get_or s.words (suc i) 0))) in
    LookStep (start_of o) m (caller me.0.first) (calls.Take (record { 0 = i })) t (taken (caller me.0.first) t) (taken_word takes) → t.place ≢ places.Gone → t.takes ≡ takes → IsPaced (start_of o) (length (own_log me.0.logs)) (calls.Take (record { 0 = i })) → (OneTask m (stepped m e) i (taken (caller me.0.first) t) → Housed (start_of o) r.owner (stepped m e) s.homes (set s.views id (logged me.0 e))) → (w : View) × (a : table.Act Body) × table.Valid s.homes me.1 a × IsKept o (table.stepped s (suc i) (taken_word takes) id me.1 w a) × TellsTake (table.step slots (suc i) (taken_word takes) 0 none) me (get_or s.words (suc i) 0) (w, table.carried_after me.1 a))
taking o slots id me i takes s r at one within step lives now pace housed =
    let v : View = me.0 in
    let k : CallerId = caller v.first in
    let c : Call = calls.Take (record { 0 = i }) in
    let t : TaskState = task_at (now_of (start_of o) r.history) i in
    let n : ℕ = get_or s.words (suc i) 0 in
    let e : Entry = entry_by v.first c (replies.Task (seen_in n)) in
    let made = look-kept o s r id v c (taken k t) (taken_word takes) at one within step pace housed in
    let seen : seen_in n ≡ seen_of t = seen_in-stands n (seen_of t) (r.words.tasks i within) in
    let saw : takes_seen (seen_in n) ≡ takes = ap takes_seen seen ∙ (seen_takes t.place t lives ∙ now) in
    (logged v e, table.keeps, tt, made.1, tells_take slots id me (logged v e, me.1) i takes n (record { seat = refl; attested = attests-call o s r id v c (replies.Task (seen_in n)) at one made.0 }) saw)

takes_own : (o : Opening) (slots id : ℕ) (me : table.Me Body View) (i takes : ℕ) → me.0.logs ≡ own_log me.0.logs ∷ [] → i < length (start_of o).state.tasks → own_view me.0 i ≡ holding → home_of (start_of o) i ≡ me.0.first → me.0.first < (start_of o).state.workers → takes ≡ known_takes (start_of o) (own_log me.0.logs) i → takes < 2 ^ 48 - 1 → table.Allows (IsKept o) slots id me (suc i) (λ n. taken_word takes) (TellsTake (table.step slots (suc i) (taken_word takes) 0 none) me)
takes_own o slots id me i takes one within held home worker known small s r sized at wide =
    let v : View = me.0 in
    let k : CallerId = caller v.first in
    let c : Call = calls.Take (record { 0 = i }) in
    let m : State = now_of (start_of o) r.history in
    let t : TaskState = task_at m i in
    let e : Entry = entry_by v.first c (replies.Task (seen_in (get_or s.words (suc i) 0))) in
    let own : ¬ IsShared (start_of o) i = λ h. omega arith in
    let here = held-now o s r id v i takes at one held home worker known in
    let place : t.place ≡ places.Hands k = here.0 in
    let now : t.takes ≡ takes = here.1 in
    let lives : t.place ≢ places.Gone = λ gone'. (let z = sym place ∙ gone' in cc) in
    let step : LookStep (start_of o) m k c t (taken k t) (taken_word takes) = record {
      no_get = no_get_take i;
      named = refl;
      fit = subst (λ (p : Place). (in_hands k p || in_draw k p) ≡ true) (sym place) (ap (λ (b : Bool). b || false) (eq-eqb v.first v.first refl));
      room = omega arith;
      reply = refl;
      change = refl;
      stands = taken_follows k t takes now small;
      boxed = λ b. subst (λ (p : Place). false ≡ is_boxed b p) (sym place) refl;
      homed = tt;
      home = inl home;
    } in
    taking o slots id me i takes s r at one within step lives now (λ shared. absurd (own shared)) (λ one_task. housed-free (start_of o) r.owner m (stepped m e) s.homes s.views id v (logged v e) i (taken k t) r.housed one_task (free_own (start_of o) r.owner m s.homes s.views i own) (λ shared live. absurd (own shared)) at refl)

-- and after the take
taken_gain : (k : CallerId) (t : TaskState) (m : ℕ) → t.place ≡ places.Drawn k → t.takes ≡ m + gain t.place → (taken k t).takes ≡ m + 1
taken_gain k t m place h =
    let z = drawn_gain k t.place t.takes m place h in omega arith

takes_drawn : (o : Opening) (slots id : ℕ) (me : table.Me Body View) (i takes : ℕ) → me.0.logs ≡ own_log me.0.logs ∷ [] → i < length (start_of o).state.tasks → own_view me.0 i ≡ drawing → HasBody me.0.outs i takes → length (own_log me.0.logs) < 2 ^ 40 → takes < 2 ^ 48 - 1 → table.Allows (IsKept o) slots id me (suc i) (λ n. taken_word takes) (TellsTake (table.step slots (suc i) (taken_word takes) 0 none) me)
takes_drawn o slots id me i takes one within drew out early small s r sized at wide =
    let v : View = me.0 in
    let k : CallerId = caller v.first in
    let c : Call = calls.Take (record { 0 = i }) in
    let m : State = now_of (start_of o) r.history in
    let t : TaskState = task_at m i in
    let e : Entry = entry_by v.first c (replies.Task (seen_in (get_or s.words (suc i) 0))) in
    let here = drawn-now o s r id v i takes at one drew out in
    let place : t.place ≡ places.Drawn k = here.0 in
    let now : t.takes ≡ takes = here.1 in
    let lives : t.place ≢ places.Gone = λ gone'. (let z = sym place ∙ gone' in cc) in
    let is = r.housed.outs id v out.0 (out_of i takes) at out.1 in
    let step : LookStep (start_of o) m k c t (taken k t) (taken_word takes) = record {
      no_get = no_get_take i;
      named = refl;
      fit = subst (λ (p : Place). (in_hands k p || in_draw k p) ≡ true) (sym place) (eq-eqb v.first v.first refl);
      room = omega arith;
      reply = refl;
      change = refl;
      stands = taken_follows k t takes now small;
      boxed = λ b. subst (λ (p : Place). false ≡ is_boxed b p) (sym place) refl;
      homed = tt;
      home = inr is.shared;
    } in
    let away : IsAway s.views i = (id, v, out.0, out_of i takes, at, out.1, refl) in
    taking o slots id me i takes s r at one within step lives now (λ shared. early) (λ one_task. housed-taken (start_of o) r.owner m (stepped m e) s.homes s.views id v (logged v e) i (taken k t) r.housed one_task at refl away (λ p l. subst (Leads r.owner p) place l) (λ n h. taken_gain k t n place h))

dropped_boxed : (k : CallerId) (busy : Bool) (b : ℕ) → is_boxed b (if busy then places.Hands k else places.Rest) ≡ false
dropped_boxed k true b = refl
dropped_boxed k false b = refl

dropped_homed : (o : Start) (i : ℕ) (k : CallerId) (busy : Bool) → IsHomed o i (if busy then places.Hands k else places.Rest)
dropped_homed o i k true = tt
dropped_homed o i k false = tt

pub drops_at : (o : Opening) (slots id : ℕ) (me : table.Me Body View) (i : ℕ) → me.0.logs ≡ own_log me.0.logs ∷ [] → i < length (start_of o).state.tasks → own_view me.0 i ≡ running → NoBody me.0.outs i → table.Allows (IsKept o) slots id me (suc i) (λ n. bit_and n drop_mask) (TellsCall calls.DropRun (table.step slots (suc i) drop_mask 0 none) me)
drops_at o slots id me i one within runs none_out s r sized at wide =
    let v : View = me.0 in
    let k : CallerId = caller v.first in
    let c : Call = calls.DropRun (record { 0 = i }) in
    let m : State = now_of (start_of o) r.history in
    let t : TaskState = task_at m i in
    let n : ℕ = get_or s.words (suc i) 0 in
    let e : Entry = entry_by v.first c (replies.Task (seen_in n)) in
    let place : t.place ≡ places.Runs k = runs_by v.first t.place (own-now o s r id v i at one ∙ runs) in
    let mine = own_first o s r id v at one in
    let step : LookStep (start_of o) m k c t (dropped k t) (bit_and n drop_mask) = record {
      no_get = no_get_drop i;
      named = refl;
      fit = subst (λ (p : Place). in_run k p ≡ true) (sym place) (eq-eqb v.first v.first refl);
      room = tt;
      reply = refl;
      change = refl;
      stands = dropped_follows k t n place (r.words.tasks i within);
      boxed = λ b. dropped_boxed k (is_busy t) b ∙ subst (λ (p : Place). false ≡ is_boxed b p) (sym place) refl;
      homed = dropped_homed (start_of o) i k (is_busy t);
      home = tt;
    } in
    let made = look-kept o s r id v c (dropped k t) (bit_and n drop_mask) at one within step tt (λ one_task. housed-free (start_of o) r.owner m (stepped m e) s.homes s.views id v (logged v e) i (dropped k t) r.housed one_task (free_led (start_of o) r.owner m s.homes s.views i id v at (λ p l. sym (subst (Leads r.owner p) place l) ∙ mine.0) none_out) (λ shared lives. ((λ gone'. (let z = sym place ∙ gone' in cc)), refl)) at refl) in
    (logged v e, table.keeps, tt, made.1, tells calls.DropRun slots id me (logged v e, me.1) i drop_mask n (record { seat = refl; attested = attests-call o s r id v c (replies.Task (seen_in n)) at one made.0 }))

retire_fit : (k : ℕ) (p : Place) → HasAt k p → (in_hands (caller k) p || (in_draw (caller k) p || in_run (caller k) p)) ≡ true
retire_fit k p h =
    let same : (k == k) ≡ true = eq-eqb k k refl in
    elim h.place [
      | inl a ↦ subst (λ (q : Place). (in_hands (caller k) q || (in_draw (caller k) q || in_run (caller k) q)) ≡ true) (sym a) (ap (λ (b : Bool). b || (false || false)) same)
      | inr other ↦ elim other [
        | inl b ↦ subst (λ (q : Place). (in_hands (caller k) q || (in_draw (caller k) q || in_run (caller k) q)) ≡ true) (sym b) (ap (λ (x : Bool). false || (x || false)) same)
        | inr d ↦ subst (λ (q : Place). (in_hands (caller k) q || (in_draw (caller k) q || in_run (caller k) q)) ≡ true) (sym d) same
      ]
    ]

has_boxed : (k b : ℕ) (p : Place) → HasAt k p → is_boxed b p ≡ false
has_boxed k b p h =
    elim h.place [
      | inl a ↦ subst (λ (q : Place). is_boxed b q ≡ false) (sym a) refl
      | inr other ↦ elim other [
        | inl x ↦ subst (λ (q : Place). is_boxed b q ≡ false) (sym x) refl
        | inr y ↦ subst (λ (q : Place). is_boxed b q ≡ false) (sym y) refl
      ]
    ]

has_lead : (owner : ℕ → ℕ) (k p : ℕ) (place : Place) → HasAt k place → Leads owner p place → owner k ≡ p
has_lead owner k p place h l =
    elim h.place [
      | inl a ↦ absurd (subst (Leads owner p) a l)
      | inr other ↦ elim other [ inl x ↦ subst (Leads owner p) x l | inr y ↦ subst (Leads owner p) y l ]
    ]

pub retires_at : (o : Opening) (slots id : ℕ) (me : table.Me Body View) (i : ℕ) → me.0.logs ≡ own_log me.0.logs ∷ [] → i < length (start_of o).state.tasks → own_view me.0 i ≢ away → NoBody me.0.outs i → table.Allows (IsKept o) slots id me (suc i) (λ n. 8) (TellsCall calls.Retire (table.step slots (suc i) 8 0 none) me)
retires_at o slots id me i one within has none_out s r sized at wide =
    let v : View = me.0 in
    let k : CallerId = caller v.first in
    let c : Call = calls.Retire (record { 0 = i }) in
    let m : State = now_of (start_of o) r.history in
    let t : TaskState = task_at m i in
    let n : ℕ = get_or s.words (suc i) 0 in
    let e : Entry = entry_by v.first c (replies.Task (seen_in n)) in
    let place : HasAt v.first t.place = has_at v.first t.place (λ z. has (sym (own-now o s r id v i at one) ∙ z)) in
    let mine = own_first o s r id v at one in
    let step : LookStep (start_of o) m k c t gone 8 = record {
      no_get = no_get_retire i;
      named = refl;
      fit = retire_fit v.first t.place place;
      room = tt;
      reply = refl;
      change = refl;
      stands = refl;
      boxed = λ b. sym (has_boxed v.first b t.place place);
      homed = tt;
      home = tt;
    } in
    let made = look-kept o s r id v c gone 8 at one within step tt (λ one_task. housed-free (start_of o) r.owner m (stepped m e) s.homes s.views id v (logged v e) i gone r.housed one_task (free_led (start_of o) r.owner m s.homes s.views i id v at (λ p l. sym (has_lead r.owner v.first p t.place place l) ∙ mine.0) none_out) (λ shared lives. absurd (lives refl)) at refl) in
    (logged v e, table.keeps, tt, made.1, tells calls.Retire slots id me (logged v e, me.1) i 8 n (record { seat = refl; attested = attests-call o s r id v c (replies.Task (seen_in n)) at one made.0 }))

-- the same at a word and an operand that are these
takes_at : (o : Opening) (slots id : ℕ) (me : table.Me Body View) (i x takes word : ℕ) → table.Allows (IsKept o) slots id me (suc i) (λ n. taken_word takes) (TellsTake (table.step slots (suc i) (taken_word takes) 0 none) me) → x ≡ i + 1 → word ≡ taken_word takes → table.Allows (IsKept o) slots id me x (λ n. word) (TellsTake (table.step slots x word 0 none) me)
takes_at o slots id me i x takes word allows place is =
    let at : x ≡ suc i = omega arith in
    let P : ℕ → ℕ → Type 0 = λ y b. table.Allows (IsKept o) slots id me y (λ n. b) (TellsTake (table.step slots y b 0 none) me) in
    subst (λ (y : ℕ). P y word) (sym at) (subst (P (suc i)) (sym is) allows)

pub takes_own_on : (o : Opening) (slots id : ℕ) (me : table.Me Body View) (i x takes word : ℕ) → me.0.logs ≡ own_log me.0.logs ∷ [] → i < length (start_of o).state.tasks → own_view me.0 i ≡ holding → home_of (start_of o) i ≡ me.0.first → me.0.first < (start_of o).state.workers → takes ≡ known_takes (start_of o) (own_log me.0.logs) i → takes < 2 ^ 48 - 1 → x ≡ i + 1 → word ≡ taken_word takes → table.Allows (IsKept o) slots id me x (λ n. word) (TellsTake (table.step slots x word 0 none) me)
takes_own_on o slots id me i x takes word one within held home worker known small place is =
    takes_at o slots id me i x takes word (takes_own o slots id me i takes one within held home worker known small) place is

pub takes_drawn_on : (o : Opening) (slots id : ℕ) (me : table.Me Body View) (i x takes word : ℕ) → me.0.logs ≡ own_log me.0.logs ∷ [] → i < length (start_of o).state.tasks → own_view me.0 i ≡ drawing → HasBody me.0.outs i takes → length (own_log me.0.logs) < 2 ^ 40 → takes < 2 ^ 48 - 1 → x ≡ i + 1 → word ≡ taken_word takes → table.Allows (IsKept o) slots id me x (λ n. word) (TellsTake (table.step slots x word 0 none) me)
takes_drawn_on o slots id me i x takes word one within drew out early small place is =
    takes_at o slots id me i x takes word (takes_drawn o slots id me i takes one within drew out early small) place is

pub drops_on : (o : Opening) (slots id : ℕ) (me : table.Me Body View) (i x mask : ℕ) → me.0.logs ≡ own_log me.0.logs ∷ [] → i < length (start_of o).state.tasks → own_view me.0 i ≡ running → NoBody me.0.outs i → x ≡ i + 1 → mask ≡ drop_mask → table.Allows (IsKept o) slots id me x (λ n. bit_and n mask) (TellsCall calls.DropRun (table.step slots x mask 0 none) me)
drops_on o slots id me i x mask one within runs none_out place is =
    let at : x ≡ suc i = omega arith in
    let P : ℕ → ℕ → Type 0 = λ y b. table.Allows (IsKept o) slots id me y (λ n. bit_and n b) (TellsCall calls.DropRun (table.step slots y b 0 none) me) in
    subst (λ (y : ℕ). P y mask) (sym at) (subst (P (suc i)) (sym is) (drops_at o slots id me i one within runs none_out))

pub retires_on : (o : Opening) (slots id : ℕ) (me : table.Me Body View) (i x word : ℕ) → me.0.logs ≡ own_log me.0.logs ∷ [] → i < length (start_of o).state.tasks → own_view me.0 i ≢ away → NoBody me.0.outs i → x ≡ i + 1 → word ≡ 8 → table.Allows (IsKept o) slots id me x (λ n. word) (TellsCall calls.Retire (table.step slots x word 0 none) me)
retires_on o slots id me i x word one within has none_out place is =
    let at : x ≡ suc i = omega arith in
    let P : ℕ → ℕ → Type 0 = λ y b. table.Allows (IsKept o) slots id me y (λ n. b) (TellsCall calls.Retire (table.step slots y b 0 none) me) in
    subst (λ (y : ℕ). P y word) (sym at) (subst (P (suc i)) (sym is) (retires_at o slots id me i one within has none_out))
