-- The steps of a wake and of a kill.
use Rattle.std.proofs.Common.{◌≡◌, ◌≢◌, ℕ, suc, ◌+◌, ◌^◌, ◌<◌, Bool, true, not, ◌&&◌, List, [], ◌∷◌, length, get_or, set, bit_or, refl, sym, ap, subst, ◌∙◌, arith, ne_eqb}
use Rattle.std.proofs.lemmas.Bool.{lt-ltb}
use mathlib.Core.Option.{some, none}
use lib.ListN.{get_elem?}
use Rattle.atomic_table.specs.Table as table
use Rattle.sched_base.specs.declared.names.CallerId.{CallerId}
use Rattle.task_machine.specs.declared.task.Place.{Place}
use Rattle.task_machine.specs.declared.task.Place.TheVariants as places
use Rattle.task_machine.specs.declared.task.TaskState.{TaskState}
use Rattle.task_machine.specs.declared.calls.Call.{Call}
use Rattle.task_machine.specs.declared.calls.Call.TheVariants as calls
use Rattle.task_machine.specs.declared.calls.Reply.{Reply}
use Rattle.task_machine.specs.declared.calls.Reply.TheVariants as replies
use Rattle.task_machine.specs.declared.calls.Entry.{Entry}
use Rattle.task_machine.specs.Task.{is_boxed, seen_of, woken, flagged}
use Rattle.task_machine.specs.Step.{State, task_at, subject, is_box, is_task, names, is_named, Allowed}
use Rattle.task_machine.specs.History.{stepped, led}
use Rattle.task_machine.proofs.After.{length-after}
use Rattle.task_machine.proofs.Validity.{Legal-valid}
use Rattle.task_word.specs.Word.{seen_in, wake_bits, kill_bits}
use Rattle.task_word.proofs.Words.{seen_in-stands, woken_follows, flagged_follows}
use Rattle.wake_board.specs.declared.body.Body.{Body}
use Rattle.wake_board.specs.declared.views.Opening.{Opening}
use Rattle.wake_board.specs.declared.views.View.{View}
use Rattle.wake_board.specs.Start.{Start, start_of}
use Rattle.wake_board.specs.Rule.{now_of, IsHomed, IsKept}
use Rattle.wake_board.specs.Seen.{entry_by, own_log, logged, Told, TellsWake, TellsCall}
use Rattle.wake_board.proofs.Tasks.{OneTask, one-after, each_task, worded-one, SameLead, same_lead, housed-same}
use Rattle.wake_board.proofs.Moves.{own_first, kept-call, attests-call}

-- numbers of workers and tasks stay along a history
pub workers-led : (s : State) (h : List Entry) → (led s h).workers ≡ s.workers
workers-led s [] = refl
workers-led s (e ∷ h) = workers-led (stepped s e) h

pub length-led : (s : State) (h : List Entry) → length (led s h).tasks ≡ length s.tasks
length-led s [] = refl
length-led s (e ∷ h) = length-led (stepped s e) h ∙ length-after s e.caller e.call

pub named_by : (s : State) (k : CallerId) (c : Call) → k.0 < s.workers + 1 → subject c < length s.tasks → names s k c ≡ true → is_named s k c ≡ true
named_by s k c caller task named =
    let a : is_box s k.0 ≡ true = lt-ltb k.0 (s.workers + 1) caller in
    let b : is_task s (subject c) ≡ true = lt-ltb (subject c) (length s.tasks) task in
    ap (λ (x : Bool). x && (is_task s (subject c) && names s k c)) a ∙ (ap (λ (x : Bool). x && names s k c) b ∙ named)

-- what an entry of a seat's caller names is there
pub named-now : (o : Opening) (s : table.State Body View) (r : IsKept o s) (id : ℕ) (v : View) (c : Call) → get_elem? s.views id ≡ some v → v.logs ≡ own_log v.logs ∷ [] → subject c < length (start_of o).state.tasks → names (now_of (start_of o) r.history) (record { 0 = v.first }) c ≡ true → is_named (now_of (start_of o) r.history) (record { 0 = v.first }) c ≡ true
named-now o s r id v c at one within named =
    let own = own_first o s r id v at one in
    let w = workers-led (start_of o).state r.history in
    let l = length-led (start_of o).state r.history in
    let caller = own.1 in
    named_by (now_of (start_of o) r.history) (record { 0 = v.first }) c (omega arith) (omega arith) named

-- a task with these parts
abbrev at_parts : Place → ℕ → Bool → ℕ → TaskState
at_parts p n b m = record { place = p; pending = n; killed = b; takes = m }

woken_boxed : (k : CallerId) (f : ℕ) (p : Place) (n : ℕ) (x : Bool) (m b : ℕ) → is_boxed b (woken k f (at_parts p n x m)).place ≡ is_boxed b p
woken_boxed k f places.Rest n x m b = refl
woken_boxed k f (places.Hands j) n x m b = refl
woken_boxed k f (places.Boxed c) n x m b = refl
woken_boxed k f (places.Drawn j) n x m b = refl
woken_boxed k f (places.Runs j) n x m b = refl
woken_boxed k f places.Gone n x m b = refl

woken_homed : (o : Start) (i : ℕ) (k : CallerId) (f : ℕ) (p : Place) (n : ℕ) (x : Bool) (m : ℕ) → IsHomed o i p → IsHomed o i (woken k f (at_parts p n x m)).place
woken_homed o i k f places.Rest n x m h = tt
woken_homed o i k f (places.Hands j) n x m h = tt
woken_homed o i k f (places.Boxed c) n x m h = h
woken_homed o i k f (places.Drawn j) n x m h = h
woken_homed o i k f (places.Runs j) n x m h = tt
woken_homed o i k f places.Gone n x m h = tt

woken_lead : (k : CallerId) (f : ℕ) (p : Place) (n : ℕ) (x : Bool) (m : ℕ) → SameLead (at_parts p n x m) (woken k f (at_parts p n x m))
woken_lead k f places.Rest n x m = record { leads = λ owner q h. absurd h; gained = refl; takes = refl; lives = λ h e. cc }
woken_lead k f (places.Hands j) n x m = record { leads = λ owner q h. h; gained = refl; takes = refl; lives = λ h. h }
woken_lead k f (places.Boxed c) n x m = record { leads = λ owner q h. h; gained = refl; takes = refl; lives = λ h. h }
woken_lead k f (places.Drawn j) n x m = record { leads = λ owner q h. h; gained = refl; takes = refl; lives = λ h. h }
woken_lead k f (places.Runs j) n x m = record { leads = λ owner q h. h; gained = refl; takes = refl; lives = λ h. h }
woken_lead k f places.Gone n x m = record { leads = λ owner q h. h; gained = refl; takes = refl; lives = λ h. h }

flagged_boxed : (k : CallerId) (p : Place) (n : ℕ) (x : Bool) (m b : ℕ) → is_boxed b (flagged k (at_parts p n x m)).place ≡ is_boxed b p
flagged_boxed k places.Rest n x m b = refl
flagged_boxed k (places.Hands j) n x m b = refl
flagged_boxed k (places.Boxed c) n x m b = refl
flagged_boxed k (places.Drawn j) n x m b = refl
flagged_boxed k (places.Runs j) n x m b = refl
flagged_boxed k places.Gone n x m b = refl

flagged_homed : (o : Start) (i : ℕ) (k : CallerId) (p : Place) (n : ℕ) (x : Bool) (m : ℕ) → IsHomed o i p → IsHomed o i (flagged k (at_parts p n x m)).place
flagged_homed o i k places.Rest n x m h = tt
flagged_homed o i k (places.Hands j) n x m h = tt
flagged_homed o i k (places.Boxed c) n x m h = h
flagged_homed o i k (places.Drawn j) n x m h = h
flagged_homed o i k (places.Runs j) n x m h = tt
flagged_homed o i k places.Gone n x m h = tt

flagged_lead : (k : CallerId) (p : Place) (n : ℕ) (x : Bool) (m : ℕ) → SameLead (at_parts p n x m) (flagged k (at_parts p n x m))
flagged_lead k places.Rest n x m = record { leads = λ owner q h. absurd h; gained = refl; takes = refl; lives = λ h e. cc }
flagged_lead k (places.Hands j) n x m = record { leads = λ owner q h. h; gained = refl; takes = refl; lives = λ h. h }
flagged_lead k (places.Boxed c) n x m = record { leads = λ owner q h. h; gained = refl; takes = refl; lives = λ h. h }
flagged_lead k (places.Drawn j) n x m = record { leads = λ owner q h. h; gained = refl; takes = refl; lives = λ h. h }
flagged_lead k (places.Runs j) n x m = record { leads = λ owner q h. h; gained = refl; takes = refl; lives = λ h. h }
flagged_lead k places.Gone n x m = record { leads = λ owner q h. h; gained = refl; takes = refl; lives = λ h. h }

-- the view and the act of a call that moves no slot, and what it tells
told : (o : Opening) (s : table.State Body View) (r : IsKept o s) (id : ℕ) (me : table.Me Body View) (c : Call) (a : Reply) → get_elem? s.views id ≡ some me.0 → me.0.logs ≡ own_log me.0.logs ∷ [] → Allowed (now_of (start_of o) r.history) (entry_by me.0.first c a) → Told me c a (logged me.0 (entry_by me.0.first c a), me.1)
told o s r id me c a at one allowed = record { seat = refl; attested = attests-call o s r id me.0 c a at one allowed }

wake_named : (m : State) (k : CallerId) (i f : ℕ) → f ≢ 0 → names m k (calls.Wake (record { 0 = i }) f) ≡ true
wake_named m k i f h = ap not (ne_eqb f 0 h)

no_get_wake : (i f : ℕ) (g : ℕ) → calls.Wake (record { 0 = i }) f ≢ calls.Get g
no_get_wake i f g e = cc

no_get_kill : (i : ℕ) (g : ℕ) → calls.Kill (record { 0 = i }) ≢ calls.Get g
no_get_kill i g e = cc

pub wakes_at : (o : Opening) (slots id : ℕ) (me : table.Me Body View) (i f : ℕ) → me.0.logs ≡ own_log me.0.logs ∷ [] → i < length (start_of o).state.tasks → f ≢ 0 → f < 2 ^ 7 → table.Allows (IsKept o) slots id me (suc i) (λ n. bit_or n (wake_bits f)) (TellsWake (table.step slots (suc i) (wake_bits f) 0 none) me)
wakes_at o slots id me i f one within some_reason low s r sized at small =
    let v : View = me.0 in
    let k : CallerId = record { 0 = v.first } in
    let c : Call = calls.Wake (record { 0 = i }) f in
    let m : State = now_of (start_of o) r.history in
    let n : ℕ = get_or s.words (suc i) 0 in
    let a : Reply = replies.Task (seen_in n) in
    let stands = r.words.tasks i within in
    let seen : seen_in n ≡ seen_of (task_at m i) = seen_in-stands n (seen_of (task_at m i)) stands in
    let named = named-now o s r id v c at one within (wake_named m k i f some_reason) in
    let allowed : Allowed m (entry_by v.first c a) = record { named = named; fit = refl; room = tt; reply = ap replies.Task seen } in
    let t : TaskState = task_at m i in
    let one_task : OneTask m (stepped m (entry_by v.first c a)) i (woken k f t) = one-after m k c (no_get_wake i f) named in
    let valid = Legal-valid (start_of o).state r.history r.legal r.opened.valid in
    let worded = worded-one (start_of o) s.words m (stepped m (entry_by v.first c a)) i (woken k f t) (bit_or n (wake_bits f)) r.words one_task within (woken_follows k f n some_reason low t (valid i) stands) (woken_boxed k f t.place t.pending t.killed t.takes) (woken_homed (start_of o) i k f t.place t.pending t.killed t.takes (r.words.homed i)) in
    let leads = each_task m (stepped m (entry_by v.first c a)) i (woken k f t) (λ j u. SameLead (task_at m j) u) one_task (woken_lead k f t.place t.pending t.killed t.takes) (λ j ne. same_lead (task_at m j)) in
    let housed = housed-same (start_of o) r.owner m (stepped m (entry_by v.first c a)) s.homes s.views id v (logged v (entry_by v.first c a)) r.housed leads at refl in (
      logged v (entry_by v.first c a),
      table.keeps,
      tt,
      kept-call o s r id v (entry_by v.first c a) (set s.words (suc i) (bit_or n (wake_bits f))) s.homes at one refl allowed tt tt worded housed,
      λ j g word bits.
          let same_task : i ≡ j = omega arith in
          let same_bits : f ≡ g = omega arith in
          subst (λ (x : ℕ). Told me (calls.Wake (record { 0 = x }) g) a (logged v (entry_by v.first c a), me.1)) same_task (subst (λ (x : ℕ). Told me (calls.Wake (record { 0 = i }) x) a (logged v (entry_by v.first c a), me.1)) same_bits (told o s r id me c a at one allowed)),
    )

pub wakes : (o : Opening) (slots id : ℕ) (me : table.Me Body View) (i f x bits : ℕ) → me.0.logs ≡ own_log me.0.logs ∷ [] → i < length (start_of o).state.tasks → f ≢ 0 → f < 2 ^ 7 → x ≡ i + 1 → bits ≡ wake_bits f → table.Allows (IsKept o) slots id me x (λ n. bit_or n bits) (TellsWake (table.step slots x bits 0 none) me)
wakes o slots id me i f x bits one within some_reason low place is =
    let at : x ≡ suc i = omega arith in
    let P : ℕ → ℕ → Type 0 = λ y b. table.Allows (IsKept o) slots id me y (λ n. bit_or n b) (TellsWake (table.step slots y b 0 none) me) in
    subst (λ (y : ℕ). P y bits) (sym at) (subst (P (suc i)) (sym is) (wakes_at o slots id me i f one within some_reason low))

pub kills_at : (o : Opening) (slots id : ℕ) (me : table.Me Body View) (i : ℕ) → me.0.logs ≡ own_log me.0.logs ∷ [] → i < length (start_of o).state.tasks → table.Allows (IsKept o) slots id me (suc i) (λ n. bit_or n kill_bits) (TellsCall calls.Kill (table.step slots (suc i) kill_bits 0 none) me)
kills_at o slots id me i one within s r sized at small =
    let v : View = me.0 in
    let k : CallerId = record { 0 = v.first } in
    let c : Call = calls.Kill (record { 0 = i }) in
    let m : State = now_of (start_of o) r.history in
    let n : ℕ = get_or s.words (suc i) 0 in
    let a : Reply = replies.Task (seen_in n) in
    let stands = r.words.tasks i within in
    let seen : seen_in n ≡ seen_of (task_at m i) = seen_in-stands n (seen_of (task_at m i)) stands in
    let named = named-now o s r id v c at one within refl in
    let allowed : Allowed m (entry_by v.first c a) = record { named = named; fit = refl; room = tt; reply = ap replies.Task seen } in
    let t : TaskState = task_at m i in
    let one_task : OneTask m (stepped m (entry_by v.first c a)) i (flagged k t) = one-after m k c (no_get_kill i) named in
    let valid = Legal-valid (start_of o).state r.history r.legal r.opened.valid in
    let worded = worded-one (start_of o) s.words m (stepped m (entry_by v.first c a)) i (flagged k t) (bit_or n kill_bits) r.words one_task within (flagged_follows k n t (valid i) stands) (flagged_boxed k t.place t.pending t.killed t.takes) (flagged_homed (start_of o) i k t.place t.pending t.killed t.takes (r.words.homed i)) in
    let leads = each_task m (stepped m (entry_by v.first c a)) i (flagged k t) (λ j u. SameLead (task_at m j) u) one_task (flagged_lead k t.place t.pending t.killed t.takes) (λ j ne. same_lead (task_at m j)) in
    let housed = housed-same (start_of o) r.owner m (stepped m (entry_by v.first c a)) s.homes s.views id v (logged v (entry_by v.first c a)) r.housed leads at refl in (
      logged v (entry_by v.first c a),
      table.keeps,
      tt,
      kept-call o s r id v (entry_by v.first c a) (set s.words (suc i) (bit_or n kill_bits)) s.homes at one refl allowed tt tt worded housed,
      λ j word.
          let same_task : i ≡ j = omega arith in
          subst (λ (x : ℕ). Told me (calls.Kill (record { 0 = x })) a (logged v (entry_by v.first c a), me.1)) same_task (told o s r id me c a at one allowed),
    )

pub kills : (o : Opening) (slots id : ℕ) (me : table.Me Body View) (i x bits : ℕ) → me.0.logs ≡ own_log me.0.logs ∷ [] → i < length (start_of o).state.tasks → x ≡ i + 1 → bits ≡ kill_bits → table.Allows (IsKept o) slots id me x (λ n. bit_or n bits) (TellsCall calls.Kill (table.step slots x bits 0 none) me)
kills o slots id me i x bits one within place is =
    let at : x ≡ suc i = omega arith in
    let P : ℕ → ℕ → Type 0 = λ y b. table.Allows (IsKept o) slots id me y (λ n. bit_or n b) (TellsCall calls.Kill (table.step slots y b 0 none) me) in
    subst (λ (y : ℕ). P y bits) (sym at) (subst (P (suc i)) (sym is) (kills_at o slots id me i one within))
