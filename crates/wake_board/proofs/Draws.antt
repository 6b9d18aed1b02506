-- The steps on a word of the shared box: a draw and a peep.
use Rattle.std.proofs.Common.{◌≡◌, ◌≢◌, ◌⊎◌, ℕ, zero, suc, ◌+◌, ◌-◌, ◌*◌, ◌/◌, ◌%◌, ◌^◌, ◌<◌, ◌≤◌, Bool, true, false, ◌==◌, ◌&&◌, nat_lt, if◌then◌else◌, List, [], ◌∷◌, length, get_or, set, bit_and, refl, sym, ap, subst, ◌∙◌, inl, inr, ⊎_elim, arith, eq-eqb, eqb-true}
use Rattle.std.proofs.lemmas.Bool.{cases_eq, cases_Bool}
use Rattle.std.proofs.lemmas.List.{set-get_or}
use Rattle.std.proofs.lemmas.Nat.Bits.{bit_at-lt}
use Rattle.std.proofs.Math.ListN.{length-set}
use Rattle.std.specs.Int.{bit_at, bit_not, w64}
use mathlib.Core.Option.{some, none, some-injective, some-ne-none}
use lib.ListN.{get_elem?}
use Rattle.atomic_table.specs.Table as table
use Rattle.atomic_table.proofs.Lists.{at_set, set_here, set_else}
use Rattle.sched_base.specs.declared.names.CallerId.{CallerId}
use Rattle.task_machine.specs.declared.task.Place.{Place}
use Rattle.task_machine.specs.declared.task.Place.TheVariants as places
use Rattle.task_machine.specs.declared.task.TaskState.{TaskState}
use Rattle.task_machine.specs.declared.calls.Call.{Call}
use Rattle.task_machine.specs.declared.calls.Call.TheVariants as calls
use Rattle.task_machine.specs.declared.calls.Reply.{Reply}
use Rattle.task_machine.specs.declared.calls.Reply.TheVariants as replies
use Rattle.task_machine.specs.declared.calls.Entry.{Entry}
use Rattle.task_machine.specs.Task.{is_boxed, put, seen_of, seen_at, woken, flagged}
use Rattle.task_machine.specs.Step.{State, task_at, is_about, bit, IsBox, Allowed}
use Rattle.task_machine.specs.History.{stepped, Legal, led}
use Rattle.task_machine.specs.Event.{Event, apart, sees, posts, gets, misses, draws, wakes, kills, takes, drops, retires, event_at, event_of, Allows, next}
use Rattle.task_machine.proofs.Events.{Allowed-split, task_at-stepped}
use Rattle.wake_board.specs.declared.body.Body.{Body}
use Rattle.wake_board.specs.declared.views.Opening.{Opening}
use Rattle.wake_board.specs.declared.views.View.{View}
use Rattle.wake_board.specs.Rows.{box_at}
use Rattle.wake_board.specs.Start.{Start, start_of, start_in, IsShared}
use Rattle.wake_board.specs.Rule.{now_of, IsHomed, Worded, IsLogged, IsDraw, HasDraw, IsKept}
use Rattle.wake_board.specs.Seen.{entry_by, own_log, logged, bit_mask, count_in, Told, AreAbsent, ToldMisses, missed, shared_at, TellsDraw, TellsPeep, clear_from, clear_in}
use Rattle.wake_board.proofs.Tables.{at_below, at_append}
use Rattle.wake_board.proofs.Tasks.{OneTask, one-after, SameLead, same_lead, each_task, housed-same}
use Rattle.wake_board.proofs.Moves.{own_first, kept-call, attests-call}
use Rattle.wake_board.proofs.Wakes.{workers-led, named-now}
use Rattle.wake_board.proofs.Boxes.{boxes_after, tasks_after, in_group, box_places, bit_one, boxed_place, mask_same}
use Rattle.wake_board.proofs.Seats.{box_cleared, worded-unboxed}

-- a task in the shared box stays there until it is drawn
stays : (w : ℕ) (k : CallerId) (v : Event) (t : TaskState) → Allows w k v t → t.place ≡ places.Boxed w → (v ≡ draws) ⊎ ((next k v t).place ≡ places.Boxed w)
stays w k apart t a e = inr e
stays w k (sees x (wakes f)) t a e = inr (ap (λ (p : Place). (woken k f (let y : TaskState = record t { place = p } in y)).place) e)
stays w k (sees x kills) t a e = inr (ap (λ (p : Place). (flagged k (let y : TaskState = record t { place = p } in y)).place) e)
stays w k (sees x takes) t a e = elim a.1 [ inl h ↦ (let z = sym e ∙ h in cc) | inr h ↦ (let z = sym e ∙ h in cc) ]
stays w k (sees x drops) t a e = (let z = sym e ∙ a.1 in cc)
stays w k (sees x retires) t a e =
    elim a.1 [
      | inl h ↦ elim h [ inl g ↦ (let z = sym e ∙ g in cc) | inr g ↦ (let z = sym e ∙ g in cc) ]
      | inr h ↦ (let z = sym e ∙ h in cc)
    ]
stays w k (posts b) t a e = (let z = sym e ∙ a in cc)
stays w k gets t a e = (let same : w ≡ k.0 = boxed_same w k.0 (sym e ∙ a.0) in let less = a.1 in absurd (omega arith))
  where
    boxed_same : (a b : ℕ) → places.Boxed a ≡ places.Boxed b → a ≡ b
    boxed_same a b h = cc
stays w k misses t a e = inr e
stays w k draws t a e = inl refl

-- only a draw of the task is a draw for it
pub draws_by : (i : ℕ) (c : Call) (r : Reply) (b : Bool) → is_about i c ≡ b → (if b then event_of i c r else apart) ≡ draws → IsDraw i c
draws_by i c r false about e = cc
draws_by i (calls.Draw j) r true about e = eqb-true i j.0 about
draws_by i (calls.Wake j f) (replies.Task x) true about e = cc
draws_by i (calls.Wake j f) (replies.Group n) true about e = cc
draws_by i (calls.Wake j f) replies.Done true about e = cc
draws_by i (calls.Kill j) (replies.Task x) true about e = cc
draws_by i (calls.Kill j) (replies.Group n) true about e = cc
draws_by i (calls.Kill j) replies.Done true about e = cc
draws_by i (calls.Post j b) r true about e = cc
draws_by i (calls.Get g) (replies.Task x) true about e = cc
draws_by i (calls.Get g) (replies.Group n) true about e = neither (bit_at n (i % 64) == 1) e
  where
    neither : (b : Bool) → (if b then gets else misses) ≡ draws → ⊥
    neither true h = cc
    neither false h = cc
draws_by i (calls.Get g) replies.Done true about e = cc
draws_by i (calls.Take j) (replies.Task x) true about e = cc
draws_by i (calls.Take j) (replies.Group n) true about e = cc
draws_by i (calls.Take j) replies.Done true about e = cc
draws_by i (calls.DropRun j) (replies.Task x) true about e = cc
draws_by i (calls.DropRun j) (replies.Group n) true about e = cc
draws_by i (calls.DropRun j) replies.Done true about e = cc
draws_by i (calls.Retire j) (replies.Task x) true about e = cc
draws_by i (calls.Retire j) (replies.Group n) true about e = cc
draws_by i (calls.Retire j) replies.Done true about e = cc

HasDraw-next : (i : ℕ) (e : Entry) (h : List Entry) → HasDraw i h → HasDraw i (e ∷ h)
HasDraw-next i e h (j, d, at, is) = (suc j, d, at, is)

-- a task that was in the shared box is there, or was drawn
pub left_box : (s : State) (h : List Entry) (i : ℕ) → Legal s h → (task_at s i).place ≡ places.Boxed s.workers → ((task_at (led s h) i).place ≡ places.Boxed s.workers) ⊎ HasDraw i h
left_box s [] i l e = inl e
left_box s (x ∷ h) i l e =
    elim (stays s.workers x.caller (event_at i x) (task_at s i) ((Allowed-split s x l.0).1 i) e) [
      | inl drawn ↦ inr (0, x, refl, draws_by i x.call x.reply (is_about i x.call) refl drawn)
      | inr there ↦
          (let more = left_box (stepped s x) h i l.1 (ap (λ (t : TaskState). t.place) (task_at-stepped s x l.0 i) ∙ there) in
          ⊎_elim inl (λ d. inr (HasDraw-next i x h d)) more)
    ]

-- tasks that are not in the shared box are misses of a seat, where the words and their meaning are as before
kept-misses : (o : Opening) (s : table.State Body View) (r : IsKept o s) (id : ℕ) (v : View) (tasks words : List ℕ) → get_elem? s.views id ≡ some v → ((j i : ℕ) → get_elem? tasks j ≡ some i → (task_at (now_of (start_of o) r.history) i).place ≢ places.Boxed (start_of o).state.workers) → Worded (start_of o) words (now_of (start_of o) r.history) → IsKept o (record { words = words; homes = s.homes; views = set s.views id (missed v tasks) })
kept-misses o s r id v tasks words at absent worded =
    let w : View = missed v tasks in
    let m : State = now_of (start_of o) r.history in
    let views : List View = set s.views id w in
    record {
      history = r.history;
      owner = r.owner;
      legal = r.legal;
      opened = r.opened;
      few = r.few;
      words = worded;
      takes = r.takes;
      paced = r.paced;
      logs = λ p u j es at' log.
          elim (at_set s.views id p w u at') [
            | inl here ↦
                (let l = r.logs id v j es at (subst (λ (x : View). get_elem? x.logs j ≡ some es) (sym here.1) log) in
                let made : IsLogged o r.owner r.history id w j es = record { start = l.start; owned = l.owned; caller = l.caller; calls = l.calls } in
                subst (λ (n : ℕ). IsLogged o r.owner r.history n u j es) (sym here.0) (subst (λ (x : View). IsLogged o r.owner r.history id x j es) here.1 made))
            | inr else' ↦ r.logs p u j es else'.1 log
          ];
      seated = λ k l.
          let q = r.seated k l in
          elim (cases_eq q.seat id) [
            | inl same ↦
                (let isv : q.view ≡ v = some-injective q.view v (sym (subst (λ (n : ℕ). get_elem? s.views n ≡ some q.view) same q.at) ∙ at) in
                record {
                  seat = id;
                  view = w;
                  place = q.place;
                  log = q.log;
                  at = set_here s.views id w (at_below s.views id v at);
                  found = subst (λ (x : View). get_elem? x.logs q.place ≡ some q.log) isv q.found;
                  caller = ap (λ (x : View). x.first + q.place) (sym isv) ∙ q.caller;
                })
            | inr ne ↦ record { seat = q.seat; view = q.view; place = q.place; log = q.log; at = set_else s.views id q.seat w ne ∙ q.at; found = q.found; caller = q.caller }
          ];
      missed = λ p u j i at' miss boxed.
          elim (at_set s.views id p w u at') [
            | inl here ↦ elim (at_append v.misses tasks j i (subst (λ (x : View). get_elem? x.misses j ≡ some i) (sym here.1) miss)) [
              | inl old ↦ r.missed id v j i at old boxed
              | inr new ↦ elim (left_box (start_of o).state r.history i r.legal boxed) [
                | inl there ↦ absurd (absent (j - length v.misses) i new.1 there)
                | inr drawn ↦ drawn
              ]
            ]
            | inr else' ↦ r.missed p u j i else'.1 miss boxed
          ];
      housed = housed-same (start_of o) r.owner m m s.homes s.views id v w r.housed (λ j. same_lead (task_at m j)) at refl;
    }

-- that they are absent, as the seat's caller is told
absent-told : (o : Opening) (s : table.State Body View) (r : IsKept o s) (id : ℕ) (v : View) (tasks : List ℕ) → get_elem? s.views id ≡ some v → v.logs ≡ own_log v.logs ∷ [] → ((j i : ℕ) → get_elem? tasks j ≡ some i → (task_at (now_of (start_of o) r.history) i).place ≢ places.Boxed (start_of o).state.workers) → AreAbsent (start_in v.start) v.first (own_log v.logs) tasks
absent-told o s r id v tasks at one absent =
    let own = own_first o s r id v at one in
    let there : AreAbsent (start_of o) v.first (own_log v.logs) tasks = (r.history, r.legal, own.2, absent) in
    subst (λ (x : Start). AreAbsent x v.first (own_log v.logs) tasks) (ap start_in (sym own.3)) there

-- a bit that is clear tells that its task is not in the box
clear_absent : (m : State) (b g n j : ℕ) → IsBox m b g n → j < 64 → bit_at n j ≡ 0 → (task_at m (64 * g + j)).place ≢ places.Boxed b
clear_absent m b g n j box low clear e =
    let boxed : is_boxed b (task_at m (64 * g + j)).place ≡ true = ap (is_boxed b) e ∙ eq-eqb b b refl in
    let one : bit_at n j ≡ 1 = box.1 j low ∙ ap bit boxed in
    absurd (omega arith)

no_get_draw : (i g : ℕ) → calls.Draw (record { 0 = i }) ≢ calls.Get g
no_get_draw i g e = cc

drawn_lead : (w : ℕ) (k : CallerId) (t : TaskState) → t.place ≡ places.Boxed w → SameLead t (put (places.Drawn k) t)
drawn_lead w k t e =
    subst (λ (p : Place). SameLead (let x : TaskState = record t { place = p } in x) (put (places.Drawn k) t)) (sym e) (record { leads = λ owner p l. absurd l; gained = refl; takes = refl; lives = λ h x. cc })

drawn_seen : (w : ℕ) (k : CallerId) (t : TaskState) → t.place ≡ places.Boxed w → seen_of (put (places.Drawn k) t) ≡ seen_of t
drawn_seen w k t e = sym (ap (λ (p : Place). seen_at p t) e)

not_same : (a b : ℕ) → a < 2 ^ 64 → b < 2 ^ 64 → bit_not w64 a ≡ bit_not w64 b → a ≡ b
not_same a b la lb e = omega arith

mask_low : (j : ℕ) → bit_mask j < 2 ^ 64
mask_low j = omega arith

-- which task a step on the shared box's words is about
same_draw : (n w i j : ℕ) → i < n → j < n → box_at n w (i / 64) ≡ box_at n w (j / 64) → bit_not w64 (bit_mask (i % 64)) ≡ bit_not w64 (bit_mask (j % 64)) → i ≡ j
same_draw n w i j li lj place mask =
    let both = box_places n w (i / 64) w (j / 64) (omega arith) (omega arith) place in
    let low = mask_same (i % 64) (j % 64) (omega arith) (omega arith) (not_same (bit_mask (i % 64)) (bit_mask (j % 64)) (mask_low (i % 64)) (mask_low (j % 64)) mask) in
    let high = both.1 in omega arith

module _ (o : Opening) (slots id : ℕ) (me : table.Me Body View) (i : ℕ) (one : me.0.logs ≡ own_log me.0.logs ∷ []) (within : i < length (start_of o).state.tasks) (s : table.State Body View) (r : IsKept o s) (at : get_elem? s.views id ≡ some me.0) where
  abbrev v : View
  v = me.0

  abbrev n : ℕ
  n = length (start_of o).state.tasks

  abbrev w : ℕ
  w = (start_of o).state.workers

  abbrev low : ℕ
  low = i % 64

  abbrev x : ℕ
  x = box_at n w (i / 64)

  abbrev word : ℕ
  word = get_or s.words x 0

  abbrev y : ℕ
  y = bit_and word (bit_not w64 (bit_mask low))

  abbrev m : State
  m = now_of (start_of o) r.history

  abbrev t : TaskState
  t = task_at m i

  abbrev k : CallerId
  k = record { 0 = v.first }

  abbrev c : Call
  c = calls.Draw (record { 0 = i })

  abbrev e : Entry
  e = entry_by v.first c replies.Done

  start : start_in v.start ≡ start_of o
  start = ap start_in (own_first o s r id v at one).3

  box : IsBox m w (i / 64) word
  box = r.words.boxes w (i / 64) (omega arith) (omega arith)

  -- which task the caller asked for
  asked : (j : ℕ) → j < count_in v → x ≡ shared_at v (j / 64) → bit_not w64 (bit_mask low) ≡ bit_not w64 (bit_mask (j % 64)) → i ≡ j
  asked j lj place mask =
      let count : count_in v ≡ n = ap (λ (q : Start). length q.state.tasks) start in
      let here : x ≡ box_at n w (j / 64) = place ∙ ap (λ (q : Start). box_at (length q.state.tasks) q.state.workers (j / 64)) start in
      same_draw n w i j within (omega arith) here mask

  hit : bit_at word low ≡ 1 → (new : View) × (a : table.Act Body) × table.Valid s.homes me.1 a × IsKept o (table.stepped s x y id me.1 new a) × TellsDraw (table.step slots x (bit_not w64 (bit_mask low)) 0 none) me word (new, table.carried_after me.1 a)
  hit set' =
      let is : bit (is_boxed w (task_at m (64 * (i / 64) + low)).place) ≡ 1 = sym (box.1 low (omega arith)) ∙ set' in
      let boxed : is_boxed w t.place ≡ true = bit_one (is_boxed w t.place) (subst (λ (q : ℕ). bit (is_boxed w (task_at m q).place) ≡ 1) (in_group i) is) in
      let place : t.place ≡ places.Boxed w = boxed_place w t.place boxed in
      let workers : m.workers ≡ w = workers-led (start_of o).state r.history in
      let named = named-now o s r id v c at one within refl in
      let allowed : Allowed m e = record { named = named; fit = ap (λ (q : ℕ). is_boxed q t.place) workers ∙ boxed; room = tt; reply = refl } in
      let one_task : OneTask m (stepped m e) i (put (places.Drawn k) t) = one-after m k c (no_get_draw i) named in
      let shared : IsShared (start_of o) i = subst (IsHomed (start_of o) i) place (r.words.homed i) in
      let worded : Worded (start_of o) (set s.words x y) (stepped m e) = worded-unboxed (start_of o) s.words m (stepped m e) w i (put (places.Drawn k) t) r.words (omega arith) within one_task place (drawn_seen w k t place) (λ z. refl) shared in
      let leads = each_task m (stepped m e) i (put (places.Drawn k) t) (λ j q. SameLead (task_at m j) q) one_task (drawn_lead w k t place) (λ j ne. same_lead (task_at m j)) in
      let housed = housed-same (start_of o) r.owner m (stepped m e) s.homes s.views id v (logged v e) r.housed leads at refl in (
        logged v e,
        table.keeps,
        tt,
        kept-call o s r id v e (set s.words x y) s.homes at one refl allowed tt tt worded housed,
        λ j lj place' mask.
            let same = asked j lj place' mask in (
              λ b. subst (λ (q : ℕ). Told me (calls.Draw (record { 0 = q })) replies.Done (logged v e, me.1)) same (record { seat = refl; attested = attests-call o s r id v c replies.Done at one allowed }),
              λ b. (let other : bit_at word low ≡ 0 = subst (λ (q : ℕ). bit_at word (q % 64) ≡ 0) (sym same) b in absurd (omega arith)),
            ),
      )

  miss : bit_at word low ≡ 0 → (new : View) × (a : table.Act Body) × table.Valid s.homes me.1 a × IsKept o (table.stepped s x y id me.1 new a) × TellsDraw (table.step slots x (bit_not w64 (bit_mask low)) 0 none) me word (new, table.carried_after me.1 a)
  miss clear =
      let out : t.place ≢ places.Boxed w = subst (λ (q : ℕ). (task_at m q).place ≢ places.Boxed w) (in_group i) (clear_absent m w (i / 64) word low box (omega arith) clear) in
      let none' : is_boxed w t.place ≡ false = elim (cases_Bool (is_boxed w t.place)) [ inl yes' ↦ absurd (out (boxed_place w t.place yes')) | inr no' ↦ no' ] in
      let self : OneTask m m i t = record { here = refl; others = λ j ne. refl } in
      let worded : Worded (start_of o) (set s.words x y) m = record {
        wide = length-set s.words x y ∙ r.words.wide;
        tasks = tasks_after (start_of o) s.words m m w (i / 64) y r.words (λ j. refl);
        boxes = boxes_after (start_of o) s.words m m w (i / 64) y r.words (omega arith) (omega arith) (box_cleared m m w i word t self none' box) (λ z h j l apart'. refl);
        homed = r.words.homed;
      } in
      let absent : (j q : ℕ) → get_elem? (i ∷ []) j ≡ some q → (task_at m q).place ≢ places.Boxed w = λ j q a. subst (λ (z : ℕ). (task_at m z).place ≢ places.Boxed w) (Rattle.wake_board.proofs.Tables.at_single i q j a).1 out in (
        missed v (i ∷ []),
        table.keeps,
        tt,
        kept-misses o s r id v (i ∷ []) (set s.words x y) at absent worded,
        λ j lj place' mask.
            let same = asked j lj place' mask in (
              λ b. (let other : bit_at word low ≡ 1 = subst (λ (q : ℕ). bit_at word (q % 64) ≡ 1) (sym same) b in absurd (omega arith)),
              λ b. subst (λ (q : ℕ). ToldMisses me (q ∷ []) (missed v (i ∷ []), me.1)) same (record { seat = refl; absent = absent-told o s r id v (i ∷ []) at one absent }),
            ),
      )

pub draws_at : (o : Opening) (slots id : ℕ) (me : table.Me Body View) (i : ℕ) → me.0.logs ≡ own_log me.0.logs ∷ [] → i < length (start_of o).state.tasks → table.Allows (IsKept o) slots id me (box_at (length (start_of o).state.tasks) (start_of o).state.workers (i / 64)) (λ n. bit_and n (bit_not w64 (bit_mask (i % 64)))) (TellsDraw (table.step slots (box_at (length (start_of o).state.tasks) (start_of o).state.workers (i / 64)) (bit_not w64 (bit_mask (i % 64))) 0 none) me)
draws_at o slots id me i one within s r sized at wide =
    let word : ℕ = get_or s.words (box_at (length (start_of o).state.tasks) (start_of o).state.workers (i / 64)) 0 in
    elim (cases_eq (bit_at word (i % 64)) 1) [
      | inl set' ↦ hit o slots id me i one within s r at set'
      | inr clear ↦ miss o slots id me i one within s r at (let z = bit_at-lt word (i % 64) in omega arith)
    ]

pub draws_on : (o : Opening) (slots id : ℕ) (me : table.Me Body View) (i x mask : ℕ) → me.0.logs ≡ own_log me.0.logs ∷ [] → i < length (start_of o).state.tasks → x ≡ box_at (length (start_of o).state.tasks) (start_of o).state.workers (i / 64) → mask ≡ bit_not w64 (bit_mask (i % 64)) → table.Allows (IsKept o) slots id me x (λ n. bit_and n mask) (TellsDraw (table.step slots x mask 0 none) me)
draws_on o slots id me i x mask one within place is =
    let P : ℕ → ℕ → Type 0 = λ y q. table.Allows (IsKept o) slots id me y (λ n. bit_and n q) (TellsDraw (table.step slots y q 0 none) me) in
    subst (λ (y : ℕ). P y mask) (sym place) (subst (P (box_at (length (start_of o).state.tasks) (start_of o).state.workers (i / 64))) (sym is) (draws_at o slots id me i one within))

clear_bit : (x y : Bool) → (x && y) ≡ true → y ≡ true
clear_bit true true h = refl
clear_bit true false h = cc
clear_bit false y h = cc

clear_one : (m : State) (b n g word j : ℕ) → IsBox m b g word → j < 64 → (rest : List ℕ) → ((q i : ℕ) → get_elem? rest q ≡ some i → (task_at m i).place ≢ places.Boxed b) → (z : Bool) → (nat_lt (64 * g + j) n && bit_at word j == 0) ≡ z → (q i : ℕ) → get_elem? (if z then (64 * g + j) ∷ rest else rest) q ≡ some i → (task_at m i).place ≢ places.Boxed b
clear_one m b n g word j box low rest far true h zero i e =
    subst (λ (p : ℕ). (task_at m p).place ≢ places.Boxed b) (some-injective (64 * g + j) i e) (clear_absent m b g word j box low (eqb-true (bit_at word j) 0 (clear_bit (nat_lt (64 * g + j) n) (bit_at word j == 0) h)))
clear_one m b n g word j box low rest far true h (suc q) i e = far q i e
clear_one m b n g word j box low rest far false h q i e = far q i e

-- the tasks that a word does not have are not in the box
clear_out : (m : State) (b n g word : ℕ) → IsBox m b g word → (bits j : ℕ) → j + bits ≤ 64 → (q i : ℕ) → get_elem? (clear_from n g word j bits) q ≡ some i → (task_at m i).place ≢ places.Boxed b
clear_out m b n g word box zero j le q i a = absurd (some-ne-none i (sym a))
clear_out m b n g word box (suc bits) j le q i a =
    clear_one m b n g word j box (omega arith) (clear_from n g word (suc j) bits) (clear_out m b n g word box bits (suc j) (omega arith)) (nat_lt (64 * g + j) n && bit_at word j == 0) refl q i a

pub peeps_at : (o : Opening) (slots id : ℕ) (me : table.Me Body View) (g : ℕ) → me.0.logs ≡ own_log me.0.logs ∷ [] → 64 * g < length (start_of o).state.tasks → table.Allows (IsKept o) slots id me (box_at (length (start_of o).state.tasks) (start_of o).state.workers g) (λ n. n) (TellsPeep (table.step slots (box_at (length (start_of o).state.tasks) (start_of o).state.workers g) 0 0 none) me)
peeps_at o slots id me g one within s r sized at wide =
    let v : View = me.0 in
    let n : ℕ = length (start_of o).state.tasks in
    let w : ℕ = (start_of o).state.workers in
    let x : ℕ = box_at n w g in
    let word : ℕ = get_or s.words x 0 in
    let m : State = now_of (start_of o) r.history in
    let tasks : List ℕ = clear_in n g word in
    let absent : (j i : ℕ) → get_elem? tasks j ≡ some i → (task_at m i).place ≢ places.Boxed w = clear_out m w n g word (r.words.boxes w g (omega arith) within) 64 0 (omega arith) in
    let same : set s.words x word ≡ s.words = set-get_or s.words x 0 in
    let start : start_in v.start ≡ start_of o = ap start_in (own_first o s r id v at one).3 in (
      missed v tasks,
      table.keeps,
      tt,
      kept-misses o s r id v tasks (set s.words x word) at absent (subst (λ (q : List ℕ). Worded (start_of o) q m) (sym same) r.words),
      λ h lh place.
          let count : count_in v ≡ n = ap (λ (q : Start). length q.state.tasks) start in
          let here : x ≡ box_at n w h = place ∙ ap (λ (q : Start). box_at (length q.state.tasks) q.state.workers h) start in
          let group : g ≡ h = (box_places n w g w h within (omega arith) here).1 in
          let told : ToldMisses me (clear_in n g word) (missed v tasks, me.1) = record { seat = refl; absent = absent-told o s r id v tasks at one absent } in
          let by_group : ToldMisses me (clear_in n h word) (missed v tasks, me.1) = subst (λ (q : ℕ). ToldMisses me (clear_in n q word) (missed v tasks, me.1)) group told in
          subst (λ (q : ℕ). ToldMisses me (clear_in q h word) (missed v tasks, me.1)) (sym count) by_group,
    )

pub peeps_on : (o : Opening) (slots id : ℕ) (me : table.Me Body View) (g x : ℕ) → me.0.logs ≡ own_log me.0.logs ∷ [] → 64 * g < length (start_of o).state.tasks → x ≡ box_at (length (start_of o).state.tasks) (start_of o).state.workers g → table.Allows (IsKept o) slots id me x (λ n. n) (TellsPeep (table.step slots x 0 0 none) me)
peeps_on o slots id me g x one within place =
    subst (λ (y : ℕ). table.Allows (IsKept o) slots id me y (λ n. n) (TellsPeep (table.step slots y 0 0 none) me)) (sym place) (peeps_at o slots id me g one within)
