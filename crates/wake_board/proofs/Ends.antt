-- What is left of a board whose passes are all back.
use Rattle.std.proofs.Common.{◌≡◌, ◌≢◌, ◌⊎◌, ℕ, zero, suc, ◌+◌, ◌-◌, ◌*◌, ◌<◌, ◌≤◌, Bool, true, false, ◌==◌, if◌then◌else◌, Some, None, List, [], ◌∷◌, ◌++◌, length, get_or, refl, sym, ap, subst, ◌∙◌, inl, inr, ⊎_elim, arith, eq-eqb, ne_eqb, eqb-true}
use Rattle.std.proofs.Common as std
use Rattle.std.proofs.lemmas.Bool.{cases_eq, cases_lt}
use Rattle.std.proofs.lemmas.Bool.Decides.{nat_tests}
use Rattle.std.proofs.lemmas.List.{get_or_past}
use mathlib.Core.Option.{some, some-injective, some-ne-none}
use lib.ListN.{get_elem?}
use Rattle.atomic_table.specs.Table as table
use Rattle.atomic_table.specs.Seated.{TableId}
use Rattle.sched_base.specs.declared.names.CallerId.{CallerId}
use Rattle.task_machine.specs.declared.task.Place.{Place}
use Rattle.task_machine.specs.declared.task.Place.TheVariants as places
use Rattle.task_machine.specs.declared.calls.Call.{Call}
use Rattle.task_machine.specs.declared.calls.Entry.{Entry}
use Rattle.task_machine.specs.Step.{State, task_at, is_named, Allowed}
use Rattle.task_machine.specs.History.{stepped, Legal, calls_of}
use Rattle.task_machine.specs.Own.{Own, away, holding, drawing, running, own_at, own_of}
use Rattle.task_machine.proofs.Own.{own-led}
use Rattle.task_machine.proofs.Validity.{Legal-valid}
use Rattle.wake_board.specs.declared.body.Body.{Body}
use Rattle.wake_board.specs.declared.views.Opening.{Opening}
use Rattle.wake_board.specs.declared.views.View.{View}
use Rattle.wake_board.specs.Rows.{WordRow, box_at, first_body}
use Rattle.wake_board.specs.Start.{Start, start_of, no_holder}
use Rattle.wake_board.specs.Between.{PlacedBy, BodyFits, StandBetween}
use Rattle.wake_board.specs.Rule.{now_of, IsHomed, Leads, HasDraw, IsKept}
use Rattle.wake_board.specs.Seen.{Held}
use Rattle.wake_board.specs.Ends.{own_by, AllBack, entries_in, entries_of, own_in, AreHolders, Finishes}
use Rattle.wake_board.specs.Gathered.{Gathers}
use Rattle.wake_board.proofs.Wakes.{workers-led, length-led}

-- an entry's caller is there
pub caller_named : (s : State) (k : CallerId) (c : Call) → is_named s k c ≡ true → k.0 ≤ s.workers
caller_named s k c h = grind (arith, nat_tests)

-- nobody beyond the callers has an entry
pub calls_of-none : (s : State) (h : List Entry) (k : ℕ) → Legal s h → s.workers < k → calls_of k h ≡ []
calls_of-none s [] k l far = refl
calls_of-none s (e ∷ h) k l far =
    let near = caller_named s e.caller e.call l.0.named in
    let ne : e.caller.0 ≢ k = λ same. omega arith in
    ap (λ (b : Bool). if b then e ∷ calls_of k h else calls_of k h) (ne_eqb e.caller.0 k ne) ∙ calls_of-none (stepped s e) h k l.1 far

-- an entry of a history is among its caller's
pub at_calls : (h : List Entry) (j : ℕ) (e : Entry) → get_elem? h j ≡ some e → (q : ℕ) × (get_elem? (calls_of e.caller.0 h) q ≡ some e)
at_calls [] j e at = absurd (some-ne-none e (sym at))
at_calls (x ∷ h) zero e at =
    let is : x ≡ e = some-injective x e at in
    (0, subst (λ (b : Bool). get_elem? (if b then x ∷ calls_of e.caller.0 h else calls_of e.caller.0 h) 0 ≡ some e) (sym (eq-eqb x.caller.0 e.caller.0 (ap (λ (y : Entry). y.caller.0) is))) (ap some is))
at_calls (x ∷ h) (suc j) e at =
    let more = at_calls h j e at in
    elim (cases_eq x.caller.0 e.caller.0) [
      | inl same ↦ (suc more.0, subst (λ (b : Bool). get_elem? (if b then x ∷ calls_of e.caller.0 h else calls_of e.caller.0 h) (suc more.0) ≡ some e) (sym (eq-eqb x.caller.0 e.caller.0 same)) more.1)
      | inr ne ↦ (more.0, subst (λ (b : Bool). get_elem? (if b then x ∷ calls_of e.caller.0 h else calls_of e.caller.0 h) more.0 ≡ some e) (sym (ne_eqb x.caller.0 e.caller.0 ne)) more.1)
    ]

own_self : (k : CallerId) (o : Own) → (if k.0 == k.0 then o else away) ≡ o
own_self k o = ap (λ (b : Bool). if b then o else away) (eq-eqb k.0 k.0 refl)

own_same : (k j : ℕ) (o : Own) (b : Bool) → (j == k) ≡ b → o ≢ away → (if b then o else away) ≡ o → j ≡ k
own_same k j o true e ne h = eqb-true j k e
own_same k j o false e ne h = absurd (ne (sym h))

-- where caller k holds a task between rounds, it is a caller
pub held_caller : (w home holder k : ℕ) (p : Place) → PlacedBy w home holder p → own_at k p ≡ holding → k ≤ w
held_caller w home holder k places.Rest placed h = cc
held_caller w home holder k (places.Hands j) placed h =
    let same = own_same k j.0 holding (j.0 == k) refl (λ e. cc) h in
    let near = placed.1 in omega arith
held_caller w home holder k (places.Boxed b) placed h = cc
held_caller w home holder k (places.Drawn j) placed h = absurd placed
held_caller w home holder k (places.Runs j) placed h = absurd placed
held_caller w home holder k places.Gone placed h = cc

pub never_drawn : (w home holder k : ℕ) (p : Place) → PlacedBy w home holder p → own_at k p ≢ drawing
never_drawn w home holder k places.Rest placed h = cc
never_drawn w home holder k (places.Hands j) placed h = neither (j.0 == k) h
  where
    neither : (b : Bool) → (if b then holding else away) ≡ drawing → ⊥
    neither true e = cc
    neither false e = cc
never_drawn w home holder k (places.Boxed b) placed h = cc
never_drawn w home holder k (places.Drawn j) placed h = absurd placed
never_drawn w home holder k (places.Runs j) placed h = absurd placed
never_drawn w home holder k places.Gone placed h = cc

pub never_run : (w home holder k : ℕ) (p : Place) → PlacedBy w home holder p → own_at k p ≢ running
never_run w home holder k places.Rest placed h = cc
never_run w home holder k (places.Hands j) placed h = neither (j.0 == k) h
  where
    neither : (b : Bool) → (if b then holding else away) ≡ running → ⊥
    neither true e = cc
    neither false e = cc
never_run w home holder k (places.Boxed b) placed h = cc
never_run w home holder k (places.Drawn j) placed h = absurd placed
never_run w home holder k (places.Runs j) placed h = absurd placed
never_run w home holder k places.Gone placed h = cc

-- what the passes have of a task tells where it is
pub record OwnTells (w : ℕ) (p start : Place) (own : ℕ → Own) : Type 0 where
  pub at : (k : ℕ) → k ≤ w → own k ≡ own_at k p
  pub past : (k : ℕ) → w < k → own k ≡ away
  pub stays : (k : ℕ) → w < k → own_at k p ≡ own_at k start

nobody_holds : (w : ℕ) (p start : Place) (own : ℕ → Own) → OwnTells w p start own → ((k : ℕ) → own_at k p ≡ away) → (k : ℕ) → own k ≢ holding
nobody_holds w p start own r away_all k h =
    elim (cases_lt w k) [
      | inl far ↦ (let z = r.past k far in cc)
      | inr near ↦ (let z = r.at k near in let a = away_all k in cc)
    ]

placed_end : (o : Start) (i w home h0 holder : ℕ) (p start : Place) (own : ℕ → Own) → OwnTells w p start own → PlacedBy w home h0 start → home ≡ get_or o.homes i 0 → IsHomed o i p → ((k : ℕ) → k ≤ w → own k ≢ drawing) → ((k : ℕ) → k ≤ w → own k ≢ running) → ((k : ℕ) → own k ≡ holding → holder ≡ k) → (((k : ℕ) → own k ≢ holding) → holder ≡ no_holder) → PlacedBy w home holder p
placed_end o i w home h0 holder places.Rest start own r placed is homed undrawn ended held free =
    free (nobody_holds w places.Rest start own r (λ k. refl))
placed_end o i w home h0 holder (places.Hands j) start own r placed is homed undrawn ended held free =
    let mine : own_at j.0 (places.Hands j) ≡ holding = own_self j holding in
    let near : j.0 ≤ w = elim (cases_lt w j.0) [
      | inl far ↦ held_caller w home h0 j.0 start placed (sym (r.stays j.0 far) ∙ mine)
      | inr le ↦ le
    ] in
    (held j.0 (r.at j.0 near ∙ mine), near)
placed_end o i w home h0 holder (places.Boxed b) start own r placed is homed undrawn ended held free =
    (free (nobody_holds w (places.Boxed b) start own r (λ k. refl)), sym (is ∙ homed))
placed_end o i w home h0 holder (places.Drawn j) start own r placed is homed undrawn ended held free =
    let mine : own_at j.0 (places.Drawn j) ≡ drawing = own_self j drawing in
    elim (cases_lt w j.0) [
      | inl far ↦ absurd (never_drawn w home h0 j.0 start placed (sym (r.stays j.0 far) ∙ mine))
      | inr le ↦ absurd (undrawn j.0 le (r.at j.0 le ∙ mine))
    ]
placed_end o i w home h0 holder (places.Runs j) start own r placed is homed undrawn ended held free =
    let mine : own_at j.0 (places.Runs j) ≡ running = own_self j running in
    elim (cases_lt w j.0) [
      | inl far ↦ absurd (never_run w home h0 j.0 start placed (sym (r.stays j.0 far) ∙ mine))
      | inr le ↦ absurd (ended j.0 le (r.at j.0 le ∙ mine))
    ]
placed_end o i w home h0 holder places.Gone start own r placed is homed undrawn ended held free =
    free (nobody_holds w places.Gone start own r (λ k. refl))

-- nobody leads a task between rounds
no_leads : (w home holder p : ℕ) (owner : ℕ → ℕ) (place : Place) → PlacedBy w home holder place → Leads owner p place → ⊥
no_leads w home holder p owner places.Rest placed l = l
no_leads w home holder p owner (places.Hands j) placed l = l
no_leads w home holder p owner (places.Boxed b) placed l = l
no_leads w home holder p owner (places.Drawn j) placed l = placed
no_leads w home holder p owner (places.Runs j) placed l = placed
no_leads w home holder p owner places.Gone placed l = l

-- a list read both ways
pub read_at : {A : Type 0} (l : List A) (i : ℕ) (a d : A) → get_elem? l i ≡ some a → get_or l i d ≡ a
read_at [] i a d e = absurd (some-ne-none a (sym e))
read_at (x ∷ xs) zero a d e = some-injective x a e
read_at (x ∷ xs) (suc i) a d e = read_at xs i a d e

module _ (o : Opening) (board : TableId) (s : table.State Body View) (r : IsKept o s) (id : ℕ) (v : View) (passes : List (std.Option Held)) (at : get_elem? s.views id ≡ some v) (gathered : Gathers passes 0 v) (back : AllBack (record { board = board; start = start_of o }) passes) where
  abbrev w : ℕ
  w = (start_of o).state.workers

  abbrev m : State
  m = now_of (start_of o) r.history

  -- the calls of each caller are its pass's entries
  calls-entries : (k : ℕ) → calls_of k r.history ≡ entries_of passes k
  calls-entries k =
      elim (cases_lt w k) [
        | inl far ↦
            (let none' : get_or passes k None ≡ None = get_or_past passes k None (omega (arith, back.count)) in
            calls_of-none (start_of o).state r.history k r.legal far ∙ sym (ap entries_in none'))
        | inr near ↦
            (let b = back.back k near in
            let p : Held = b.0 in
            let z : k - 0 ≡ k = omega arith in
            let log : get_elem? v.logs k ≡ some p.entries = subst (λ (n : ℕ). get_elem? v.logs n ≡ some p.entries) z (gathered.logs k p (omega arith) b.1) in
            let l = r.logs id v k p.entries at log in
            let y : v.first + k ≡ k = omega (arith, gathered.first) in
            subst (λ (n : ℕ). calls_of n r.history ≡ p.entries) y l.calls ∙ sym (ap entries_in b.1))
      ]

  -- what each pass has of a task
  own_tells : (i : ℕ) → OwnTells w (task_at m i).place (task_at (start_of o).state i).place (λ k. own_in (get_or passes k None) i)
  own_tells i = record {
    at = λ k near.
        let b = back.back k near in
        let p : Held = b.0 in
        let idle = b.2 in
        let led' = own-led (start_of o).state r.history k i r.legal in
        let mine : calls_of k r.history ≡ p.entries = calls-entries k ∙ ap entries_in b.1 in
        let here : own_by p i ≡ own_of i (own_at k (task_at (start_of o).state i).place) p.entries = ap (λ (x : Start). own_of i (own_at p.who (task_at x.state i).place) p.entries) idle.start ∙ ap (λ (n : ℕ). own_of i (own_at n (task_at (start_of o).state i).place) p.entries) idle.who in
        ap (λ (x : std.Option Held). own_in x i) b.1 ∙ (here ∙ (ap (own_of i (own_at k (task_at (start_of o).state i).place)) (sym mine) ∙ sym led'));
    past = λ k far. ap (λ (x : std.Option Held). own_in x i) (get_or_past passes k None (omega (arith, back.count)));
    stays = λ k far. own-led (start_of o).state r.history k i r.legal ∙ ap (own_of i (own_at k (task_at (start_of o).state i).place)) (calls_of-none (start_of o).state r.history k r.legal far);
  }

  undrawn : (i k : ℕ) → i < length (start_of o).state.tasks → k ≤ w → own_in (get_or passes k None) i ≢ drawing
  undrawn i k l near h =
      let b = back.back k near in b.2.undrawn i l (sym (ap (λ (x : std.Option Held). own_in x i) b.1) ∙ h)

  ended : (i k : ℕ) → i < length (start_of o).state.tasks → k ≤ w → own_in (get_or passes k None) i ≢ running
  ended i k l near h =
      let b = back.back k near in b.2.ended i l (sym (ap (λ (x : std.Option Held). own_in x i) b.1) ∙ h)

  abbrev ws_with : List ℕ → List Body → WordRow
  ws_with row bodies = record { workers = o.words.value.workers; tasks = o.words.value.tasks; row = row; bodies = bodies }

  placed : (holders : List ℕ) (i : ℕ) → AreHolders (length (start_of o).state.tasks) passes holders → i < o.words.value.tasks → PlacedBy o.words.value.workers (get_or o.homes.items i 0) (get_or holders i 0) (task_at m i).place
  placed holders i h l =
      let count = r.opened.count in
      placed_end (start_of o) i w (get_or o.homes.items i 0) (get_or o.holders.items i 0) (get_or holders i 0) (task_at m i).place (task_at (start_of o).state i).place (λ k. own_in (get_or passes k None) i) (own_tells i) (r.opened.placed i l) refl (r.words.homed i) (λ k near. undrawn i k (omega arith) near) (λ k near. ended i k (omega arith) near) (λ k held. h.held i k (omega arith) held) (λ free. h.free i (omega arith) free)

  stands : (bodies : List Body) (holders : List ℕ) → ((k : ℕ) (y : Body) → get_elem? s.homes k ≡ some (some y) → get_elem? bodies k ≡ some y) → AreHolders (length (start_of o).state.tasks) passes holders → StandBetween (ws_with s.words bodies) o.homes.items holders o.nexts.value m
  stands bodies holders homes h =
      let count : length (start_of o).state.tasks ≡ o.words.value.tasks = r.opened.count in
      record {
        workers = workers-led (start_of o).state r.history;
        few = r.opened.few;
        count = length-led (start_of o).state r.history ∙ count;
        boxed = r.opened.boxed;
        valid = Legal-valid (start_of o).state r.history r.legal r.opened.valid;
        tasks = λ i l. r.words.tasks i (omega arith);
        boxes = λ b g lb lg. subst (λ (n : ℕ). Rattle.task_machine.specs.Step.IsBox m b g (get_or s.words (box_at n b g) 0)) count (r.words.boxes b g lb (omega arith));
        placed = λ i l. placed holders i h l;
        bodies = λ i l shared lives.
            elim (r.housed.bodies i (omega arith) shared lives) [
              | inl home ↦ subst (λ (b : Body). BodyFits o.nexts.value i b (task_at m i).takes) (sym (read_at bodies i home.0 first_body (homes i home.0 home.1))) home.2
              | inr out ↦
                  (let (p, u, j, x, at', is_out, is) = out in
                  let lead = (r.housed.outs p u j x at' is_out).leads in
                  absurd (no_leads o.words.value.workers (get_or o.homes.items i 0) (get_or holders i 0) p r.owner (task_at m i).place (placed holders i h l) (subst (λ (n : ℕ). Leads r.owner p (task_at m n).place) is lead)))
            ];
      }

  drawn : (k i j : ℕ) (p : Held) → get_or passes k None ≡ Some p → get_elem? p.misses j ≡ some i → (task_at (start_of o).state i).place ≡ places.Boxed w → (q : ℕ) × HasDraw i (entries_of passes q)
  drawn k i j p here miss boxed =
      let g = gathered.misses k j i p (omega arith) here miss in
      let d = r.missed id v g.0 i at g.1 boxed in
      let e : Entry = d.1 in
      let c = at_calls r.history d.0 e d.2 in
      (e.caller.0, (c.0, e, subst (λ (l : List Entry). get_elem? l c.0 ≡ some e) (calls-entries e.caller.0) c.1, d.3))

  pub finishes : (bodies : List Body) → ((k : ℕ) (y : Body) → get_elem? s.homes k ≡ some (some y) → get_elem? bodies k ≡ some y) → Finishes (record { board = board; start = start_of o }) passes (ws_with s.words bodies)
  finishes bodies homes = record {
    history = r.history;
    merge = (r.legal, calls-entries);
    stands = λ holders h. stands bodies holders homes h;
    drawn = drawn;
  }
