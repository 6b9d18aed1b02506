-- Passes leave the first seat one by one, and come back to it.
use Rattle.std.proofs.Common.{◌≡◌, ◌≢◌, ◌⊎◌, ℕ, zero, suc, ◌+◌, ◌<◌, ◌≤◌, Bool, ◌==◌, if◌then◌else◌, List, [], ◌∷◌, ◌++◌, length, set, refl, sym, ap, subst, ◌∙◌, inl, inr, ⊎_elim, arith, eq-eqb, ne_eqb}
use Rattle.std.proofs.lemmas.Bool.{cases_eq}
use Rattle.std.proofs.Math.ListN.{length-set}
use mathlib.Core.Option.{Option, some, some-injective, some-ne-none}
use lib.ListN.{get_elem?}
use Rattle.atomic_table.specs.Table as table
use Rattle.atomic_table.proofs.Lists.{at_set, set_here, set_else, at_longer, at_last}
use Rattle.task_machine.specs.declared.task.Place.{Place}
use Rattle.task_machine.specs.declared.task.Place.TheVariants as places
use Rattle.task_machine.specs.declared.calls.Entry.{Entry}
use Rattle.task_machine.specs.Step.{State, task_at}
use Rattle.wake_board.specs.declared.body.Body.{Body}
use Rattle.wake_board.specs.declared.views.Opening.{Opening}
use Rattle.wake_board.specs.declared.views.Out.{Out}
use Rattle.wake_board.specs.declared.views.View.{View}
use Rattle.wake_board.specs.Start.{Start, start_of}
use Rattle.wake_board.specs.Rule.{now_of, IsLogged, IsSeated, Leads, IsOut, IsKept}
use Rattle.wake_board.specs.Seen.{own_log, rest_of, view_left, view_right}
use Rattle.wake_board.proofs.Tables.{at_below, at_single, at_end}

-- a lead under another naming of seats, which keeps the callers of this seat
leads_under : (a b : ℕ → ℕ) (p q : ℕ) (place : Place) → ((k : ℕ) → a k ≡ p → b k ≡ q) → Leads a p place → Leads b q place
leads_under a b p q places.Rest h l = l
leads_under a b p q (places.Hands k) h l = l
leads_under a b p q (places.Boxed c) h l = l
leads_under a b p q (places.Drawn k) h l = h k.0 l
leads_under a b p q (places.Runs k) h l = h k.0 l
leads_under a b p q places.Gone h l = l

pub out_under : (o : Start) (a b : ℕ → ℕ) (m : State) (homes : List (Option Body)) (p q : ℕ) (x : Out) → ((k : ℕ) → a k ≡ p → b k ≡ q) → IsOut o a m homes p x → IsOut o b m homes q x
out_under o a b m homes p q x h r =
    record {
      exists = r.exists;
      shared = r.shared;
      leads = leads_under a b p q (task_at m x.task).place h r.leads;
      takes = r.takes;
      away = r.away;
    }

-- a seat of a table after a split: the one that was cut, the new one, or another
pub record AfterSplit (views : List View) (id : ℕ) (left right : View) (p : ℕ) (u : View) : Type 0 where
  pub seat : ((p ≡ id) × (left ≡ u)) ⊎ (((p ≢ id) × (p < length views) × (get_elem? views p ≡ some u)) ⊎ ((p ≡ length views) × (right ≡ u)))

after_split : (views : List View) (id : ℕ) (left right : View) (p : ℕ) (u : View) → get_elem? (set views id left ++ right ∷ []) p ≡ some u → AfterSplit views id left right p u
after_split views id left right p u at =
    let wide = length-set views id left in
    elim (at_end (set views id left) right u p at) [
      | inl old ↦ elim (at_set views id p left u old) [
        | inl here ↦ record { seat = inl here }
        | inr else' ↦ record { seat = inr (inl (else'.0, at_below views p u else'.1, else'.1)) }
      ]
      | inr new ↦ record { seat = inr (inr (new.0 ∙ wide, new.1)) }
    ]

-- the new seat has caller `first`
pub owner_split : (ℕ → ℕ) → ℕ → ℕ → ℕ → ℕ
owner_split owner first new k = if k == first then new else owner k

owner_new : (owner : ℕ → ℕ) (first new : ℕ) → owner_split owner first new first ≡ new
unfolding owner_split
owner_new owner first new = ap (λ (b : Bool). if b then new else owner first) (eq-eqb first first refl)

owner_old : (owner : ℕ → ℕ) (first new k : ℕ) → k ≢ first → owner_split owner first new k ≡ owner k
unfolding owner_split
owner_old owner first new k ne = ap (λ (b : Bool). if b then new else owner k) (ne_eqb k first ne)

-- a seat with no body out is nobody's place of a body
pub away_not : (views : List View) (id : ℕ) (v : View) (p : ℕ) (u : View) (j : ℕ) (x : Out) → get_elem? views id ≡ some v → v.outs ≡ [] → get_elem? views p ≡ some u → get_elem? u.outs j ≡ some x → p ≢ id
away_not views id v p u j x at none_out at' out same =
    let is : u ≡ v = some-injective u v (sym (subst (λ (n : ℕ). get_elem? views n ≡ some u) same at') ∙ at) in
    let here : get_elem? v.outs j ≡ some x = subst (λ (y : View). get_elem? y.outs j ≡ some x) is out in
    absurd (some-ne-none x (sym (subst (λ (l : List Out). get_elem? l j ≡ some x) none_out here)))

-- each caller's log is some seat's after a split, by the place of the log in the seat that was cut
seated_cut : (views : List View) (id : ℕ) (v : View) (es : List Entry) (ess : List (List Entry)) (j k : ℕ) (log : List Entry) → get_elem? views id ≡ some v → v.logs ≡ es ∷ ess → get_elem? (es ∷ ess) j ≡ some log → v.first + j ≡ k → IsSeated (set views id (view_left v) ++ view_right v ∷ []) k
seated_cut views id v es ess zero k log at logs found caller =
    record {
      seat = length views;
      view = view_right v;
      place = 0;
      log = own_log v.logs;
      at = at_last (set views id (view_left v)) (view_right v) (length views) (length-set views id (view_left v));
      found = refl;
      caller = caller;
    }
seated_cut views id v es ess (suc j) k log at logs found caller =
    record {
      seat = id;
      view = view_left v;
      place = j;
      log = log;
      at = at_longer (set views id (view_left v)) (view_right v ∷ []) id (view_left v) (set_here views id (view_left v) (at_below views id v at));
      found = subst (λ (l : List (List Entry)). get_elem? (rest_of l) j ≡ some log) (sym logs) found;
      caller = (let z : suc v.first + j ≡ v.first + suc j = omega arith in z ∙ caller);
    }

seated_split : (views : List View) (id : ℕ) (v : View) (es : List Entry) (ess : List (List Entry)) (k : ℕ) → get_elem? views id ≡ some v → v.logs ≡ es ∷ ess → IsSeated views k → IsSeated (set views id (view_left v) ++ view_right v ∷ []) k
seated_split views id v es ess k at logs r =
    elim (cases_eq r.seat id) [
      | inl same ↦
          (let isv : r.view ≡ v = some-injective r.view v (sym (subst (λ (n : ℕ). get_elem? views n ≡ some r.view) same r.at) ∙ at) in
          seated_cut views id v es ess r.place k r.log at logs (subst (λ (l : List (List Entry)). get_elem? l r.place ≡ some r.log) logs (subst (λ (u : View). get_elem? u.logs r.place ≡ some r.log) isv r.found)) (ap (λ (u : View). u.first + r.place) (sym isv) ∙ r.caller))
      | inr ne ↦ record { seat = r.seat; view = r.view; place = r.place; log = r.log; at = at_longer (set views id (view_left v)) (view_right v ∷ []) r.seat r.view (set_else views id r.seat (view_left v) ne ∙ r.at); found = r.found; caller = r.caller }
    ]

pub splits : (o : Opening) (id : ℕ) (v : View) (es : List Entry) (ess : List (List Entry)) → v.logs ≡ es ∷ ess → v.outs ≡ [] → table.Splits (IsKept o) id v (view_left v) (view_right v)
splits o id v es ess logs none_out s r at =
    let left : View = view_left v in
    let right : View = view_right v in
    let new : ℕ = length s.views in
    let first : ℕ = v.first in
    let owner : ℕ → ℕ = owner_split r.owner first new in
    let within = at_below s.views id v at in
    let head : IsLogged o r.owner r.history id v 0 es = r.logs id v 0 es at (subst (λ (l : List (List Entry)). get_elem? l 0 ≡ some es) (sym logs) refl) in
    let zero_more : first + 0 ≡ first = omega arith in
    let mine : r.owner first ≡ id = subst (λ (n : ℕ). r.owner n ≡ id) zero_more head.owned in
    let apart : (k : ℕ) → r.owner k ≢ id → owner k ≡ r.owner k = λ k ne. owner_old r.owner first new k (λ same. ne (ap r.owner same ∙ mine)) in
    record {
      history = r.history;
      owner = owner;
      legal = r.legal;
      opened = r.opened;
      few = r.few;
      words = r.words;
      takes = r.takes;
      paced = r.paced;
      logs = λ p u j log at' found.
          elim (after_split s.views id left right p u at').seat [
            | inl here ↦
                (let in_rest : get_elem? ess j ≡ some log = subst (λ (l : List (List Entry)). get_elem? (rest_of l) j ≡ some log) logs (subst (λ (y : View). get_elem? y.logs j ≡ some log) (sym here.1) found) in
                let l : IsLogged o r.owner r.history id v (suc j) log = r.logs id v (suc j) log at (subst (λ (x : List (List Entry)). get_elem? x (suc j) ≡ some log) (sym logs) in_rest) in
                let next : first + suc j ≡ suc first + j = omega arith in
                let ne : suc first + j ≢ first = λ e. omega arith in
                let made : IsLogged o owner r.history id left j log = record {
                  start = l.start;
                  owned = owner_old r.owner first new (suc first + j) ne ∙ subst (λ (n : ℕ). r.owner n ≡ id) next l.owned;
                  caller = subst (λ (n : ℕ). n ≤ (start_of o).state.workers) next l.caller;
                  calls = subst (λ (n : ℕ). Rattle.task_machine.specs.History.calls_of n r.history ≡ log) next l.calls;
                } in
                subst (λ (q : ℕ). IsLogged o owner r.history q u j log) (sym here.0) (subst (λ (y : View). IsLogged o owner r.history id y j log) here.1 made))
            | inr other ↦ elim other [
              | inl else' ↦
                  (let l = r.logs p u j log else'.2 found in
                  record { start = l.start; owned = apart (u.first + j) (λ same. else'.0 (sym l.owned ∙ same)) ∙ l.owned; caller = l.caller; calls = l.calls })
              | inr last ↦
                  (let item = at_single (own_log v.logs) log j (subst (λ (y : View). get_elem? y.logs j ≡ some log) (sym last.1) found) in
                  let is : es ≡ log = ap own_log (sym logs) ∙ item.1 in
                  let made : IsLogged o owner r.history new right 0 es = record {
                    start = head.start;
                    owned = subst (λ (n : ℕ). owner n ≡ new) (sym zero_more) (owner_new r.owner first new);
                    caller = head.caller;
                    calls = head.calls;
                  } in
                  subst (λ (q : ℕ). IsLogged o owner r.history q u j log) (sym last.0) (subst (λ (y : View). IsLogged o owner r.history new y j log) last.1 (subst (λ (n : ℕ). IsLogged o owner r.history new right n log) (sym item.0) (subst (IsLogged o owner r.history new right 0) is made))))
            ]
          ];
      seated = λ k l. seated_split s.views id v es ess k at logs (r.seated k l);
      missed = λ p u j i at' miss boxed.
          elim (after_split s.views id left right p u at').seat [
            | inl here ↦ r.missed id v j i at (subst (λ (y : View). get_elem? y.misses j ≡ some i) (sym here.1) miss) boxed
            | inr other ↦ elim other [
              | inl else' ↦ r.missed p u j i else'.2 miss boxed
              | inr last ↦ absurd (some-ne-none i (sym (subst (λ (y : View). get_elem? y.misses j ≡ some i) (sym last.1) miss)))
            ]
          ];
      housed = record {
        outs = λ p u j x at' out.
            elim (after_split s.views id left right p u at').seat [
              | inl here ↦ absurd (some-ne-none x (sym (subst (λ (l : List Out). get_elem? l j ≡ some x) none_out (subst (λ (y : View). get_elem? y.outs j ≡ some x) (sym here.1) out))))
              | inr other ↦ elim other [
                | inl else' ↦ out_under (start_of o) r.owner owner (now_of (start_of o) r.history) s.homes p p x (λ k is. apart k (λ same. else'.0 (sym is ∙ same)) ∙ is) (r.housed.outs p u j x else'.2 out)
                | inr last ↦ absurd (some-ne-none x (sym (subst (λ (y : View). get_elem? y.outs j ≡ some x) (sym last.1) out)))
              ]
            ];
        apart = λ p u i j x y at' a b.
            elim (after_split s.views id left right p u at').seat [
              | inl here ↦ absurd (some-ne-none x (sym (subst (λ (l : List Out). get_elem? l i ≡ some x) none_out (subst (λ (z : View). get_elem? z.outs i ≡ some x) (sym here.1) a))))
              | inr other ↦ elim other [
                | inl else' ↦ r.housed.apart p u i j x y else'.2 a b
                | inr last ↦ absurd (some-ne-none x (sym (subst (λ (z : View). get_elem? z.outs i ≡ some x) (sym last.1) a)))
              ]
            ];
        bodies = λ i l shared lives.
            ⊎_elim inl (λ (p, u, j, x, at', out, is). inr (p, u, j, x, at_longer (set s.views id left) (right ∷ []) p u (set_else s.views id p left (away_not s.views id v p u j x at none_out at' out) ∙ at'), out, is)) (r.housed.bodies i l shared lives);
      };
    }
