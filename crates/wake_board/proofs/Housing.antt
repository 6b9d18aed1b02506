-- Bodies leave their places, and come back.
use Rattle.std.proofs.Common.{◌≡◌, ◌≢◌, ℕ, zero, suc, ◌+◌, ◌<◌, List, ◌∷◌, length, set, refl, sym, ap, subst, ◌∙◌, inl, inr, ⊎_elim, arith}
use Rattle.std.proofs.lemmas.Bool.{cases_eq}
use mathlib.Core.Option.{Option, some, none, some-injective}
use lib.ListN.{get_elem?}
use Rattle.atomic_table.specs.Table as table
use Rattle.atomic_table.proofs.Lists.{at_set, set_here, set_else}
use Rattle.task_machine.specs.declared.task.Place.{Place}
use Rattle.task_machine.specs.declared.task.Place.TheVariants as places
use Rattle.task_machine.specs.Step.{State, task_at}
use Rattle.step_tables.specs.Nexts.{row_after}
use Rattle.wake_board.specs.declared.body.Body.{Body}
use Rattle.wake_board.specs.declared.views.Opening.{Opening}
use Rattle.wake_board.specs.declared.views.Out.{Out}
use Rattle.wake_board.specs.declared.views.View.{View}
use Rattle.wake_board.specs.Start.{Start, start_of, IsShared}
use Rattle.wake_board.specs.Rule.{now_of, Worded, IsLogged, Leads, gain, IsOut, IsAway, Housed, IsKept}
use Rattle.wake_board.specs.Outs.{out_of}
use Rattle.wake_board.specs.Seen.{with_out}
use Rattle.wake_board.proofs.Tables.{at_below}
use Rattle.wake_board.proofs.Fronts.{Apart, apart_rest}

-- the rule where bodies move alone: words and logs are as before
pub kept-outs : (o : Opening) (s : table.State Body View) (r : IsKept o s) (id : ℕ) (v : View) (outs : List Out) (words : List ℕ) (homes : List (Option Body)) → words ≡ s.words → get_elem? s.views id ≡ some v → Housed (start_of o) r.owner (now_of (start_of o) r.history) homes (set s.views id (with_out v outs)) → IsKept o (record { words = words; homes = homes; views = set s.views id (with_out v outs) })
kept-outs o s r id v outs words homes same at housed =
    let w : View = with_out v outs in
    record {
      history = r.history;
      owner = r.owner;
      legal = r.legal;
      opened = r.opened;
      few = r.few;
      words = subst (λ (q : List ℕ). Worded (start_of o) q (now_of (start_of o) r.history)) (sym same) r.words;
      takes = r.takes;
      paced = r.paced;
      logs = λ p u j es at' log.
          elim (at_set s.views id p w u at') [
            | inl here ↦
                (let l = r.logs id v j es at (subst (λ (x : View). get_elem? x.logs j ≡ some es) (sym here.1) log) in
                let made : IsLogged o r.owner r.history id w j es = record { start = l.start; owned = l.owned; caller = l.caller; calls = l.calls } in
                subst (λ (n : ℕ). IsLogged o r.owner r.history n u j es) (sym here.0) (subst (λ (x : View). IsLogged o r.owner r.history id x j es) here.1 made))
            | inr else' ↦ r.logs p u j es else'.1 log
          ];
      seated = λ k l.
          let q = r.seated k l in
          elim (cases_eq q.seat id) [
            | inl here ↦
                (let isv : q.view ≡ v = some-injective q.view v (sym (subst (λ (n : ℕ). get_elem? s.views n ≡ some q.view) here q.at) ∙ at) in
                record {
                  seat = id;
                  view = w;
                  place = q.place;
                  log = q.log;
                  at = set_here s.views id w (at_below s.views id v at);
                  found = subst (λ (x : View). get_elem? x.logs q.place ≡ some q.log) isv q.found;
                  caller = ap (λ (x : View). x.first + q.place) (sym isv) ∙ q.caller;
                })
            | inr ne ↦ record { seat = q.seat; view = q.view; place = q.place; log = q.log; at = set_else s.views id q.seat w ne ∙ q.at; found = q.found; caller = q.caller }
          ];
      missed = λ p u j i at' miss boxed.
          elim (at_set s.views id p w u at') [
            | inl here ↦ r.missed id v j i at (subst (λ (x : View). get_elem? x.misses j ≡ some i) (sym here.1) miss) boxed
            | inr else' ↦ r.missed p u j i else'.1 miss boxed
          ];
      housed = housed;
    }

-- the bodies that are out with a seat, after those of one seat changed
outs_after_set : (views : List View) (id : ℕ) (v : View) (outs : List Out) (P : ℕ → List Out → Type 0) → P id outs → ((p : ℕ) (u : View) → p ≢ id → get_elem? views p ≡ some u → P p u.outs) → (p : ℕ) (u : View) → get_elem? (set views id (with_out v outs)) p ≡ some u → P p u.outs
outs_after_set views id v outs P here others p u at' =
    elim (at_set views id p (with_out v outs) u at') [
      | inl h ↦ subst (λ (n : ℕ). P n u.outs) (sym h.0) (subst (λ (z : View). P id z.outs) h.1 here)
      | inr e ↦ others p u e.0 e.1
    ]

-- a view at a place of the list is the one that stands there
same_view : (views : List View) (p id : ℕ) (u v : View) → p ≡ id → get_elem? views p ≡ some u → get_elem? views id ≡ some v → u ≡ v
same_view views p id u v same at' at =
    some-injective u v (sym (subst (λ (n : ℕ). get_elem? views n ≡ some u) same at') ∙ at)

-- one seat leads a task
pub one_leader : (owner : ℕ → ℕ) (p q : ℕ) (place : Place) → Leads owner p place → Leads owner q place → p ≡ q
one_leader owner p q places.Rest a b = absurd a
one_leader owner p q (places.Hands k) a b = absurd a
one_leader owner p q (places.Boxed c) a b = absurd a
one_leader owner p q (places.Drawn k) a b = sym a ∙ b
one_leader owner p q (places.Runs k) a b = sym a ∙ b
one_leader owner p q places.Gone a b = absurd a

-- a body that is at home is out with nobody
not_home : (o : Start) (owner : ℕ → ℕ) (m : State) (homes : List (Option Body)) (p i : ℕ) (x : Out) (body : Body) → get_elem? homes i ≡ some (some body) → IsOut o owner m homes p x → x.task ≢ i
not_home o owner m homes p i x body home is same =
    let z : some none ≡ some (some body) = sym is.away ∙ (ap (get_elem? homes) same ∙ home) in cc

-- the others that are out, after one more left its place
out_else : (o : Start) (owner : ℕ → ℕ) (m : State) (homes : List (Option Body)) (p i : ℕ) (x : Out) (h : Option Body) → x.task ≢ i → IsOut o owner m homes p x → IsOut o owner m (set homes i h) p x
out_else o owner m homes p i x h ne is =
    record { exists = is.exists; shared = is.shared; leads = is.leads; takes = is.takes; away = set_else homes i x.task h ne ∙ is.away }

-- the body of a task that a seat leads goes out to it
module _ (o : Start) (owner : ℕ → ℕ) (m : State) (homes : List (Option Body)) (views : List View) (id : ℕ) (v : View) (i : ℕ) (body : Body) (r : Housed o owner m homes views) (at : get_elem? views id ≡ some v) (within : i < length o.state.tasks) (shared : IsShared o i) (leads : Leads owner id (task_at m i).place) (fits : (task_at m i).takes ≡ body.takes + gain (task_at m i).place) (home : get_elem? homes i ≡ some (some body)) where
  abbrev outs : List Out
  outs = out_of i body.takes ∷ v.outs

  abbrev gone_homes : List (Option Body)
  gone_homes = set homes i none

  abbrev gone_views : List View
  gone_views = set views id (with_out v outs)

  out_here : (j : ℕ) (x : Out) → get_elem? outs j ≡ some x → IsOut o owner m gone_homes id x
  out_here zero x b =
      subst (IsOut o owner m gone_homes id) (some-injective (out_of i body.takes) x b) (record { exists = within; shared = shared; leads = leads; takes = fits; away = set_here homes i none (at_below homes i (some body) home) })
  out_here (suc j) x b =
      let is = r.outs id v j x at b in
      out_else o owner m homes id i x none (not_home o owner m homes id i x body home is) is

  apart_here : Apart outs
  apart_here zero zero x y a b same = refl
  apart_here zero (suc k) x y a b same =
      absurd (not_home o owner m homes id i y body home (r.outs id v k y at b) (sym same ∙ sym (ap (λ (z : Out). z.task) (some-injective (out_of i body.takes) x a))))
  apart_here (suc j) zero x y a b same =
      absurd (not_home o owner m homes id i x body home (r.outs id v j x at a) (same ∙ sym (ap (λ (z : Out). z.task) (some-injective (out_of i body.takes) y b))))
  apart_here (suc j) (suc k) x y a b same = ap suc (r.apart id v j k x y at a b same)

  away_more : (j : ℕ) → IsAway views j → IsAway gone_views j
  away_more j (p, u, q, x, at', out, is) =
      elim (cases_eq p id) [
        | inl here ↦
            (let isv = same_view views p id u v here at' at in
            (id, with_out v outs, suc q, x, set_here views id (with_out v outs) (at_below views id v at), subst (λ (z : View). get_elem? z.outs q ≡ some x) isv out, is))
        | inr ne ↦ (p, u, q, x, set_else views id p (with_out v outs) ne ∙ at', out, is)
      ]

  pub housed-out : Housed o owner m gone_homes gone_views
  housed-out =
      record {
        outs = λ p u j x a. outs_after_set views id v outs (λ q l. (n : ℕ) (y : Out) → get_elem? l n ≡ some y → IsOut o owner m gone_homes q y) out_here (λ q w ne at' n y b. (let is = r.outs q w n y at' b in out_else o owner m homes q i y none (not_home o owner m homes q i y body home is) is)) p u a j x;
        apart = λ p u j k x y a. outs_after_set views id v outs (λ q l. Apart l) apart_here (λ q w ne at' n e y z. r.apart q w n e y z at') p u a j k x y;
        bodies = λ j l shared' lives.
            elim (cases_eq j i) [
              | inl here ↦ inr (id, with_out v outs, 0, out_of i body.takes, set_here views id (with_out v outs) (at_below views id v at), refl, sym here)
              | inr ne ↦ ⊎_elim (λ h. inl (h.0, set_else homes i j none ne ∙ h.1, h.2)) (λ a. inr (away_more j a)) (r.bodies j l shared' lives)
            ];
      }

-- the first body that is out with a seat comes back, as the task's takes and their row
module _ (o : Start) (owner : ℕ → ℕ) (m : State) (homes : List (Option Body)) (views : List View) (id : ℕ) (v : View) (x : Out) (xs : List Out) (body : Body) (r : Housed o owner m homes views) (at : get_elem? views id ≡ some v) (is_outs : v.outs ≡ x ∷ xs) (takes_fit : body.takes ≡ (task_at m x.task).takes) (row_fits : body.row ≡ row_after o.nexts x.task body.takes) where
  abbrev back_homes : List (Option Body)
  back_homes = set homes x.task (some body)

  abbrev back_views : List View
  back_views = set views id (with_out v xs)

  out_at : (j : ℕ) (y : Out) → get_elem? (x ∷ xs) j ≡ some y → get_elem? v.outs j ≡ some y
  out_at j y b = subst (λ (l : List Out). get_elem? l j ≡ some y) (sym is_outs) b

  first_out : IsOut o owner m homes id x
  first_out = r.outs id v 0 x at (out_at 0 x refl)

  next_apart : (j : ℕ) (y : Out) → get_elem? xs j ≡ some y → y.task ≢ x.task
  next_apart j y b same =
      let z : suc j ≡ 0 = r.apart id v (suc j) 0 y x at (out_at (suc j) y b) (out_at 0 x refl) same in
      absurd (omega arith)

  still_away : (j : ℕ) → j ≢ x.task → IsAway views j → IsAway back_views j
  still_away j ne (p, u, q, y, at', out, is) =
      elim (cases_eq p id) [
        | inl here ↦
            (let isv = same_view views p id u v here at' at in
            still q (subst (λ (l : List Out). get_elem? l q ≡ some y) is_outs (subst (λ (z : View). get_elem? z.outs q ≡ some y) isv out)))
        | inr other ↦ (p, u, q, y, set_else views id p (with_out v xs) other ∙ at', out, is)
      ]
    where
      still : (n : ℕ) → get_elem? (x ∷ xs) n ≡ some y → IsAway back_views j
      still zero b = absurd (ne (sym is ∙ sym (ap (λ (z : Out). z.task) (some-injective x y b))))
      still (suc n) b = (id, with_out v xs, n, y, set_here views id (with_out v xs) (at_below views id v at), b, is)

  pub housed-in : Housed o owner m back_homes back_views
  housed-in =
      record {
        outs = λ p u j y a. outs_after_set views id v xs (λ q l. (n : ℕ) (z : Out) → get_elem? l n ≡ some z → IsOut o owner m back_homes q z) (λ n z b. out_else o owner m homes id x.task z (some body) (next_apart n z b) (r.outs id v (suc n) z at (out_at (suc n) z b))) (λ q w ne at' n z b. (let is = r.outs q w n z at' b in out_else o owner m homes q x.task z (some body) (λ same. ne (one_leader owner q id (task_at m x.task).place (subst (λ (e : ℕ). Leads owner q (task_at m e).place) same is.leads) first_out.leads)) is)) p u a j y;
        apart = λ p u j k y z a. outs_after_set views id v xs (λ q l. Apart l) (apart_rest x xs (subst Apart is_outs (λ j k y z. r.apart id v j k y z at))) (λ q w ne at' n e y z. r.apart q w n e y z at') p u a j k y z;
        bodies = λ j l shared lives.
            elim (cases_eq j x.task) [
              | inl here ↦ inl (body, set_elem j here, (takes_fit ∙ ap (λ (n : ℕ). (task_at m n).takes) (sym here), row_here j here))
              | inr ne ↦ ⊎_elim (λ h. inl (h.0, set_else homes x.task j (some body) ne ∙ h.1, h.2)) (λ a. inr (still_away j ne a)) (r.bodies j l shared lives)
            ];
      }
    where
      set_elem : (j : ℕ) → j ≡ x.task → get_elem? back_homes j ≡ some (some body)
      set_elem j here = ap (get_elem? back_homes) here ∙ set_here homes x.task (some body) (at_below homes x.task none first_out.away)

      row_here : (j : ℕ) → j ≡ x.task → body.row ≡ row_after o.nexts j (task_at m j).takes
      row_here j here = row_fits ∙ (ap (row_after o.nexts x.task) takes_fit ∙ ap (λ (n : ℕ). row_after o.nexts n (task_at m n).takes) (sym here))

-- the bodies that are out with a seat stand in another order
pub housed-order : (o : Start) (owner : ℕ → ℕ) (m : State) (homes : List (Option Body)) (views : List View) (id : ℕ) (v : View) (outs : List Out) → Housed o owner m homes views → get_elem? views id ≡ some v → ((j : ℕ) (x : Out) → get_elem? outs j ≡ some x → (q : ℕ) × (get_elem? v.outs q ≡ some x)) → ((j : ℕ) (x : Out) → get_elem? v.outs j ≡ some x → (q : ℕ) × (get_elem? outs q ≡ some x)) → Apart outs → Housed o owner m homes (set views id (with_out v outs))
housed-order o owner m homes views id v outs r at old new apart =
    record {
      outs = λ p u j x a. outs_after_set views id v outs (λ q l. (n : ℕ) (y : Out) → get_elem? l n ≡ some y → IsOut o owner m homes q y) (λ n y b. (let q = old n y b in r.outs id v q.0 y at q.1)) (λ q w ne at' n y. r.outs q w n y at') p u a j x;
      apart = λ p u j k x y a. outs_after_set views id v outs (λ q l. Apart l) apart (λ q w ne at' n e y z. r.apart q w n e y z at') p u a j k x y;
      bodies = λ j l shared lives. ⊎_elim (λ h. inl h) (λ a. inr (away_new j a)) (r.bodies j l shared lives);
    }
  where
    away_new : (j : ℕ) → IsAway views j → IsAway (set views id (with_out v outs)) j
    away_new j (p, u, q, x, at', out, is) =
        elim (cases_eq p id) [
          | inl here ↦
              (let isv = same_view views p id u v here at' at in
              let there = new q x (subst (λ (z : View). get_elem? z.outs q ≡ some x) isv out) in
              (id, with_out v outs, there.0, x, set_here views id (with_out v outs) (at_below views id v at), there.1, is))
          | inr ne ↦ (p, u, q, x, set_else views id p (with_out v outs) ne ∙ at', out, is)
        ]
