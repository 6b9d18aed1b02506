-- A seat takes in another one.
use Rattle.std.proofs.Common.{◌≡◌, ◌≢◌, ◌⊎◌, ℕ, ◌+◌, ◌-◌, ◌≤◌, Bool, ◌==◌, if◌then◌else◌, List, [], ◌∷◌, length, set, refl, sym, ap, subst, ◌∙◌, inl, inr, ⊎_elim, arith, eq-eqb, ne_eqb}
use Rattle.std.proofs.lemmas.Bool.{cases_eq}
use mathlib.Core.Option.{some, some-injective, some-ne-none}
use lib.ListN.{get_elem?}
use Rattle.atomic_table.specs.Table as table
use Rattle.atomic_table.proofs.Lists.{at_set, set_here, set_else}
use Rattle.task_machine.specs.declared.calls.Entry.{Entry}
use Rattle.task_machine.specs.History.{calls_of}
use Rattle.wake_board.specs.declared.views.Opening.{Opening}
use Rattle.wake_board.specs.declared.views.View.{View}
use Rattle.wake_board.specs.Start.{start_of}
use Rattle.wake_board.specs.Rule.{now_of, IsLogged, IsSeated, IsKept}
use Rattle.wake_board.specs.Seen.{view_both, view_spent}
use Rattle.wake_board.proofs.Tables.{at_below, at_append, at_front, at_behind}
use Rattle.wake_board.proofs.Splits.{out_under, away_not}

-- a seat of a table after a join: the one that was taken in, the one that took it in, or another
pub record AfterJoin (views : List View) (id other : ℕ) (both spent : View) (p : ℕ) (u : View) : Type 0 where
  pub seat : ((p ≡ other) × (spent ≡ u)) ⊎ (((p ≢ other) × (p ≡ id) × (both ≡ u)) ⊎ ((p ≢ other) × (p ≢ id) × (get_elem? views p ≡ some u)))

after_join : (views : List View) (id other : ℕ) (both spent : View) (p : ℕ) (u : View) → get_elem? (set (set views id both) other spent) p ≡ some u → AfterJoin views id other both spent p u
after_join views id other both spent p u at =
    elim (at_set (set views id both) other p spent u at) [
      | inl here ↦ record { seat = inl here }
      | inr old ↦ elim (at_set views id p both u old.1) [
        | inl mine ↦ record { seat = inr (inl (old.0, mine.0, mine.1)) }
        | inr else' ↦ record { seat = inr (inr (old.0, else'.0, else'.1)) }
      ]
    ]

-- the callers of the other seat are now this seat's
pub owner_join : (ℕ → ℕ) → ℕ → ℕ → ℕ → ℕ
owner_join owner other id k = if owner k == other then id else owner k

owner_taken : (owner : ℕ → ℕ) (other id k : ℕ) → owner k ≡ other → owner_join owner other id k ≡ id
unfolding owner_join
owner_taken owner other id k e = ap (λ (b : Bool). if b then id else owner k) (eq-eqb (owner k) other e)

owner_kept : (owner : ℕ → ℕ) (other id k p : ℕ) → p ≢ other → owner k ≡ p → owner_join owner other id k ≡ p
unfolding owner_join
owner_kept owner other id k p ne e = ap (λ (b : Bool). if b then id else owner k) (ne_eqb (owner k) other (λ same. ne (sym e ∙ same))) ∙ e

-- each caller's log is some seat's after a join
seated_join : (views : List View) (id : ℕ) (v : View) (other : ℕ) (w : View) (k : ℕ) → id ≢ other → get_elem? views id ≡ some v → get_elem? views other ≡ some w → w.first + length w.logs ≡ v.first → IsSeated views k → IsSeated (set (set views id (view_both v w)) other view_spent) k
seated_join views id v other w k apart at there next r =
    let both : View = view_both v w in
    let here : get_elem? (set (set views id both) other view_spent) id ≡ some both = set_else (set views id both) other id view_spent apart ∙ set_here views id both (at_below views id v at) in
    elim (cases_eq r.seat other) [
      | inl same ↦
          (let isw : r.view ≡ w = some-injective r.view w (sym (subst (λ (n : ℕ). get_elem? views n ≡ some r.view) same r.at) ∙ there) in
          record {
            seat = id;
            view = both;
            place = r.place;
            log = r.log;
            at = here;
            found = at_front w.logs v.logs r.place r.log (subst (λ (u : View). get_elem? u.logs r.place ≡ some r.log) isw r.found);
            caller = ap (λ (u : View). u.first + r.place) (sym isw) ∙ r.caller;
          })
      | inr ne ↦ elim (cases_eq r.seat id) [
        | inl same ↦
            (let isv : r.view ≡ v = some-injective r.view v (sym (subst (λ (n : ℕ). get_elem? views n ≡ some r.view) same r.at) ∙ at) in
            let first : v.first + r.place ≡ k = ap (λ (u : View). u.first + r.place) (sym isv) ∙ r.caller in
            record {
              seat = id;
              view = both;
              place = length w.logs + r.place;
              log = r.log;
              at = here;
              found = at_behind w.logs v.logs r.place r.log (subst (λ (u : View). get_elem? u.logs r.place ≡ some r.log) isv r.found);
              caller = (let z : w.first + (length w.logs + r.place) ≡ v.first + r.place = omega arith in z ∙ first);
            })
        | inr else' ↦
            record { seat = r.seat; view = r.view; place = r.place; log = r.log; at = set_else (set views id both) other r.seat view_spent ne ∙ (set_else views id r.seat both else' ∙ r.at); found = r.found; caller = r.caller }
      ]
    ]

pub joins : (o : Opening) (id : ℕ) (v : View) (other : ℕ) (w : View) (es : List Entry) (ess : List (List Entry)) → v.logs ≡ es ∷ ess → w.outs ≡ [] → w.first + length w.logs ≡ v.first → table.Joins (IsKept o) id v other w (view_both v w) view_spent
joins o id v other w es ess logs none_out next s r at apart at_other =
    let both : View = view_both v w in
    let owner : ℕ → ℕ = owner_join r.owner other id in
    let there : get_elem? s.views other ≡ some w = sym (set_else s.views id other both apart) ∙ at_other in
    let apart' : id ≢ other = λ same. apart (sym same) in
    let head : IsLogged o r.owner r.history id v 0 es = r.logs id v 0 es at (subst (λ (l : List (List Entry)). get_elem? l 0 ≡ some es) (sym logs) refl) in
    let views : List View = set (set s.views id both) other view_spent in
    record {
      history = r.history;
      owner = owner;
      legal = r.legal;
      opened = r.opened;
      few = r.few;
      words = r.words;
      takes = r.takes;
      paced = r.paced;
      logs = λ p u j log at' found.
          elim (after_join s.views id other both view_spent p u at').seat [
            | inl gone ↦ absurd (some-ne-none log (sym (subst (λ (y : View). get_elem? y.logs j ≡ some log) (sym gone.1) found)))
            | inr kept ↦ elim kept [
              | inl mine ↦
                  (let made : IsLogged o owner r.history id both j log = elim (at_append w.logs v.logs j log (subst (λ (y : View). get_elem? y.logs j ≡ some log) (sym mine.2) found)) [
                    | inl front ↦
                        (let l = r.logs other w j log there front in
                        record { start = head.start; owned = owner_taken r.owner other id (w.first + j) l.owned; caller = l.caller; calls = l.calls })
                    | inr behind ↦
                        (let l = r.logs id v (j - length w.logs) log at behind.1 in
                        let le = behind.0 in
                        let same : v.first + (j - length w.logs) ≡ w.first + j = omega arith in
                        record {
                          start = head.start;
                          owned = subst (λ (n : ℕ). owner n ≡ id) same (owner_kept r.owner other id (v.first + (j - length w.logs)) id apart' l.owned);
                          caller = subst (λ (n : ℕ). n ≤ (start_of o).state.workers) same l.caller;
                          calls = subst (λ (n : ℕ). calls_of n r.history ≡ log) same l.calls;
                        })
                  ] in
                  subst (λ (q : ℕ). IsLogged o owner r.history q u j log) (sym mine.1) (subst (λ (y : View). IsLogged o owner r.history id y j log) mine.2 made))
              | inr else' ↦
                  (let l = r.logs p u j log else'.2 found in
                  record { start = l.start; owned = owner_kept r.owner other id (u.first + j) p else'.0 l.owned; caller = l.caller; calls = l.calls })
            ]
          ];
      seated = λ k l. seated_join s.views id v other w k apart' at there next (r.seated k l);
      missed = λ p u j i at' miss boxed.
          elim (after_join s.views id other both view_spent p u at').seat [
            | inl gone ↦ absurd (some-ne-none i (sym (subst (λ (y : View). get_elem? y.misses j ≡ some i) (sym gone.1) miss)))
            | inr kept ↦ elim kept [
              | inl mine ↦ elim (at_append v.misses w.misses j i (subst (λ (y : View). get_elem? y.misses j ≡ some i) (sym mine.2) miss)) [
                | inl front ↦ r.missed id v j i at front boxed
                | inr behind ↦ r.missed other w (j - length v.misses) i there behind.1 boxed
              ]
              | inr else' ↦ r.missed p u j i else'.2 miss boxed
            ]
          ];
      housed = record {
        outs = λ p u j x at' out.
            elim (after_join s.views id other both view_spent p u at').seat [
              | inl gone ↦ absurd (some-ne-none x (sym (subst (λ (y : View). get_elem? y.outs j ≡ some x) (sym gone.1) out)))
              | inr kept ↦ elim kept [
                | inl mine ↦
                    subst (λ (q : ℕ). Rattle.wake_board.specs.Rule.IsOut (start_of o) owner (now_of (start_of o) r.history) s.homes q x) (sym mine.1) (out_under (start_of o) r.owner owner (now_of (start_of o) r.history) s.homes id id x (λ k is. owner_kept r.owner other id k id apart' is) (r.housed.outs id v j x at (subst (λ (y : View). get_elem? y.outs j ≡ some x) (sym mine.2) out)))
                | inr else' ↦ out_under (start_of o) r.owner owner (now_of (start_of o) r.history) s.homes p p x (λ k is. owner_kept r.owner other id k p else'.0 is) (r.housed.outs p u j x else'.2 out)
              ]
            ];
        apart = λ p u i j x y at' a b.
            elim (after_join s.views id other both view_spent p u at').seat [
              | inl gone ↦ absurd (some-ne-none x (sym (subst (λ (z : View). get_elem? z.outs i ≡ some x) (sym gone.1) a)))
              | inr kept ↦ elim kept [
                | inl mine ↦ r.housed.apart id v i j x y at (subst (λ (z : View). get_elem? z.outs i ≡ some x) (sym mine.2) a) (subst (λ (z : View). get_elem? z.outs j ≡ some y) (sym mine.2) b)
                | inr else' ↦ r.housed.apart p u i j x y else'.2 a b
              ]
            ];
        bodies = λ i l shared lives.
            ⊎_elim inl (λ (p, u, j, x, at', out, is).
            let away = away_not s.views other w p u j x there none_out at' out in
            elim (cases_eq p id) [
              | inl same ↦
                  (let isv : u ≡ v = some-injective u v (sym (subst (λ (n : ℕ). get_elem? s.views n ≡ some u) same at') ∙ at) in
                  inr (id, both, j, x, set_else (set s.views id both) other id view_spent apart' ∙ set_here s.views id both (at_below s.views id v at), subst (λ (y : View). get_elem? y.outs j ≡ some x) isv out, is))
              | inr ne ↦ inr (p, u, j, x, set_else (set s.views id both) other p view_spent away ∙ (set_else s.views id p both ne ∙ at'), out, is)
            ]) (r.housed.bodies i l shared lives);
      };
    }
