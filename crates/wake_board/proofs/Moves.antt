-- A call adds one entry to the history, and to the log of its caller.
use Rattle.std.proofs.Common.{◌≡◌, ◌≢◌, ℕ, suc, ◌+◌, ◌≤◌, Bool, if◌then◌else◌, Some, List, [], ◌∷◌, ◌++◌, length, set, refl, sym, ap, subst, ◌∙◌, inl, inr, ⊎_elim, arith, eq-eqb, ne_eqb, append-nil}
use Rattle.std.proofs.lemmas.Bool.{cases_eq}
use mathlib.Core.Option.{Option, some, some-injective}
use lib.ListN.{get_elem?}
use Rattle.atomic_table.specs.Table as table
use Rattle.atomic_table.proofs.Lists.{at_set, set_here, set_else}
use Rattle.task_machine.specs.declared.task.Place.TheVariants as places
use Rattle.task_machine.specs.declared.calls.Call.{Call}
use Rattle.task_machine.specs.declared.calls.Reply.{Reply}
use Rattle.task_machine.specs.declared.calls.Entry.{Entry}
use Rattle.task_machine.specs.Step.{State, task_at, Allowed}
use Rattle.task_machine.specs.History.{stepped, calls_of}
use Rattle.task_machine.proofs.Histories.{led-append, Legal-append, calls_of-append}
use Rattle.wake_board.specs.declared.body.Body.{Body}
use Rattle.wake_board.specs.declared.views.Opening.{Opening}
use Rattle.wake_board.specs.declared.views.View.{View}
use Rattle.wake_board.specs.Start.{Start, start_of, start_in}
use Rattle.wake_board.specs.Rule.{now_of, Worded, TakesAtHome, IsPaced, Paced, IsLogged, IsSeated, HasDraw, Housed, IsKept}
use Rattle.wake_board.specs.Seen.{entry_by, own_log, logged, Attests}
use Rattle.wake_board.proofs.Tables.{at_below, at_end, at_front, at_single}

pub Paced-append : (o : Start) (n : ℕ) (xs : List Entry) (e : Entry) → Paced o n xs → IsPaced o (n + length xs) e.call → Paced o n (xs ++ e ∷ [])
Paced-append o n [] e h p = let z : n + 0 ≡ n = omega arith in (subst (λ (k : ℕ). IsPaced o k e.call) z p, tt)
Paced-append o n (x ∷ xs) e h p =
    let z : n + suc (length xs) ≡ suc n + length xs = omega arith in
    (h.0, Paced-append o (suc n) xs e h.1 (subst (λ (k : ℕ). IsPaced o k e.call) z p))

-- the calls of a caller after one more entry
pub calls_of-own : (h : List Entry) (e : Entry) → calls_of e.caller.0 (h ++ e ∷ []) ≡ calls_of e.caller.0 h ++ e ∷ []
calls_of-own h e =
    calls_of-append e.caller.0 h (e ∷ []) ∙ ap (λ (b : Bool). calls_of e.caller.0 h ++ (if b then e ∷ [] else [])) (eq-eqb e.caller.0 e.caller.0 refl)

pub calls_of-other : (k : ℕ) (h : List Entry) (e : Entry) → k ≢ e.caller.0 → calls_of k (h ++ e ∷ []) ≡ calls_of k h
calls_of-other k h e ne =
    calls_of-append k h (e ∷ []) ∙ (ap (λ (b : Bool). calls_of k h ++ (if b then e ∷ [] else [])) (ne_eqb e.caller.0 k (λ same. ne (sym same))) ∙ append-nil (calls_of k h))

pub now-after : (o : Start) (h : List Entry) (e : Entry) → now_of o (h ++ e ∷ []) ≡ stepped (now_of o h) e
now-after o h e = led-append o.state h (e ∷ [])

pub HasDraw-more : (i : ℕ) (h : List Entry) (e : Entry) → HasDraw i h → HasDraw i (h ++ e ∷ [])
HasDraw-more i h e (j, d, at, is) = (j, d, at_front h (e ∷ []) j d at, is)

-- a seat with one log has the calls of its caller
pub own_calls : (o : Opening) (s : table.State Body View) (r : IsKept o s) (id : ℕ) (v : View) → get_elem? s.views id ≡ some v → v.logs ≡ own_log v.logs ∷ [] → IsLogged o r.owner r.history id v 0 (own_log v.logs)
own_calls o s r id v at one =
    r.logs id v 0 (own_log v.logs) at (subst (λ (l : List (List Entry)). get_elem? l 0 ≡ some (own_log v.logs)) (sym one) refl)

-- the caller of a seat with one log
pub own_first : (o : Opening) (s : table.State Body View) (r : IsKept o s) (id : ℕ) (v : View) → get_elem? s.views id ≡ some v → v.logs ≡ own_log v.logs ∷ [] → (r.owner v.first ≡ id) × (v.first ≤ (start_of o).state.workers) × (calls_of v.first r.history ≡ own_log v.logs) × (v.start ≡ Some o)
own_first o s r id v at one =
    let l = own_calls o s r id v at one in
    let z : v.first + 0 ≡ v.first = omega arith in (
      subst (λ (n : ℕ). r.owner n ≡ id) z l.owned,
      subst (λ (n : ℕ). n ≤ (start_of o).state.workers) z l.caller,
      subst (λ (n : ℕ). calls_of n r.history ≡ own_log v.logs) z l.calls,
      l.start,
    )

-- the logs after a call
logs_after : (o : Opening) (s : table.State Body View) (r : IsKept o s) (id : ℕ) (v : View) (e : Entry) → get_elem? s.views id ≡ some v → v.logs ≡ own_log v.logs ∷ [] → e.caller.0 ≡ v.first → (p : ℕ) (u : View) (j : ℕ) (es : List Entry) → get_elem? (set s.views id (logged v e)) p ≡ some u → get_elem? u.logs j ≡ some es → IsLogged o r.owner (r.history ++ e ∷ []) p u j es
logs_after o s r id v e at one who p u j es at' log =
    let own = own_first o s r id v at one in
    elim (at_set s.views id p (logged v e) u at') [
      | inl here ↦
          (let log' : get_elem? ((own_log v.logs ++ e ∷ []) ∷ []) j ≡ some es = subst (λ (z : View). get_elem? z.logs j ≡ some es) (sym here.1) log in
          let only = at_single (own_log v.logs ++ e ∷ []) es j log' in
          let w : View = logged v e in
          let z : v.first + 0 ≡ v.first = omega arith in
          let made : IsLogged o r.owner (r.history ++ e ∷ []) id w 0 (own_log v.logs ++ e ∷ []) = record {
            start = own.3;
            owned = subst (λ (n : ℕ). r.owner n ≡ id) (sym z) own.0;
            caller = subst (λ (n : ℕ). n ≤ (start_of o).state.workers) (sym z) own.1;
            calls = ap (λ (n : ℕ). calls_of n (r.history ++ e ∷ [])) (z ∙ sym who) ∙ (calls_of-own r.history e ∙ ap (λ (l : List Entry). l ++ e ∷ []) (ap (λ (n : ℕ). calls_of n r.history) who ∙ own.2));
          } in
          let M : (n : ℕ) (y : View) (k : ℕ) (l : List Entry) → Type 0 = λ n y k l. IsLogged o r.owner (r.history ++ e ∷ []) n y k l in
          subst (λ (n : ℕ). M n u j es) (sym here.0) (subst (λ (y : View). M id y j es) here.1 (subst (λ (k : ℕ). M id w k es) (sym only.0) (subst (M id w 0) only.1 made))))
      | inr else' ↦
          (let l = r.logs p u j es else'.1 log in
          let ne : u.first + j ≢ e.caller.0 = λ same. else'.0 (sym l.owned ∙ (ap r.owner (same ∙ who) ∙ own.0)) in
          record { start = l.start; owned = l.owned; caller = l.caller; calls = calls_of-other (u.first + j) r.history e ne ∙ l.calls })
    ]

-- each caller's log is still some seat's
seated_after : (views : List View) (id : ℕ) (v : View) (e : Entry) (k : ℕ) → get_elem? views id ≡ some v → v.logs ≡ own_log v.logs ∷ [] → IsSeated views k → IsSeated (set views id (logged v e)) k
seated_after views id v e k at one r =
    elim (cases_eq r.seat id) [
      | inl same ↦
          (let isv : r.view ≡ v = some-injective r.view v (sym (subst (λ (n : ℕ). get_elem? views n ≡ some r.view) same r.at) ∙ at) in
          let only = at_single (own_log v.logs) r.log r.place (subst (λ (l : List (List Entry)). get_elem? l r.place ≡ some r.log) one (subst (λ (u : View). get_elem? u.logs r.place ≡ some r.log) isv r.found)) in
          let first : v.first + r.place ≡ k = ap (λ (u : View). u.first + r.place) (sym isv) ∙ r.caller in
          record {
            seat = id;
            view = logged v e;
            place = 0;
            log = own_log v.logs ++ e ∷ [];
            at = set_here views id (logged v e) (at_below views id v at);
            found = refl;
            caller = subst (λ (n : ℕ). v.first + n ≡ k) only.0 first;
          })
      | inr ne ↦ record { seat = r.seat; view = r.view; place = r.place; log = r.log; at = set_else views id r.seat (logged v e) ne ∙ r.at; found = r.found; caller = r.caller }
    ]

-- no caller's pace is lost by a call that keeps its own
paced_after : (o : Start) (h : List Entry) (e : Entry) → ((k : ℕ) → Paced o 0 (calls_of k h)) → IsPaced o (length (calls_of e.caller.0 h)) e.call → (k : ℕ) → Paced o 0 (calls_of k (h ++ e ∷ []))
paced_after o h e r p k =
    elim (cases_eq k e.caller.0) [
      | inl same ↦
          (let z : length (calls_of e.caller.0 h) ≡ 0 + length (calls_of e.caller.0 h) = omega arith in
          subst (λ (n : ℕ). Paced o 0 (calls_of n (h ++ e ∷ []))) (sym same) (subst (Paced o 0) (sym (calls_of-own h e)) (Paced-append o 0 (calls_of e.caller.0 h) e (r e.caller.0) (subst (λ (n : ℕ). IsPaced o n e.call) z p))))
      | inr ne ↦ subst (Paced o 0) (sym (calls_of-other k h e ne)) (r k)
    ]

-- the misses of each view were drawn, also after one more entry
missed_after : (o : Opening) (s : table.State Body View) (r : IsKept o s) (id : ℕ) (v : View) (e : Entry) → get_elem? s.views id ≡ some v → (p : ℕ) (u : View) (j i : ℕ) → get_elem? (set s.views id (logged v e)) p ≡ some u → get_elem? u.misses j ≡ some i → (task_at (start_of o).state i).place ≡ places.Boxed (start_of o).state.workers → HasDraw i (r.history ++ e ∷ [])
missed_after o s r id v e at p u j i at' miss boxed =
    elim (at_set s.views id p (logged v e) u at') [
      | inl here ↦ HasDraw-more i r.history e (r.missed id v j i at (subst (λ (z : View). get_elem? z.misses j ≡ some i) (sym here.1) miss) boxed)
      | inr else' ↦ HasDraw-more i r.history e (r.missed p u j i else'.1 miss boxed)
    ]

-- an allowed entry of a seat's caller, with the words and the bodies after it, keeps the rule
pub kept-call : (o : Opening) (s : table.State Body View) (r : IsKept o s) (id : ℕ) (v : View) (e : Entry) (words : List ℕ) (homes : List (Option Body)) → get_elem? s.views id ≡ some v → v.logs ≡ own_log v.logs ∷ [] → e.caller.0 ≡ v.first → Allowed (now_of (start_of o) r.history) e → TakesAtHome (start_of o) e.caller e.call → IsPaced (start_of o) (length (own_log v.logs)) e.call → Worded (start_of o) words (stepped (now_of (start_of o) r.history) e) → Housed (start_of o) r.owner (stepped (now_of (start_of o) r.history) e) homes (set s.views id (logged v e)) → IsKept o (record { words = words; homes = homes; views = set s.views id (logged v e) })
kept-call o s r id v e words homes at one who allowed home pace worded housed =
    let own = own_first o s r id v at one in
    let now = now-after (start_of o) r.history e in
    record {
      history = r.history ++ e ∷ [];
      owner = r.owner;
      legal = Legal-append (start_of o).state r.history (e ∷ []) r.legal (allowed, tt);
      opened = r.opened;
      few = r.few;
      words = subst (Worded (start_of o) words) (sym now) worded;
      takes = λ j d a. ⊎_elim (λ b. r.takes j d b) (λ b. subst (λ (x : Entry). TakesAtHome (start_of o) x.caller x.call) b.1 home) (at_end r.history e d j a);
      paced = paced_after (start_of o) r.history e r.paced (subst (λ (l : List Entry). IsPaced (start_of o) (length l) e.call) (sym (ap (λ (n : ℕ). calls_of n r.history) who ∙ own.2)) pace);
      logs = logs_after o s r id v e at one who;
      seated = λ k l. seated_after s.views id v e k at one (r.seated k l);
      missed = missed_after o s r id v e at;
      housed = subst (λ (m : State). Housed (start_of o) r.owner m homes (set s.views id (logged v e))) (sym now) housed;
    }

-- what the entry attests
pub attests-call : (o : Opening) (s : table.State Body View) (r : IsKept o s) (id : ℕ) (v : View) (c : Call) (a : Reply) → get_elem? s.views id ≡ some v → v.logs ≡ own_log v.logs ∷ [] → Allowed (now_of (start_of o) r.history) (entry_by v.first c a) → Attests (start_in v.start) v.first c a (own_log v.logs ++ entry_by v.first c a ∷ [])
attests-call o s r id v c a at one allowed =
    let own = own_first o s r id v at one in
    let e : Entry = entry_by v.first c a in
    let start : Start = start_in v.start in
    let is : start_of o ≡ start = ap start_in (sym own.3) in
    let there : Attests (start_of o) v.first c a (own_log v.logs ++ e ∷ []) = (r.history, Legal-append (start_of o).state r.history (e ∷ []) r.legal (allowed, tt), calls_of-own r.history e ∙ ap (λ (l : List Entry). l ++ e ∷ []) own.2) in
    subst (λ (x : Start). Attests x v.first c a (own_log v.logs ++ e ∷ [])) is there
