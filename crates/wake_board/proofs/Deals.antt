-- Passes are dealt one by one, and gathered again.
use Rattle.std.proofs.Common.{◌≡◌, ℕ, suc, ◌+◌, ◌-◌, ◌<◌, ◌≤◌, Option, Some, None, List, [], ◌∷◌, ◌++◌, replicate, length, get_or, refl, sym, ap, subst, ◌∙◌, inl, inr, arith, length-append}
use Rattle.std.proofs.Math.ListN.{get_or-append}
use Rattle.std.proofs.Math.Seq.{get_or-append_seam}
use Rattle.std.proofs.lemmas.Bool.{cases_eq}
use mathlib.Core.Option as table
use lib.ListN.{get_elem?}
use Rattle.atomic_table.specs.Table.{Me, Splits}
use Rattle.atomic_table.specs.Seated.{TableId}
use Rattle.atomic_table.specs.declared.shared.Seat.{Seat}
use Rattle.task_machine.specs.declared.calls.Entry.{Entry}
use Rattle.wake_board.specs.declared.body.Body.{Body}
use Rattle.wake_board.specs.declared.views.Opening.{Opening}
use Rattle.wake_board.specs.declared.views.Out.{Out}
use Rattle.wake_board.specs.declared.views.View.{View}
use Rattle.wake_board.specs.Start.{start_of}
use Rattle.wake_board.specs.Rule.{IsKept}
use Rattle.wake_board.specs.Seen.{Held, view_left, view_right, view_both}
use Rattle.wake_board.specs.Outs.{Carries}
use Rattle.wake_board.specs.Own.{held_by, IsPass}
use Rattle.wake_board.specs.Ends.{fresh}
use Rattle.wake_board.specs.Gathered.{IsSeatOf, Gathers}
use Rattle.wake_board.proofs.Splits.{splits}
use Rattle.wake_board.proofs.Tables.{at_behind, at_front}
use Rattle.std.proofs.lemmas.List.{get_or_past}

-- the view of the seat that has the empty logs of n callers from `first` on
abbrev pub view_from : Opening → ℕ → ℕ → View
view_from o first n = record { start = Some o; first = first; logs = replicate n []; misses = []; outs = [] }

pub splits_from : (o : Opening) (id : ℕ) (v : View) (first n : ℕ) → v ≡ view_from o first (suc n) → Splits (IsKept o) id v (view_left v) (view_right v)
splits_from o id v first n is =
    splits o id v [] (replicate n []) (ap (λ (x : View). x.logs) is) (ap (λ (x : View). x.outs) is)

pub left_from : (o : Opening) (me new : Me Body View) (first n : ℕ) → me ≡ (view_from o first (suc n), []) → new ≡ (view_left me.0, me.1) → new ≡ (view_from o (suc first) n, [])
left_from o me new first n is left =
    left ∙ ap (λ (x : Me Body View). let y : Me Body View = (view_left x.0, x.1) in y) is

right_from : (o : Opening) (me new : Me Body View) (first n : ℕ) → me ≡ (view_from o first (suc n), []) → new ≡ (view_right me.0, []) → new ≡ (view_from o first 1, [])
right_from o me new first n is right =
    right ∙ ap (λ (x : Me Body View). let y : Me Body View = (view_right x.0, []) in y) is

-- a seat that was just cut off is a pass's
pub IsPass-fresh : (o : Opening) (me new : Me Body View) (first n : ℕ) → me ≡ (view_from o first (suc n), []) → new ≡ (view_right me.0, []) → IsPass first new
IsPass-fresh o me new first n is right =
    let there : IsPass first (view_from o first 1, []) = record { log = refl; number = refl; slots = tt } in
    subst (IsPass first) (sym (right_from o me new first n is right)) there

pub held-fresh : (o : Opening) (board later : TableId) (me new : Me Body View) (first n : ℕ) → later ≡ board → me ≡ (view_from o first (suc n), []) → new ≡ (view_right me.0, []) → held_by later first new.0 ≡ fresh (record { board = board; start = start_of o }) first
held-fresh o board later me new first n same is right =
    ap (λ (b : TableId). held_by b first new.0) same ∙ ap (λ (x : Me Body View). held_by board first x.0) (right_from o me new first n is right)

-- one more at the end of a list of places
pub each_more : (P : ℕ → Option Held → Type 0) (xs : List (Option Held)) (x : Option Held) (n : ℕ) → length xs ≡ n → ((j : ℕ) → j < n → P j (get_or xs j None)) → P n x → (j : ℕ) → j < n + 1 → P j (get_or (xs ++ x ∷ []) j None)
each_more P xs x n count each last j l =
    elim (cases_eq j n) [
      | inl same ↦ subst (λ (k : ℕ). P k (get_or (xs ++ x ∷ []) k None)) (sym same) (subst (λ (k : ℕ). P n (get_or (xs ++ x ∷ []) k None)) count (subst (P n) (sym (get_or-append_seam xs x [] None)) last))
      | inr ne ↦ subst (P j) (sym (get_or-append xs (x ∷ []) None j (omega arith))) (each j (omega arith))
    ]

carries_none : (xs : List (ℕ × Body)) (outs : List Out) → Carries xs outs → outs ≡ [] → xs ≡ []
carries_none [] outs c e = refl
carries_none (x ∷ xs) [] c e = absurd c
carries_none (x ∷ xs) (y ∷ ys) c e = cc

-- the seat of a pass
pub IsSeatOf-held : (seat : Seat Body View) (who : ℕ) (p : Held) → held_by seat.table_id who seat.me.0 ≡ p → IsPass who seat.me → IsSeatOf p seat
IsSeatOf-held seat who p is r =
    let there : IsSeatOf (held_by seat.table_id who seat.me.0) seat = record {
      board = refl;
      first = r.number;
      log = r.log;
      misses = refl;
      outs = refl;
      slots = carries_none seat.me.1 seat.me.0.outs r.slots;
    } in
    subst (λ (h : Held). IsSeatOf h seat) is there

pub some_same : (a b : Held) → Some a ≡ Some b → a ≡ b
some_same a b e = cc

-- the last of some places that are the first of all
pub record Popped (all ys : List (Option Held)) (x : Option Held) : Type 0 where
  pub last : x ≡ get_or all (length ys) None
  pub left : (j : ℕ) → j < length ys → get_or ys j None ≡ get_or all j None

pub popped : (all xs ys : List (Option Held)) (x : Option Held) → ((j : ℕ) → j < length xs → get_or xs j None ≡ get_or all j None) → xs ≡ ys ++ x ∷ [] → Popped all ys x
popped all xs ys x left is =
    let count : length xs ≡ length ys + 1 = ap length is ∙ length-append ys (x ∷ []) in
    record {
      last = sym (get_or-append_seam ys x [] None) ∙ (ap (λ (l : List (Option Held)). get_or l (length ys) None) (sym is) ∙ left (length ys) (omega arith));
      left = λ j l. sym (get_or-append ys (x ∷ []) None j l) ∙ (ap (λ (zs : List (Option Held)). get_or zs j None) (sym is) ∙ left j (omega arith));
    }

pub some_head : (l : List (List Entry)) → 0 < length l → (es : List Entry) × (ess : List (List Entry)) × (l ≡ es ∷ ess)
some_head [] h = absurd (omega arith)
some_head (x ∷ xs) h = (x, xs, refl)

-- the seat of the last pass
pub gathers-last : (all : List (Option Held)) (n : ℕ) (v : View) (p : Held) → length all ≡ suc n → get_or all n None ≡ Some p → v.first ≡ n → v.logs ≡ p.entries ∷ [] → v.misses ≡ p.misses → Gathers all n v
gathers-last all n v p count here first log misses =
    let only : (k : ℕ) (q : Held) → n ≤ k → get_or all k None ≡ Some q → (k ≡ n) × (p ≡ q) = λ k q l at.
    elim (cases_eq k n) [
      | inl same ↦ (same, some_same p q (sym here ∙ (ap (λ (i : ℕ). get_or all i None) (sym same) ∙ at)))
      | inr ne ↦ (let none' : get_or all k None ≡ None = get_or_past all k None (omega arith) in absurd (some_none q (sym at ∙ none')))
    ] in
    record {
      first = first;
      count = ap (λ (l : List (List Entry)). length l + n) log ∙ (let z : 1 + n ≡ suc n = omega arith in z ∙ sym count);
      logs = λ k q l at.
          let o = only k q l at in
          let z : k - n ≡ 0 = (let e = o.0 in omega arith) in
          subst (λ (i : ℕ). get_elem? v.logs i ≡ table.some q.entries) (sym z) (subst (λ (ls : List (List Entry)). get_elem? ls 0 ≡ table.some q.entries) (sym log) (ap (λ (x : Held). table.some x.entries) o.1));
      misses = λ k j i q l at miss.
          let o = only k q l at in
          (j, subst (λ (ms : List ℕ). get_elem? ms j ≡ table.some i) (sym misses) (subst (λ (x : Held). get_elem? x.misses j ≡ table.some i) (sym o.1) miss));
    }
  where
    some_none : (q : Held) → Some q ≡ None → ⊥
    some_none q e = cc

-- one more pass is taken in
pub gathers-more : (all : List (Option Held)) (n : ℕ) (v w : View) (p : Held) → Gathers all (suc n) v → get_or all n None ≡ Some p → w.first ≡ n → w.logs ≡ p.entries ∷ [] → w.misses ≡ p.misses → Gathers all n (view_both v w)
gathers-more all n v w p r here first log misses =
    let logs : w.logs ++ v.logs ≡ p.entries ∷ v.logs = ap (λ (l : List (List Entry)). l ++ v.logs) log in
    let count = r.count in
    record {
      first = first;
      count = ap (λ (l : List (List Entry)). length l + n) logs ∙ (let z : suc (length v.logs) + n ≡ length v.logs + suc n = omega arith in z ∙ count);
      logs = λ k q l at.
          subst (λ (ls : List (List Entry)). get_elem? ls (k - n) ≡ table.some q.entries) (sym logs) (elim (cases_eq k n) [
            | inl same ↦
                (let z : k - n ≡ 0 = omega arith in
                let is : p ≡ q = some_same p q (sym here ∙ (ap (λ (i : ℕ). get_or all i None) (sym same) ∙ at)) in
                subst (λ (i : ℕ). get_elem? (p.entries ∷ v.logs) i ≡ table.some q.entries) (sym z) (ap (λ (x : Held). table.some x.entries) is))
            | inr ne ↦
                (let z : k - n ≡ suc (k - suc n) = omega arith in
                subst (λ (i : ℕ). get_elem? (p.entries ∷ v.logs) i ≡ table.some q.entries) (sym z) (r.logs k q (omega arith) at))
          ]);
      misses = λ k j i q l at miss.
          elim (cases_eq k n) [
            | inl same ↦
                (let is : p ≡ q = some_same p q (sym here ∙ (ap (λ (x : ℕ). get_or all x None) (sym same) ∙ at)) in
                (length v.misses + j, at_behind v.misses w.misses j i (subst (λ (ms : List ℕ). get_elem? ms j ≡ table.some i) (sym misses) (subst (λ (x : Held). get_elem? x.misses j ≡ table.some i) (sym is) miss))))
            | inr ne ↦
                (let m = r.misses k j i q (omega arith) at miss in
                (m.0, at_front v.misses w.misses m.0 i m.1))
          ];
    }
