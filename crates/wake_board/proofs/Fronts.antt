-- One of the slots that a seat has comes before its others, by giving back and taking again.
use Rattle.std.proofs.Common.{◌≡◌, ◌≢◌, ℕ, zero, suc, ◌<◌, if◌then◌else◌, Bool, List, [], ◌∷◌, length, set, refl, sym, ap, subst, ◌∙◌, inl, inr, arith, eq-eqb, ne_eqb}
use Rattle.std.proofs.lemmas.Bool.{cases_eq}
use Rattle.std.proofs.Math.ListN.{length-set}
use mathlib.Core.Option.{Option, some, none, some-injective, some-ne-none}
use lib.ListN.{get_elem?}
use Rattle.atomic_table.specs.Table as table
use Rattle.atomic_table.proofs.Lists.{set_here, set_else, set_again}
use Rattle.wake_board.specs.declared.body.Body.{Body}
use Rattle.wake_board.specs.declared.views.Out.{Out}
use Rattle.wake_board.specs.Outs.{out_of, HasBody, NoBody, without, Carries}
use Rattle.wake_board.proofs.Tables.{at_below}

-- bodies that are out, of which no two are of one task
abbrev pub Apart : List Out → Type 0
Apart outs = (j k : ℕ) (x y : Out) → get_elem? outs j ≡ some x → get_elem? outs k ≡ some y → x.task ≡ y.task → j ≡ k

pub apart_rest : (x : Out) (xs : List Out) → Apart (x ∷ xs) → Apart xs
apart_rest x xs h j k y z a b same =
    let e : suc j ≡ suc k = h (suc j) (suc k) y z a b same in omega arith

apart_first : (x : Out) (xs : List Out) → Apart (x ∷ xs) → NoBody xs x.task
apart_first x xs h j y a same =
    let e : suc j ≡ 0 = h (suc j) 0 y x a refl same in absurd (omega arith)

without_hit : (i : ℕ) (x : Out) (xs : List Out) → x.task ≡ i → without i (x ∷ xs) ≡ without i xs
without_hit i x xs h = ap (λ (b : Bool). if b then without i xs else x ∷ without i xs) (eq-eqb x.task i h)

without_else : (i : ℕ) (x : Out) (xs : List Out) → x.task ≢ i → without i (x ∷ xs) ≡ x ∷ without i xs
without_else i x xs h = ap (λ (b : Bool). if b then without i xs else x ∷ without i xs) (ne_eqb x.task i h)

-- what is left is what stood there of other tasks
pub in_without : (i : ℕ) (outs : List Out) (j : ℕ) (x : Out) → get_elem? (without i outs) j ≡ some x → (x.task ≢ i) × ((q : ℕ) × (get_elem? outs q ≡ some x))
in_without i [] j x a = absurd (some-ne-none x (sym a))
in_without i (y ∷ ys) j x a =
    elim (cases_eq y.task i) [
      | inl same ↦
          (let more = in_without i ys j x (subst (λ (l : List Out). get_elem? l j ≡ some x) (without_hit i y ys same) a) in
          (more.0, (suc more.1.0, more.1.1)))
      | inr ne ↦ kept (λ n b. in_without i ys n x b) ne j (subst (λ (l : List Out). get_elem? l j ≡ some x) (without_else i y ys ne) a)
    ]
  where
    kept : ((n : ℕ) → get_elem? (without i ys) n ≡ some x → (x.task ≢ i) × ((q : ℕ) × (get_elem? ys q ≡ some x))) → y.task ≢ i → (n : ℕ) → get_elem? (y ∷ without i ys) n ≡ some x → (x.task ≢ i) × ((q : ℕ) × (get_elem? (y ∷ ys) q ≡ some x))
    kept rest ne zero b = ((λ e. ne (ap (λ (z : Out). z.task) (some-injective y x b) ∙ e)), (0, b))
    kept rest ne (suc n) b = let more = rest n b in (more.0, (suc more.1.0, more.1.1))

-- and the other way
stays_in : (i : ℕ) (outs : List Out) (q : ℕ) (x : Out) → get_elem? outs q ≡ some x → x.task ≢ i → (j : ℕ) × (get_elem? (without i outs) j ≡ some x)
stays_in i [] q x a ne = absurd (some-ne-none x (sym a))
stays_in i (y ∷ ys) zero x a ne =
    let is : y ≡ x = some-injective y x a in
    let other : y.task ≢ i = λ e. ne (sym (ap (λ (z : Out). z.task) is) ∙ e) in
    (0, ap (λ (l : List Out). get_elem? l 0) (without_else i y ys other) ∙ a)
stays_in i (y ∷ ys) (suc q) x a ne =
    let more = stays_in i ys q x a ne in
    elim (cases_eq y.task i) [
      | inl same ↦ (more.0, ap (λ (l : List Out). get_elem? l more.0) (without_hit i y ys same) ∙ more.1)
      | inr other ↦ (suc more.0, ap (λ (l : List Out). get_elem? l (suc more.0)) (without_else i y ys other) ∙ more.1)
    ]

pub no_body_without : (i : ℕ) (outs : List Out) → NoBody (without i outs) i
no_body_without i outs j x a = (in_without i outs j x a).0

apart_cons : (x : Out) (xs : List Out) → NoBody xs x.task → Apart xs → Apart (x ∷ xs)
apart_cons x xs none_of h zero zero y z a b same = refl
apart_cons x xs none_of h zero (suc k) y z a b same =
    absurd (none_of k z b (sym same ∙ sym (ap (λ (o : Out). o.task) (some-injective x y a))))
apart_cons x xs none_of h (suc j) zero y z a b same =
    absurd (none_of j y a (same ∙ sym (ap (λ (o : Out). o.task) (some-injective x z b))))
apart_cons x xs none_of h (suc j) (suc k) y z a b same = ap suc (h j k y z a b same)

apart_without : (i : ℕ) (outs : List Out) → Apart outs → Apart (without i outs)
apart_without i [] h = h
apart_without i (x ∷ xs) h =
    let more = apart_without i xs (apart_rest x xs h) in
    elim (cases_eq x.task i) [
      | inl same ↦ subst Apart (sym (without_hit i x xs same)) more
      | inr ne ↦ subst Apart (sym (without_else i x xs ne)) (apart_cons x (without i xs) (λ j y a. (let old = in_without i xs j y a in apart_first x xs h old.1.0 y old.1.1)) more)
    ]

-- the bodies that are out with that of task i before the others
pub front_old : (i t : ℕ) (outs : List Out) → HasBody outs i t → (j : ℕ) (x : Out) → get_elem? (out_of i t ∷ without i outs) j ≡ some x → (q : ℕ) × (get_elem? outs q ≡ some x)
front_old i t outs has zero x a = (has.0, has.1 ∙ a)
front_old i t outs has (suc j) x a = (in_without i outs j x a).1

pub front_new : (i t : ℕ) (outs : List Out) → Apart outs → HasBody outs i t → (j : ℕ) (x : Out) → get_elem? outs j ≡ some x → (q : ℕ) × (get_elem? (out_of i t ∷ without i outs) q ≡ some x)
front_new i t outs h has j x a =
    elim (cases_eq x.task i) [
      | inl same ↦
          (let place : j ≡ has.0 = h j has.0 x (out_of i t) a has.1 same in
          (0, sym has.1 ∙ (ap (get_elem? outs) (sym place) ∙ a)))
      | inr ne ↦ (let more = stays_in i outs j x a ne in (suc more.0, more.1))
    ]

pub front_apart : (i t : ℕ) (outs : List Out) → Apart outs → Apart (out_of i t ∷ without i outs)
front_apart i t outs h = apart_cons (out_of i t) (without i outs) (no_body_without i outs) (apart_without i outs h)

no_others : (i : ℕ) (outs : List Out) → NoBody outs i → without i outs ≡ outs
no_others i [] h = refl
no_others i (x ∷ xs) h =
    without_else i x xs (h 0 x refl) ∙ ap (λ (l : List Out). x ∷ l) (no_others i xs (λ j y a. h (suc j) y a))

-- a list without what stands at a place
abbrev pub cut : ℕ → List (ℕ × Body) → List (ℕ × Body)
cut j [] = []
cut zero (x ∷ xs) = xs
cut (suc j) (x ∷ xs) = x ∷ cut j xs

-- the slot of a body that is out, and the other slots
pub record Carried (slots : List (ℕ × Body)) (outs : List Out) (i j : ℕ) : Type 0 where
  pub slot : ℕ × Body
  pub at : get_elem? slots j ≡ some slot
  pub task : slot.0 ≡ i
  pub others : Carries (cut j slots) (without i outs)

pub carried_at : (slots : List (ℕ × Body)) (outs : List Out) (i j : ℕ) (x : Out) → Carries slots outs → Apart outs → get_elem? outs j ≡ some x → x.task ≡ i → Carried slots outs i j
carried_at [] [] i j x c h a is = absurd (some-ne-none x (sym a))
carried_at [] (y ∷ ys) i j x c h a is = absurd c
carried_at (s ∷ ss) [] i j x c h a is = absurd c
carried_at (s ∷ ss) (y ∷ ys) i zero x c h a is =
    let here : y.task ≡ i = ap (λ (z : Out). z.task) (some-injective y x a) ∙ is in
    let left : without i (y ∷ ys) ≡ ys = without_hit i y ys here ∙ no_others i ys (subst (NoBody ys) here (apart_first y ys h)) in
    record { slot = s; at = refl; task = c.0 ∙ here; others = subst (Carries ss) (sym left) c.1 }
carried_at (s ∷ ss) (y ∷ ys) i (suc j) x c h a is =
    let more = carried_at ss ys i j x c.1 (apart_rest y ys h) a is in
    let ne : y.task ≢ i = λ e. apart_first y ys h j x a (is ∙ sym e) in
    record { slot = more.slot; at = more.at; task = more.task; others = subst (Carries (s ∷ cut j ss)) (sym (without_else i y ys ne)) (c.0, more.others) }

-- each slot is that of a body that is out
pub slot_of : (slots : List (ℕ × Body)) (outs : List Out) (j : ℕ) (s : ℕ × Body) → Carries slots outs → get_elem? slots j ≡ some s → (x : Out) × (get_elem? outs j ≡ some x) × (s.0 ≡ x.task)
slot_of [] outs j s c a = absurd (some-ne-none s (sym a))
slot_of (y ∷ ys) [] j s c a = absurd c
slot_of (y ∷ ys) (x ∷ xs) zero s c a = (x, refl, sym (ap (λ (z : ℕ × Body). z.0) (some-injective y s a)) ∙ c.0)
slot_of (y ∷ ys) (x ∷ xs) (suc j) s c a = slot_of ys xs j s c.1 a

module _ {A : Type 0} where
  set_twice : (l : List A) (i : ℕ) (a b : A) → set (set l i a) i b ≡ set l i b
  set_twice [] i a b = refl
  set_twice (x ∷ xs) zero a b = refl
  set_twice (x ∷ xs) (suc i) a b = ap (λ (l : List A). x ∷ l) (set_twice xs i a b)

  set_swap : (l : List A) (i j : ℕ) (a b : A) → i ≢ j → set (set l i a) j b ≡ set (set l j b) i a
  set_swap [] i j a b ne = refl
  set_swap (x ∷ xs) zero zero a b ne = absurd (ne refl)
  set_swap (x ∷ xs) zero (suc j) a b ne = refl
  set_swap (x ∷ xs) (suc i) zero a b ne = refl
  set_swap (x ∷ xs) (suc i) (suc j) a b ne = ap (λ (l : List A). x ∷ l) (set_swap xs i j a b (λ e. ne (ap suc e)))

-- two slots that are given back and taken again are away as before
round_trip : (hs : List (Option Body)) (i j : ℕ) (a b : Option Body) → i ≢ j → get_elem? hs i ≡ some none → get_elem? hs j ≡ some none → set (set (set (set hs i a) j b) i none) j none ≡ hs
round_trip hs i j a b ne hi hj =
    let one : set (set (set hs i a) j b) i none ≡ set hs j b = set_swap (set hs i a) j i b none (λ e. ne (sym e)) ∙ (ap (λ (l : List (Option Body)). set l j b) (set_twice hs i a none ∙ set_again hs i none hi)) in
    ap (λ (l : List (Option Body)). set l j none) one ∙ (set_twice hs j b none ∙ set_again hs j none hj)

-- an act that brings a slot before the others and leaves homes as they are
pub record Fronted (homes : List (Option Body)) (slots : List (ℕ × Body)) (j : ℕ) (z : ℕ × Body) : Type 0 where
  pub act : table.Act Body
  pub valid : table.Valid homes slots act
  pub homes_are : table.homes_after homes slots act ≡ homes
  pub slots_are : table.carried_after slots act ≡ z ∷ cut j slots

pub fronted : (homes : List (Option Body)) (slots : List (ℕ × Body)) (j : ℕ) (z : ℕ × Body) → get_elem? slots j ≡ some z → ((q : ℕ) (y : ℕ × Body) → get_elem? slots q ≡ some y → get_elem? homes y.0 ≡ some none) → ((p q : ℕ) (x y : ℕ × Body) → get_elem? slots p ≡ some x → get_elem? slots q ≡ some y → x.0 ≡ y.0 → p ≡ q) → Fronted homes slots j z
fronted homes [] j z a away apart = absurd (some-ne-none z (sym a))
fronted homes (x ∷ xs) zero z a away apart =
    record { act = table.keeps; valid = tt; homes_are = refl; slots_are = ap (λ (y : ℕ × Body). y ∷ xs) (some-injective x z a) }
fronted homes (x ∷ xs) (suc j) z a away apart =
    let left : List (Option Body) = set homes x.0 (some x.1) in
    let others : (q : ℕ) (y : ℕ × Body) → get_elem? xs q ≡ some y → y.0 ≢ x.0 = λ q y b same. (let e : suc q ≡ 0 = apart (suc q) 0 y x b refl same in absurd (omega arith)) in
    let more = fronted left xs j z a (λ q y b. set_else homes x.0 y.0 (some x.1) (others q y b) ∙ away (suc q) y b) (λ p q y w b d same. (let e : suc p ≡ suc q = apart (suc p) (suc q) y w b d same in omega arith)) in
    let again : table.Act Body = table.chain table.gives (table.chain (table.takes x.0 x.1) (table.takes z.0 z.1)) in
    let ne : z.0 ≢ x.0 = others j z a in
    let none_x : get_elem? homes x.0 ≡ some none = away 0 x refl in
    let none_z : get_elem? homes z.0 ≡ some none = away (suc j) z a in
    let back : List (Option Body) = set left z.0 (some z.1) in
    let there_x : get_elem? back x.0 ≡ some (some x.1) = set_else left z.0 x.0 (some z.1) (λ e. ne (sym e)) ∙ set_here homes x.0 (some x.1) (at_below homes x.0 none none_x) in
    let below_z : z.0 < length left = (let l = length-set homes x.0 (some x.1) in let b = at_below homes z.0 none none_z in omega arith) in
    let there_z : get_elem? (set back x.0 none) z.0 ≡ some (some z.1) = set_else back x.0 z.0 none ne ∙ set_here left z.0 (some z.1) below_z in
    let P : List (Option Body) → List (ℕ × Body) → Type 0 = λ h c. table.Valid h c again × (table.homes_after h c again ≡ homes) × (table.carried_after c again ≡ z ∷ x ∷ cut j xs) in
    let here : P left (z ∷ cut j xs) = ((tt, (there_x, there_z)), round_trip homes x.0 z.0 (some x.1) (some z.1) (λ e. ne (sym e)) none_x none_z, refl) in
    let after : P (table.homes_after left xs more.act) (table.carried_after xs more.act) = subst (λ (h : List (Option Body)). P h (table.carried_after xs more.act)) (sym more.homes_are) (subst (P left) (sym more.slots_are) here) in
    record {
      act = table.chain table.gives (table.chain more.act again);
      valid = (tt, (more.valid, after.0));
      homes_are = after.1;
      slots_are = after.2;
    }
