-- Lists linked inside a vector: joining one, and leaving it.
use Rattle.std.proofs.Common.{◌≡◌, ◌≢◌, ℕ, zero, suc, ◌+◌, ◌-◌, ◌<◌, ◌≤◌, Bool, true, false, ◌||◌, ◌==◌, if◌then◌else◌, refl, sym, ap, ◌∙◌, arith, ne_eqb, eq-eqb, List, [], ◌∷◌, ◌++◌, drop, inl, inr, length, get_or, set, subst}
use Rattle.std.specs.List.{list_any}
use Rattle.std.proofs.lemmas.Bool.{cases_eq}
use Rattle.std.proofs.lemmas.List.{get_or-set_same, get_or-set_other}
use Rattle.tasklet_lists.specs.declared.tasklet_lists.Ends.{Ends}
use Rattle.tasklet_lists.specs.ClassLists.{stands_in}
use Rattle.tasklet_lists.specs.Links.{linked, list_of, times, EndsAt, joined, joined_ends}

times_hit : (x i : ℕ) (is : List ℕ) → x ≡ i → times x (i ∷ is) ≡ 1 + times x is
times_hit x i is e = rw (eq-eqb x i e)

times_miss : (x i : ℕ) (is : List ℕ) → x ≢ i → times x (i ∷ is) ≡ times x is
times_miss x i is ne = rw (ne_eqb x i ne) (omega arith)

pub times-push : (x i : ℕ) (is : List ℕ) → times x (is ++ i ∷ []) ≡ times x is + (if x == i then 1 else 0)
times-push x i [] = omega arith
times-push x i (j ∷ js) = omega (arith, times-push x i js)

pub times-absent : (x : ℕ) (is : List ℕ) → stands_in x is ≡ false → times x is ≡ 0
times-absent x [] h = refl
times-absent x (i ∷ is) h =
    elim (cases_eq x i) [
      | inl same ↦ let hit = eq-eqb x i same in let other : true ≡ false = rw hit at h in cc
      | inr ne ↦ let miss = ne_eqb x i ne in let rest : stands_in x is ≡ false = rw miss at h in times_miss x i is ne ∙ times-absent x is rest
    ]

pub length-linked : (f : List ℕ) (i n : ℕ) → length (linked f i n) ≡ n
length-linked f i zero = refl
length-linked f i (suc n) = ap suc (length-linked f (get_or f i 0) n)

-- a list with a task is its first one and those that follow
pub linked-first : (f : List ℕ) (i n : ℕ) → 0 < n → linked f i n ≡ i ∷ linked f (get_or f i 0) (n - 1)
linked-first f i zero h = absurd (omega arith)
linked-first f i (suc n) h = let e : suc n - 1 ≡ n = omega arith in rw e refl

-- the last task stands in its list
pub last-stands : (x i : ℕ) (js : List ℕ) → EndsAt x (i ∷ js) → 1 ≤ times x (i ∷ js)
last-stands x i [] h = omega (arith, times_hit x i [] (sym h))
last-stands x i (j ∷ js) h = omega (arith, last-stands x j js h)

pub EndsAt-push : (x : ℕ) (is : List ℕ) → EndsAt x (is ++ x ∷ [])
EndsAt-push x [] = refl
EndsAt-push x (i ∷ []) = refl
EndsAt-push x (i ∷ (j ∷ js)) = EndsAt-push x (j ∷ js)

pub EndsAt-rest : (x : ℕ) (is : List ℕ) → EndsAt x is → EndsAt x (drop 1 is)
EndsAt-rest x [] h = tt
EndsAt-rest x (i ∷ []) h = tt
EndsAt-rest x (i ∷ (j ∷ js)) h = h

-- a write to the place of a task that is not in a list leaves the list alone
linked-set : (f : List ℕ) (i n x v : ℕ) → times x (linked f i n) ≡ 0 → linked (set f x v) i n ≡ linked f i n
linked-set f i zero x v h = refl
linked-set f i (suc n) x v h =
    elim (cases_eq x i) [
      | inl same ↦ absurd (omega (arith, times_hit x i (linked f (get_or f i 0) n) same))
      | inr ne ↦
          rw (get_or-set_other f x i v 0 (λ e. ne (sym e))) (ap (λ js. i ∷ js) (linked-set f (get_or f i 0) n x v (sym (times_miss x i (linked f (get_or f i 0) n) ne) ∙ h)))
    ]

-- a write to the place of the last task adds what is written at the end
linked-join : (f : List ℕ) (i n x v : ℕ) → EndsAt x (linked f i (suc n)) → times x (linked f i (suc n)) ≤ 1 → x < length f → linked (set f x v) i (suc (suc n)) ≡ linked f i (suc n) ++ v ∷ []
linked-join f i zero x v h once lt =
    let there : get_or (set f x v) i 0 ≡ v = rw h (get_or-set_same f x v 0 lt) in
    ap (λ y. i ∷ y ∷ []) there
linked-join f i (suc n) x v h once lt =
    let j = get_or f i 0 in
    let later : 1 ≤ times x (linked f j (suc n)) = last-stands x j (linked f (get_or f j 0) n) h in
    elim (cases_eq x i) [
      | inl same ↦ absurd (omega (arith, times_hit x i (linked f j (suc n)) same))
      | inr ne ↦
          rw (get_or-set_other f x i v 0 (λ e. ne (sym e))) (ap (λ js. i ∷ js) (linked-join f j n x v h (omega (arith, times_miss x i (linked f j (suc n)) ne)) lt))
    ]

joined-some : (f : List ℕ) (e : Ends) (v : ℕ) → 0 < e.len → joined f e v ≡ set f e.last v
joined-some f e v h = rw (ne_eqb e.len 0 (omega arith)) refl

-- the list that a task joins has it at its end
joined-own-by : (f : List ℕ) (e : Ends) (v n : ℕ) → e.len ≡ n → EndsAt e.last (linked f e.first n) → times e.last (linked f e.first n) ≤ 1 → (0 < n → e.last < length f) → linked (joined f e v) (joined_ends e v).first (n + 1) ≡ linked f e.first n ++ v ∷ []
joined-own-by f e v zero same h once lt = rw (eq-eqb e.len 0 same) refl
joined-own-by f e v (suc n) same h once lt =
    let more : suc n + 1 ≡ suc (suc n) = omega arith in
    let first : (joined_ends e v).first ≡ e.first = rw (ne_eqb e.len 0 (omega (arith, same))) refl in
    let own = linked-join f e.first n e.last v h once (lt (omega arith)) in
    ap (λ m. linked (joined f e v) (joined_ends e v).first m) more ∙
    ap (λ i. linked (joined f e v) i (suc (suc n))) first ∙
    ap (λ g. linked g e.first (suc (suc n))) (joined-some f e v (omega (arith, same))) ∙ own

pub joined-own : (f : List ℕ) (e : Ends) (v : ℕ) → EndsAt e.last (list_of f e) → times e.last (list_of f e) ≤ 1 → (0 < e.len → e.last < length f) → list_of (joined f e v) (joined_ends e v) ≡ list_of f e ++ v ∷ []
joined-own f e v h once lt = joined-own-by f e v e.len refl h once lt

-- and any other list stays
joined-other-by : (f : List ℕ) (e o : Ends) (v n : ℕ) → e.len ≡ n → EndsAt e.last (linked f e.first n) → times e.last (linked f e.first n) + times e.last (list_of f o) ≤ 1 → list_of (joined f e v) o ≡ list_of f o
joined-other-by f e o v zero same h once = rw (eq-eqb e.len 0 same) refl
joined-other-by f e o v (suc n) same h once =
    rw (ne_eqb e.len 0 (omega (arith, same))) (linked-set f o.first o.len e.last v (omega (arith, last-stands e.last e.first (linked f (get_or f e.first 0) n) h)))

pub joined-other : (f : List ℕ) (e o : Ends) (v : ℕ) → EndsAt e.last (list_of f e) → times e.last (list_of f e) + times e.last (list_of f o) ≤ 1 → list_of (joined f e v) o ≡ list_of f o
joined-other f e o v h once = joined-other-by f e o v e.len refl h once

-- the first task of a list, and the list after it
pub list_of-first : (f : List ℕ) (e : Ends) → 0 < e.len → list_of f e ≡ e.first ∷ linked f (get_or f e.first 0) (e.len - 1)
list_of-first f e h = linked-first f e.first e.len h
