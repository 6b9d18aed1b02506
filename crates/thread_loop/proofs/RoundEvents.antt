-- The events of a round stand together, since events come by rising rounds.
use Rattle.std.proofs.Common.{◌≡◌, ◌≢◌, ℕ, zero, suc, ◌+◌, ◌-◌, ◌<◌, ◌≤◌, inl, inr, true, false, ◌&&◌, nat_le, nat_lt, ◌==◌, IsTrue, List, [], ◌∷◌, length, take, drop, get_or, ltb, leb, ltb-true, ltb-false, leb-false, refl, ap, arith, eq-eqb, ne_eqb}
use Rattle.std.specs.List.Sorted.{IsNonDecreasingBy, IsPartitionPoint}
use Rattle.std.proofs.lemmas.Bool.{and_parts, cases_lt, leb-true}
use Rattle.step_tables.specs.declared.tables.Event.{Event}
use Rattle.step_tables.specs.declared.tables.Script.{Script}
use Rattle.step_tables.specs.Sound.{is_sound, rising_below}
use Rattle.run_model.specs.Tables.{actions_in}
use Rattle.turn_steps.proofs.Fit.{sound_parts}
use Rattle.thread_loop.specs.Events.{actions_of, actions_all}

at_least : (from n : ℕ) (es : List Event) (j : ℕ) (d : Event) → rising_below from n es ≡ true → j < length es → from ≤ (get_or es j d).round
at_least from n [] j d h lt = absurd (omega arith)
at_least from n (e ∷ es) zero d h lt =
    let a = and_parts (nat_le from e.round) (nat_lt e.round n && rising_below e.round n es) h in
    leb-true from e.round a.0
at_least from n (e ∷ es) (suc j) d h lt =
    let a = and_parts (nat_le from e.round) (nat_lt e.round n && rising_below e.round n es) h in
    let b = and_parts (nat_lt e.round n) (rising_below e.round n es) a.1 in
    let le = leb-true from e.round a.0 in
    let more = at_least e.round n es j d b.1 (omega arith) in
    omega arith

rises : (from n : ℕ) (es : List Event) → rising_below from n es ≡ true → (i j : ℕ) (d : Event) → i ≤ j → j < length es → (get_or es i d).round ≤ (get_or es j d).round
rises from n [] h i j d le lt = absurd (omega arith)
rises from n (e ∷ es) h zero zero d le lt = omega arith
rises from n (e ∷ es) h zero (suc j) d le lt =
    let a = and_parts (nat_le from e.round) (nat_lt e.round n && rising_below e.round n es) h in
    let b = and_parts (nat_lt e.round n) (rising_below e.round n es) a.1 in
    at_least e.round n es j d b.1 (omega arith)
rises from n (e ∷ es) h (suc i) zero d le lt = absurd (omega arith)
rises from n (e ∷ es) h (suc i) (suc j) d le lt =
    let a = and_parts (nat_le from e.round) (nat_lt e.round n && rising_below e.round n es) h in
    let b = and_parts (nat_lt e.round n) (rising_below e.round n es) a.1 in
    rises e.round n es b.1 i j d (omega arith) (omega arith)

pub events-rise : (s : Script) → IsTrue (is_sound s) → IsNonDecreasingBy (λ (e : Event). e.round) s.events
events-rise s h = rises 0 s.rounds s.events (sound_parts s h).rising

-- the events of a round are those between the earlier and the later ones
pub middle : (r : ℕ) (es : List Event) (a m : ℕ) → a + m ≤ length es → ((k : ℕ) (d : Event) → k < a → (get_or es k d).round ≢ r) → ((k : ℕ) (d : Event) → a ≤ k → k < a + m → (get_or es k d).round ≡ r) → ((k : ℕ) (d : Event) → a + m ≤ k → k < length es → (get_or es k d).round ≢ r) → actions_all (take m (drop a es)) ≡ actions_of r es
middle r [] zero zero le f g h = refl
middle r [] zero (suc m) le f g h = absurd (omega arith)
middle r [] (suc a) m le f g h = absurd (omega arith)
middle r (e ∷ es) (suc a) m le f g h =
    let here : (e.round == r) ≡ false = ne_eqb e.round r (f 0 e (omega arith)) in
    let more = middle r es a m (omega arith) (λ k d lt. f (suc k) d (omega arith)) (λ k d low lt. g (suc k) d (omega arith) (omega arith)) (λ k d low lt. h (suc k) d (omega arith) (omega arith)) in
    rw here more
middle r (e ∷ es) zero (suc m) le f g h =
    let here : (e.round == r) ≡ true = eq-eqb e.round r (g 0 e (omega arith) (omega arith)) in
    let more = middle r es zero m (omega arith) (λ k d lt. absurd (omega arith)) (λ k d low lt. g (suc k) d (omega arith) (omega arith)) (λ k d low lt. h (suc k) d (omega arith) (omega arith)) in
    rw here (ap (λ xs. e.action ∷ xs) more)
middle r (e ∷ es) zero zero le f g h =
    let here : (e.round == r) ≡ false = ne_eqb e.round r (h 0 e (omega arith) (omega arith)) in
    let more = middle r es zero zero (omega arith) (λ k d lt. absurd (omega arith)) (λ k d low lt. absurd (omega arith)) (λ k d low lt. h (suc k) d (omega arith) (omega arith)) in
    rw here more

-- where the earlier events end, and where the later ones begin
pub record Points (r : ℕ) (es : List Event) (first end : ℕ) : Type 0 where
  pub early : (k : ℕ) (d : Event) → k < first → (get_or es k d).round < r
  pub some : (k : ℕ) (d : Event) → first ≤ k → k < length es → r ≤ (get_or es k d).round
  pub most : (k : ℕ) (d : Event) → k < end → (get_or es k d).round ≤ r
  pub late : (k : ℕ) (d : Event) → end ≤ k → k < length es → r < (get_or es k d).round
  pub within : end ≤ length es

blank_event : (es : List Event) → 0 < length es → Event
blank_event [] h = absurd (omega arith)
blank_event (e ∷ es) h = e

pub points-order : (r : ℕ) (es : List Event) (first end : ℕ) → Points r es first end → first ≤ length es → first ≤ end
points-order r es first end p within' =
    elim (cases_lt end first) [
      | inl lt ↦
          (let d = blank_event es (omega arith) in
          let a = p.early end d lt in
          let b = p.late end d (omega arith) (omega arith) in
          absurd (omega arith))
      | inr le ↦ le
    ]

pub actions-between : (s : Script) (r first end : ℕ) → Points r s.events first end → first ≤ end → actions_all (take (end - first) (drop first s.events)) ≡ actions_in s r
actions-between s r first end p le =
    let most = p.within in
    middle r s.events first (end - first) (omega arith)
    (λ k d lt same. let a = p.early k d lt in absurd (omega arith))
    (λ k d low lt. let a = p.some k d low (omega arith) in let b = p.most k d (omega arith) in omega arith)
    (λ k d low lt same. let a = p.late k d (omega arith) lt in absurd (omega arith))

pub points-found : (r : ℕ) (es : List Event) (first end : ℕ) → end ≤ length es → IsPartitionPoint (λ (e : Event). ltb e.round r ≡ true) (λ (e : Event). ltb e.round r ≡ false) es first → IsPartitionPoint (λ (e : Event). leb e.round r ≡ true) (λ (e : Event). leb e.round r ≡ false) es end → Points r es first end
points-found r es first end le f g = record {
  early = λ k d lt. ltb-true _ _ (f.0 k d (omega arith) lt);
  some = λ k d low lt. ltb-false _ _ (f.1 k d low lt);
  most = λ k d lt. leb-true _ _ (g.0 k d (omega arith) lt);
  late = λ k d low lt. leb-false _ _ (g.1 k d low lt);
  within = le;
}
