-- The injector's calls, one after another.
use Rattle.std.proofs.Common.{◌≡◌, ◌≢◌, ℕ, zero, suc, ◌+◌, ◌<◌, ◌&&◌, Bool, true, false, nat_le, nat_lt, IsTrue, ◌==◌, if◌then◌else◌, List, [], ◌∷◌, length, drop, Option, None, Some, refl, sym, ap, ◌∙◌, arith, subst, eq-eqb, ne_eqb, eqb-true, length-drop}
use Rattle.std.proofs.lemmas.Bool.{and_parts, and_from, leb-true, le-leb}
use Rattle.sched_base.specs.declared.names.TaskId.{TaskId}
use Rattle.step_tables.specs.declared.tables.Action.{Action}
use Rattle.step_tables.specs.declared.tables.Event.{Event}
use Rattle.step_tables.specs.declared.tables.Script.{Script}
use Rattle.step_tables.specs.Sound.{is_sound, rising_below}
use Rattle.task_machine.specs.declared.calls.Reply.{Reply}
use Rattle.run_model.specs.Replies.{is_rest}
use Rattle.run_model.specs.Standing.{blank_book}
use Rattle.run_model.specs.Tables.{target}
use Rattle.turn_steps.specs.Left.{stage, injects, carries, over, injected, asked, heard, at_events}
use Rattle.turn_steps.specs.Has.{caller}
use Rattle.turn_steps.proofs.Fit.{sound_parts}
use Rattle.run_replay.specs.Injections.{actions_of, actions_left, first_of, owing, stage_in, AtEvents}
use Rattle.run_replay.specs.declared.injection.Injection.{Injection}

-- events that come later than a round are none of it
none_of : (q r n : ℕ) (es : List Event) → q < r → rising_below r n es ≡ true → actions_of q es ≡ []
none_of q r n [] lt h = refl
none_of q r n (e ∷ es) lt h =
    let a = and_parts (nat_le r e.round) (nat_lt e.round n && rising_below e.round n es) h in
    let b = and_parts (nat_lt e.round n) (rising_below e.round n es) a.1 in
    let le = leb-true r e.round a.0 in
    let ne : e.round ≢ q = λ same. absurd (omega arith) in
    rw (ne_eqb e.round q ne) (none_of q e.round n es (omega arith) b.1)

-- where the first of the events is of the round, it comes first; and else none is of the round
pub first-some : (r : ℕ) (es : List Event) (e : Event) → first_of r es ≡ Some e → (e.round ≡ r) × (actions_of r es ≡ e.action ∷ actions_of r (drop 1 es)) × ((q : ℕ) → r < q → actions_of q es ≡ actions_of q (drop 1 es)) × (0 < length es)
first-some r [] e h = cc
first-some r (x ∷ xs) e h = by (x.round == r) refl
  where
    by : (b : Bool) → (x.round == r) ≡ b → (e.round ≡ r) × (actions_of r (x ∷ xs) ≡ e.action ∷ actions_of r xs) × ((q : ℕ) → r < q → actions_of q (x ∷ xs) ≡ actions_of q xs) × (0 < length (x ∷ xs))
    by true is =
        let it : Some x ≡ Some e = sym (ap (λ b. if b then Some x else None) is) ∙ h in
        let same : x ≡ e = inj x e it in
        let round : x.round ≡ r = eqb-true x.round r is in (
          ap (λ (y : Event). y.round) (sym same) ∙ round,
          rw is (ap (λ (y : Event). y.action ∷ actions_of r xs) same),
          (λ q lt. rw (ne_eqb x.round q (λ eq. absurd (omega arith))) refl),
          omega arith,
        )
      where
        inj : (x y : Event) → Some x ≡ Some y → x ≡ y
        inj x y h = cc
    by false fails = absurd (let none : None ≡ Some e = sym (ap (λ b. if b then Some x else None) fails) ∙ h in cc)

pub first-none : (r n : ℕ) (es : List Event) → rising_below r n es ≡ true → first_of r es ≡ None → actions_of r es ≡ []
first-none r n [] rising h = refl
first-none r n (x ∷ xs) rising h = by (x.round == r) refl
  where
    by : (b : Bool) → (x.round == r) ≡ b → actions_of r (x ∷ xs) ≡ []
    by true is = absurd (let some : Some x ≡ None = sym (ap (λ b. if b then Some x else None) is) ∙ h in cc)
    by false fails =
        let a = and_parts (nat_le r x.round) (nat_lt x.round n && rising_below x.round n xs) rising in
        let b = and_parts (nat_lt x.round n) (rising_below x.round n xs) a.1 in
        let le = leb-true r x.round a.0 in
        let ne : x.round ≢ r = λ eq. (let holds : (x.round == r) ≡ true = eq-eqb x.round r eq in absurd (let it = fails in cc)) in
        rw fails (none_of r x.round n xs (omega (arith, ne)) b.1)

rising_next : (r n : ℕ) (es : List Event) (e : Event) → first_of r es ≡ Some e → rising_below r n es ≡ true → rising_below r n (drop 1 es) ≡ true
rising_next r n [] e h rising = refl
rising_next r n (x ∷ xs) e h rising = by (x.round == r) refl
  where
    by : (b : Bool) → (x.round == r) ≡ b → rising_below r n xs ≡ true
    by true is =
        let a = and_parts (nat_le r x.round) (nat_lt x.round n && rising_below x.round n xs) rising in
        let b = and_parts (nat_lt x.round n) (rising_below x.round n xs) a.1 in
        let round : x.round ≡ r = eqb-true x.round r is in
        subst (λ (m : ℕ). rising_below m n xs ≡ true) round b.1
    by false fails = absurd (let none : None ≡ Some e = sym (ap (λ b. if b then Some x else None) fails) ∙ h in cc)

drop_next : (n : ℕ) (es : List Event) → drop 1 (drop n es) ≡ drop (n + 1) es
drop_next zero [] = refl
drop_next zero (e ∷ es) = refl
drop_next (suc n) [] =
    let up : suc n + 1 ≡ suc (n + 1) = omega arith in
    ap (λ m. drop {A = Event} m []) (sym up)
drop_next (suc n) (e ∷ es) =
    let up : suc n + 1 ≡ suc (n + 1) = omega arith in
    drop_next n es ∙ ap (λ m. drop m (e ∷ es)) (sym up)

-- once an event was made, the next ones are left
pub events-made : (s : Script) (r : ℕ) (i new : Injection) (e : Event) → AtEvents s r i → first_of r (drop i.next s.events) ≡ Some e → new.next ≡ i.next + 1 → AtEvents s r new
events-made s r i new e at first next =
    let left = drop i.next s.events in
    let is = first-some r left e first in
    let rest : drop 1 left ≡ drop new.next s.events = drop_next i.next s.events ∙ ap (λ n. drop n s.events) (sym next) in
    record {
      within = (let some = is.3 in omega (arith, length-drop i.next s.events));
      later = λ q lt. at.later q lt ∙ is.2 q lt ∙ ap (actions_of q) rest;
      ahead = ap (rising_below r s.rounds) (sym rest) ∙ rising_next r s.rounds left e first at.ahead;
    }

pub actions-made : (s : Script) (r : ℕ) (i new : Injection) (e : Event) → first_of r (drop i.next s.events) ≡ Some e → new.next ≡ i.next + 1 → actions_left s r i ≡ e.action ∷ actions_left s r new
actions-made s r i new e first next =
    let left = drop i.next s.events in
    let is = first-some r left e first in
    is.1 ∙ ap (λ xs. e.action ∷ actions_of r xs) (drop_next i.next s.events ∙ ap (λ n. drop n s.events) (sym next))

-- ---- between rounds

-- nothing is owed and no action is left where nothing is asked
pub nothing-asked : (s : Script) (o : Option TaskId) (xs : List Action) → asked s (owing o xs) ≡ None → (o ≡ None) × (xs ≡ [])
nothing-asked s None [] h = (refl, refl)
nothing-asked s None (x ∷ xs) h = cc
nothing-asked s (Some j) xs h = cc

none_left : (r n : ℕ) (es : List Event) → rising_below r n es ≡ true → actions_of r es ≡ [] → rising_below (r + 1) n es ≡ true
none_left r n [] rising h = refl
none_left r n (e ∷ es) rising h =
    let a = and_parts (nat_le r e.round) (nat_lt e.round n && rising_below e.round n es) rising in
    let le = leb-true r e.round a.0 in
    let ne : e.round ≢ r = λ eq. some (eq-eqb e.round r eq) in
    and_from (nat_le (r + 1) e.round) (nat_lt e.round n && rising_below e.round n es) (le-leb (r + 1) e.round (omega (arith, ne))) a.1
  where
    some : (e.round == r) ≡ true → ⊥
    some is = (let here : e.action ∷ actions_of r es ≡ [] = rw is at h in cc)

-- the events of the next round on
pub events-next : (s : Script) (r : ℕ) (i : Injection) → AtEvents s r i → actions_left s r i ≡ [] → AtEvents s (r + 1) i
events-next s r i at none = record {
  within = at.within;
  later = λ q lt. at.later q (omega arith);
  ahead = none_left r s.rounds (drop i.next s.events) at.ahead none;
}

pub events-first : (s : Script) (i : Injection) → IsTrue (is_sound s) → i.next ≡ 0 → AtEvents s 0 i
events-first s i sound zero_first =
    let all : drop i.next s.events ≡ s.events = ap (λ n. drop n s.events) zero_first in
    record {
      within = omega arith;
      later = λ q lt. ap (actions_of q) (sym all);
      ahead = ap (rising_below 0 s.rounds) all ∙ (sound_parts s sound).rising;
    }

-- ---- what is heard

-- an event was made, and its task was at rest or not
pub heard-rest : (s : Script) (r k tick : ℕ) (i new : Injection) (e : Event) (q : Reply) (j : TaskId) → i.held ≡ None → first_of r (drop i.next s.events) ≡ Some e → new.next ≡ i.next + 1 → new.held ≡ Some j → j.0 ≡ target e.action → is_rest q ≡ true → stage_in s r new ≡ heard s (caller k) tick q (stage_in s r i)
heard-rest s r k tick i new e q j none first next held is rest =
    let before : stage_in s r i ≡ stage (injects e.action (actions_left s r new)) (blank_book 0) = ap (λ o. owing o (actions_left s r i)) none ∙ ap (λ xs. at_events xs (blank_book 0)) (actions-made s r i new e first next) in
    ap (λ o. owing o (actions_left s r new)) held ∙ ap (λ n. stage (carries n (actions_left s r new)) (blank_book 0)) is ∙ sym (ap (heard s (caller k) tick q) before ∙ ap (λ b. injected b (target e.action) (actions_left s r new) (blank_book 0)) rest)

pub heard-busy : (s : Script) (r k tick : ℕ) (i new : Injection) (e : Event) (q : Reply) → i.held ≡ None → first_of r (drop i.next s.events) ≡ Some e → new.next ≡ i.next + 1 → new.held ≡ None → is_rest q ≡ false → stage_in s r new ≡ heard s (caller k) tick q (stage_in s r i)
heard-busy s r k tick i new e q none first next held busy =
    let before : stage_in s r i ≡ stage (injects e.action (actions_left s r new)) (blank_book 0) = ap (λ o. owing o (actions_left s r i)) none ∙ ap (λ xs. at_events xs (blank_book 0)) (actions-made s r i new e first next) in
    ap (λ o. owing o (actions_left s r new)) held ∙ sym (ap (heard s (caller k) tick q) before ∙ ap (λ b. injected b (target e.action) (actions_left s r new) (blank_book 0)) busy)

-- nothing is left
pub nothing-left : (s : Script) (r : ℕ) (i : Injection) → AtEvents s r i → i.held ≡ None → first_of r (drop i.next s.events) ≡ None → stage_in s r i ≡ stage over (blank_book 0)
nothing-left s r i at none first = ap (λ o. owing o (actions_left s r i)) none ∙ ap (λ xs. at_events xs (blank_book 0)) (first-none r s.rounds (drop i.next s.events) at.ahead first)
