-- Whether a run is over: no event comes later, no timer is left, and all tasks rest or are gone.
use Rattle.std.proofs.Common.{◌≡◌, ℕ, zero, suc, ◌+◌, ◌<◌, ◌≤◌, ◌==◌, ◌&&◌, Bool, true, false, leb, List, [], ◌∷◌, drop, length, refl, sym, ap, ◌∙◌, arith, inl, inr, eq-eqb, ne_eqb}
use Rattle.std.specs.List.{list_all}
use Rattle.std.proofs.lemmas.Bool.{cases_Bool, cases_eq, leb-true}
use Rattle.std.proofs.lemmas.Bool.Decides.{nat_tests}
use Rattle.step_tables.specs.declared.tables.Event.{Event}
use Rattle.step_tables.specs.declared.tables.Script.{Script}
use Rattle.step_tables.specs.Sound.{rising_below}
use Rattle.run_model.proofs.Readings.{both}
use Rattle.run_model.specs.Standing.{no_later}
use Rattle.run_model.specs.Tables.{actions_in}
use Rattle.run_replay.specs.Injections.{actions_of, AtEvents}
use Rattle.run_replay.specs.declared.injection.Injection.{Injection}

-- where no round from q on has an event, none comes after the round before
none_after : (r : ℕ) (es : List Event) → ((q : ℕ) → r + 1 ≤ q → actions_of q es ≡ []) → list_all (λ e. leb e.round r) es ≡ true
none_after r [] h = refl
none_after r (e ∷ es) h =
    elim (cases_Bool (leb e.round r)) [
      | inl le ↦ rw le (none_after r es (λ q later. skipped q (differs q (leb-true e.round r le) later) ∙ h q later))
      | inr gt ↦ absurd (some (h e.round (above gt)))
    ]
  where
    differs : (q : ℕ) → e.round ≤ r → r + 1 ≤ q → (e.round == q) ≡ false
    differs q le later = grind (arith, nat_tests)

    above : leb e.round r ≡ false → r + 1 ≤ e.round
    above gt = grind (arith, nat_tests)

    skipped : (q : ℕ) → (e.round == q) ≡ false → actions_of q es ≡ actions_of q (e ∷ es)
    skipped q other = rw other refl

    some : actions_of e.round (e ∷ es) ≡ [] → ⊥
    some none = (let same = eq-eqb e.round e.round refl in let here : e.action ∷ actions_of e.round es ≡ [] = rw same at none in cc)

all_dropped : (n : ℕ) (p : Event → Bool) (es : List Event) → list_all p es ≡ true → list_all p (drop n es) ≡ true
all_dropped zero p es h = h
all_dropped (suc n) p [] h = refl
all_dropped (suc n) p (e ∷ es) h = all_dropped n p es (both (p e) (list_all p es) h).1

-- the first of the events that are left comes later
first_later : (r rounds : ℕ) (es : List Event) → rising_below (r + 1) rounds es ≡ true → 0 < length es → list_all (λ e. leb e.round r) es ≡ false
first_later r rounds [] h some = absurd (omega arith)
first_later r rounds (e ∷ es) h some =
    let le = leb-true (r + 1) e.round (both (leb (r + 1) e.round) _ h).0 in
    let not : leb e.round r ≡ false = later e.round le in
    rw not refl
  where
    later : (n : ℕ) → r + 1 ≤ n → leb n r ≡ false
    later n le = grind (arith, nat_tests)

length_dropped : (n : ℕ) (es : List Event) → n < length es → 0 < length (drop n es)
length_dropped zero es h = h
length_dropped (suc n) [] h = absurd (omega arith)
length_dropped (suc n) (e ∷ es) h = length_dropped n es (omega arith)

dropped_all : (n : ℕ) (es : List Event) → n ≡ length es → drop n es ≡ []
dropped_all zero [] h = refl
dropped_all zero (e ∷ es) h = absurd (omega arith)
dropped_all (suc n) [] h = refl
dropped_all (suc n) (e ∷ es) h = dropped_all n es (omega arith)

-- no event comes later just where none is left
pub later_by : (s : Script) (r : ℕ) (i : Injection) → AtEvents s (r + 1) i → ((q : ℕ) → r + 1 ≤ q → actions_in s q ≡ actions_of q (drop i.next s.events)) → (i.next == length s.events) ≡ no_later s r
later_by s r i h passed =
    elim (cases_eq i.next (length s.events)) [
      | inl e ↦ eq-eqb i.next (length s.events) e ∙ sym (none_after r s.events (λ q later. passed q later ∙ ap (λ es. actions_of q es) (dropped_all i.next s.events e)))
      | inr differs ↦ ne_eqb i.next (length s.events) differs ∙ sym (not_all (first_later r s.rounds (drop i.next s.events) h.ahead (length_dropped i.next s.events (below differs))))
    ]
  where
    below : (i.next ≡ length s.events → ⊥) → i.next < length s.events
    below differs = (let le = h.within in grind arith)

    not_all : list_all (λ e. leb e.round r) (drop i.next s.events) ≡ false → list_all (λ e. leb e.round r) s.events ≡ false
    not_all fails = elim (cases_Bool (list_all (λ e. leb e.round r) s.events)) [
      | inl holds ↦ (let dropped = all_dropped i.next (λ e. leb e.round r) s.events holds in cc)
      | inr it ↦ it
    ]

-- ---- timers

-- ---- all three

pub over_late : (still timers : Bool) (later : Bool) → later ≡ false → false ≡ still && (later && timers)
over_late true timers later h = rw h refl
over_late false timers later h = refl

pub over_timed : (still later timers : Bool) → timers ≡ false → false ≡ still && (later && timers)
over_timed true true timers h = sym h
over_timed true false timers h = refl
over_timed false later timers h = refl

pub over_still : (still later timers : Bool) → later ≡ true → timers ≡ true → still ≡ still && (later && timers)
over_still true later timers h k = rw (h, k) refl
over_still false later timers h k = refl
