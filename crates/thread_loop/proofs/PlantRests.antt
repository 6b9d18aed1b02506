-- Whether a run on threads is over.
use Rattle.std.proofs.Common.{◌≡◌, ℕ, zero, suc, ◌-◌, ◌<◌, ◌≤◌, ◌&&◌, Bool, true, false, leb, nat_lt, List, [], ◌∷◌, length, get_or, refl, sym, ap, ◌∙◌, arith, inl, inr}
use Rattle.std.specs.List.{list_all}
use Rattle.std.proofs.lemmas.Bool.{cases_Bool, le-leb, leb-true, and_parts}
use Rattle.step_tables.specs.declared.tables.Event.{Event}
use Rattle.step_tables.specs.declared.tables.Script.{Script}
use Rattle.step_tables.specs.Sound.{rising_below}
use Rattle.task_machine.specs.declared.task.Place.{Place}
use Rattle.task_machine.specs.declared.task.Place.TheVariants as places
use Rattle.task_machine.specs.declared.task.TaskState.{TaskState}
use Rattle.task_machine.specs.Task.{seen_of, seen_at}
use Rattle.task_machine.specs.Step.{task_at}
use Rattle.task_word.specs.Word.{seen_in}
use Rattle.task_word.proofs.Words.{seen_in-stands}
use Rattle.run_model.specs.Standing.{is_still_at}
use Rattle.wake_board.specs.Rows.{task_word}
use Rattle.thread_loop.specs.Plants.{Holds, is_still_seen, standing_of}
use Rattle.thread_loop.specs.declared.plant.Plant.{Plant}

-- ---- no event comes later

rising-from : (from m : ℕ) (es : List Event) (i : ℕ) (d : Event) → rising_below from m es ≡ true → i < length es → from ≤ (get_or es i d).round
rising-from from m [] i d h lt = absurd (omega arith)
rising-from from m (e ∷ es) zero d h lt = leb-true from e.round (and_parts (leb from e.round) (nat_lt e.round m && rising_below e.round m es) h).0
rising-from from m (e ∷ es) (suc i) d h lt =
    let a = and_parts (leb from e.round) (nat_lt e.round m && rising_below e.round m es) h in
    let b = and_parts (nat_lt e.round m) (rising_below e.round m es) a.1 in
    let first = leb-true from e.round a.0 in
    let later = rising-from e.round m es i d b.1 (omega arith) in
    omega arith

pub later-by-last : (r from m : ℕ) (es : List Event) (d : Event) → rising_below from m es ≡ true → 0 < length es → list_all (λ x. leb x.round r) es ≡ leb (get_or es (length es - 1) d).round r
later-by-last r from m [] d h some = absurd (omega arith)
later-by-last r from m (e ∷ []) d h some = only (leb e.round r)
  where
    only : (b : Bool) → (b && true) ≡ b
    only true = refl
    only false = refl
later-by-last r from m (e ∷ f ∷ fs) d h some =
    let a = and_parts (leb from e.round) (nat_lt e.round m && rising_below e.round m (f ∷ fs)) h in
    let b = and_parts (nat_lt e.round m) (rising_below e.round m (f ∷ fs)) a.1 in
    let more = later-by-last r e.round m (f ∷ fs) d b.1 (omega arith) in
    let least = rising-from e.round m (f ∷ fs) (length (f ∷ fs) - 1) d b.1 (omega arith) in
    let at : length (e ∷ f ∷ fs) - 1 ≡ suc (length (f ∷ fs) - 1) = omega arith in
    let last : get_or (e ∷ f ∷ fs) (length (e ∷ f ∷ fs) - 1) d ≡ get_or (f ∷ fs) (length (f ∷ fs) - 1) d = ap (λ n. get_or (e ∷ f ∷ fs) n d) at in
    both (get_or (f ∷ fs) (length (f ∷ fs) - 1) d) least more ∙ ap (λ (x : Event). leb x.round r) (sym last)
  where
    both : (x : Event) → e.round ≤ x.round → list_all (λ y. leb y.round r) (f ∷ fs) ≡ leb x.round r → (leb e.round r && list_all (λ y. leb y.round r) (f ∷ fs)) ≡ leb x.round r
    both x le same = elim (cases_Bool (leb x.round r)) [
      | inl holds ↦ (let within = leb-true x.round r holds in let here : leb e.round r ≡ true = le-leb e.round r (omega arith) in rw here same)
      | inr fails ↦ (let rest : list_all (λ y. leb y.round r) (f ∷ fs) ≡ false = same ∙ fails in rw rest (falls (leb e.round r) ∙ sym fails))
    ]
      where
        falls : (b : Bool) → (b && false) ≡ false
        falls true = refl
        falls false = refl

-- ---- all tasks rest or are gone

still-at : (p : Place) (t : TaskState) → is_still_seen (seen_at p t) ≡ is_still_at p
still-at places.Rest t = refl
still-at (places.Hands k) t = refl
still-at (places.Boxed b) t = refl
still-at (places.Drawn k) t = refl
still-at (places.Runs k) t = refl
still-at places.Gone t = refl

pub still-word : (s : Script) (i : ℕ) (p : Plant) → Holds s (standing_of p) p → i < p.words.tasks → is_still_seen (seen_in (task_word p.words i)) ≡ is_still_at (task_at (standing_of p).state i).place
still-word s i p holds lt =
    let t : TaskState = task_at (standing_of p).state i in
    ap is_still_seen (seen_in-stands (task_word p.words i) (seen_of t) (holds.stands.tasks i lt)) ∙ still-at t.place t
