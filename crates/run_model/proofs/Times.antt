-- The ticks of a lawful run.
use Rattle.std.proofs.Common.{◌≡◌, ℕ, zero, suc, ◌+◌, ◌*◌, ◌%◌, ◌^◌, ◌<◌, Bool, true, false, List, [], ◌∷◌, Some, slice_get, MatchBool, refl, sym, ap, ◌∙◌, arith, suc-mul, zero-mul}
use Rattle.step_tables.specs.declared.tables.Script.{Script}
use Rattle.run_model.specs.Run.{Round}
use Rattle.run_model.specs.Standing.{Standing, opening, next_tick}
use Rattle.run_model.specs.Lawful.{Goes}
use Rattle.run_model.specs.Laws.{LawfulRunsKeepTime}
use Rattle.run_model.proofs.Readings.{some_inj}

-- where a choice between two ends and no end is not the one or the other, what holds of all three
goes_on : (a b : Bool) (X Y Z P : Type 0) → (X → P) → (Y → P) → (Z → P) → MatchBool a X (MatchBool b Y Z) → P
goes_on true b X Y Z P f g h c = f c
goes_on false true X Y Z P f g h c = g c
goes_on false false X Y Z P f g h c = h c

in_none : (rounds : List Round) (k : ℕ) (round : Round) (P : Type 0) → rounds ≡ [] → slice_get rounds k ≡ Some round → P
in_none [] k round P e i = cc
in_none (x ∷ xs) k round P e i = cc

stepped_on : (a d k : ℕ) → ((a + d) % 2 ^ 32 + k * d) % 2 ^ 32 ≡ (a + suc k * d) % 2 ^ 32
stepped_on a d k = omega (arith, suc-mul k d)

-- in version 1 a tick is one step after the one before
next_is : (s : Script) (r T : ℕ) (st : Standing) → s.version ≡ 1 → next_tick s r T st ≡ (T + s.step) % 2 ^ 32
next_is s r T st one = rw one refl

times : (s : Script) (rest : Bool) (r T : ℕ) (old : Standing) (rounds : List Round) (k : ℕ) (round : Round) → s.version ≡ 1 → T < 2 ^ 32 → Goes s rest r T old rounds → slice_get rounds k ≡ Some round → round.tick ≡ (T + k * s.step) % 2 ^ 32
times s rest r T old [] k round one below h i = absurd h
times s rest r T old (x ∷ more) zero round one below h i =
    ap (λ (y : Round). y.tick) (sym (some_inj x round i)) ∙ (h.1.tick ∙ omega (arith, zero-mul s.step))
times s rest r T old (x ∷ more) (suc k) round one below h i =
    goes_on _ _ _ _ _ _ (λ (e : (more ≡ []) × (rest ≡ true)). in_none more k round _ e.0 i) (λ (e : (more ≡ []) × (rest ≡ false)). in_none more k round _ e.0 i)
    (λ e.
    let next = next_is s r T h.0 one in
    times s rest (r + 1) (next_tick s r T h.0) h.0 more k round one (omega arith) e i ∙ (ap (λ n. (n + k * s.step) % 2 ^ 32) next ∙ stepped_on T s.step k)) h.2

pub lawful_times : LawfulRunsKeepTime
lawful_times s run k round one below h i = times s run.rest 0 s.start (opening s) run.rounds k round one below h i
