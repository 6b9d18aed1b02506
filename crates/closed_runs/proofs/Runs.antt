-- Two lawful runs of a closed script are alike, round by round.
use Rattle.std.proofs.Common.{◌≡◌, ℕ, zero, suc, ◌+◌, ◌==◌, Bool, true, false, List, [], ◌∷◌, Some, length, IsTrue, MatchBool, refl, sym, ap, ◌∙◌, subst}
use Rattle.std.specs.Prelude.{slice_get}
use Rattle.run_model.proofs.Readings.{some_inj}
use Rattle.step_tables.specs.declared.tables.Script.{Script}
use Rattle.step_tables.specs.Homes.{IsClosedByHomes}
use Rattle.step_tables.specs.Sound.{is_sound}
use Rattle.run_model.specs.Run.{Round, Run}
use Rattle.run_model.specs.Lawful.{Goes}
use Rattle.run_model.specs.Standing.{Standing, opening, is_at_rest, next_tick}
use Rattle.standing.specs.Between.{round_takes}
use Rattle.standing.specs.Firm.{Firm}
use Rattle.standing.proofs.Firm.{firm-opening, firm-round}
use Rattle.closed_runs.specs.Alike.{RoundsAlike}
use Rattle.closed_runs.specs.Laws.{ClosedRunsAreDetermined}
use Rattle.closed_runs.proofs.Rounds.{rounds_alike}

-- the rounds of two runs, side by side
abbrev pub AllAlike : List Round → List Round → Type 0
AllAlike [] [] = Unit {0}
AllAlike [] (y ∷ ys) = ⊥
AllAlike (x ∷ xs) [] = ⊥
AllAlike (x ∷ xs) (y ∷ ys) = RoundsAlike x y × AllAlike xs ys

-- how rounds go on, or end
abbrev GoesOn : Bool → Bool → List Round → Bool → Type 0 → Type 0
GoesOn still last more rest P =
    MatchBool still ((more ≡ []) × (rest ≡ true)) (MatchBool last ((more ≡ []) × (rest ≡ false)) P)

-- both end here
both_end : (xs ys : List Round) (p q end : Bool) → (xs ≡ []) × (p ≡ end) → (ys ≡ []) × (q ≡ end) → AllAlike xs ys × (p ≡ q)
both_end xs ys p q end g h =
    (subst (λ (zs : List Round). AllAlike zs ys) (sym g.0) (subst (λ (zs : List Round). AllAlike [] zs) (sym h.0) tt), g.1 ∙ sym h.1)

after_alike : (still last : Bool) (xs ys : List Round) (p q : Bool) (P Q : Type 0) → (P → Q → AllAlike xs ys × (p ≡ q)) → GoesOn still last xs p P → GoesOn still last ys q Q → AllAlike xs ys × (p ≡ q)
after_alike true last xs ys p q P Q later g h = both_end xs ys p q true g h
after_alike false true xs ys p q P Q later g h = both_end xs ys p q false g h
after_alike false false xs ys p q P Q later g h = later g h

-- rounds that go on lawfully from what stands firm
goes_alike : (s : Script) (p q : Bool) (r T limit : ℕ) (old : Standing) (xs ys : List Round) → IsTrue (is_sound s) → IsClosedByHomes s → Firm s T limit old → Goes s p r T old xs → Goes s q r T old ys → AllAlike xs ys × (p ≡ q)
goes_alike s p q r T limit old [] ys sound closed firm g h = absurd g
goes_alike s p q r T limit old (x ∷ xs) [] sound closed firm g h = absurd h
goes_alike s p q r T limit old (x ∷ xs) (y ∷ ys) sound closed firm g h =
    let new = g.0 in
    let same = rounds_alike s r T limit old x y new h.0 sound closed firm g.1 h.1 in
    let on : Standing → Type 0 = λ (st : Standing). GoesOn (is_at_rest s r st) (r + 1 == s.rounds) ys q (Goes s q (r + 1) (next_tick s r T st) st ys) in
    let there : on new = subst on (sym same.1) h.2 in
    let next = firm-round s r T limit old x new sound firm g.1 in
    let later = after_alike (is_at_rest s r new) (r + 1 == s.rounds) xs ys p q (Goes s p (r + 1) (next_tick s r T new) new xs) (Goes s q (r + 1) (next_tick s r T new) new ys) (λ k l. goes_alike s p q (r + 1) (next_tick s r T new) (limit + round_takes s) new xs ys sound closed next k l) g.2 there in
    ((same.0, later.0), later.1)

same_count : (xs ys : List Round) → AllAlike xs ys → length xs ≡ length ys
same_count [] [] h = refl
same_count [] (y ∷ ys) h = absurd h
same_count (x ∷ xs) [] h = absurd h
same_count (x ∷ xs) (y ∷ ys) h = ap suc (same_count xs ys h.1)

abbrev no_rounds : List Round
no_rounds = []

none_at : (n : ℕ) (x : Round) → slice_get no_rounds n ≡ Some x → ⊥
none_at zero x e = cc
none_at (suc n) x e = cc

alike_at : (xs ys : List Round) → AllAlike xs ys → (n : ℕ) (x y : Round) → slice_get xs n ≡ Some x → slice_get ys n ≡ Some y → RoundsAlike x y
alike_at [] [] h n x y e f = absurd (none_at n x e)
alike_at [] (z ∷ ys) h n x y e f = absurd h
alike_at (z ∷ xs) [] h n x y e f = absurd h
alike_at (v ∷ xs) (w ∷ ys) h zero x y e f =
    subst (λ (z : Round). RoundsAlike z y) (some_inj v x e) (subst (λ (z : Round). RoundsAlike v z) (some_inj w y f) h.0)
alike_at (v ∷ xs) (w ∷ ys) h (suc n) x y e f = alike_at xs ys h.1 n x y e f

-- of two lawful runs
pub all_alike : (s : Script) (a b : Run) → IsTrue (is_sound s) → IsClosedByHomes s → Goes s a.rest 0 s.start (opening s) a.rounds → Goes s b.rest 0 s.start (opening s) b.rounds → AllAlike a.rounds b.rounds × (a.rest ≡ b.rest)
all_alike s a b sound closed g h =
    goes_alike s a.rest b.rest 0 s.start 0 (opening s) a.rounds b.rounds sound closed (firm-opening s sound) g h

pub runs_alike : ClosedRunsAreDetermined
runs_alike s a b sound closed g h =
    let both = all_alike s a b sound closed g h in record {
      count = same_count a.rounds b.rounds both.0;
      rounds = alike_at a.rounds b.rounds both.0;
      rest = both.1;
    }
