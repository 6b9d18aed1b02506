-- Every run can go on: whole rounds and any calls of the next are the begin of a lawful run to its end.
use Rattle.std.proofs.Common.{◌≡◌, ℕ, zero, suc, ◌+◌, ◌-◌, ◌*◌, ◌^◌, ◌<◌, Bool, true, false, ◌==◌, inl, inr, List, [], ◌∷◌, ◌++◌, refl, sym, arith, subst, eq-eqb, ne_eqb, MatchBool}
use Rattle.std.proofs.lemmas.Bool.{cases_Bool, cases_eq}
use Rattle.step_tables.specs.declared.tables.Script.{Script}
use Rattle.task_machine.specs.declared.calls.Entry.{Entry}
use Rattle.run_model.specs.Run.{Round}
use Rattle.run_model.specs.Lawful.{Goes, LawfulRun}
use Rattle.run_model.specs.Standing.{Standing, opening, next_tick, is_at_rest}
use Rattle.turn_steps.specs.Ranges.{IsFit}
use Rattle.standing.specs.Between.{KeepsBetween, entered, round_takes}
use Rattle.standing.specs.Going.{Going}
use Rattle.standing.specs.Passes.{Passes}
use Rattle.standing.proofs.Opening.{KeepsBetween-opening}
use Rattle.standing.proofs.Rounds.{completes, KeepsBetween-round}

-- calls of round r brought to the end of a run
pub record Ends (s : Script) (r T : ℕ) (old : Standing) (es : List Entry) : Type 0 where
  pub rest : Bool
  pub more : List Entry
  pub later : List Round
  pub goes : Goes s rest r T old (record { tick = T; entries = es ++ more } ∷ later)

-- a run goes on after a round as its end decides
abbrev After : Script → Bool → ℕ → ℕ → Standing → List Round → Type 0
After s rest r T new more =
    MatchBool (is_at_rest s r new) ((more ≡ []) × (rest ≡ true)) (MatchBool (r + 1 == s.rounds) ((more ≡ []) × (rest ≡ false)) (Goes s rest (r + 1) (next_tick s r T new) new more))

at_rest : (s : Script) (r T : ℕ) (new : Standing) → is_at_rest s r new ≡ true → After s true r T new []
at_rest s r T new e = rw e (refl, refl)

at_last : (s : Script) (r T : ℕ) (new : Standing) → is_at_rest s r new ≡ false → (r + 1 == s.rounds) ≡ true → After s false r T new []
at_last s r T new e f = rw (e, f) (refl, refl)

goes_after : (s : Script) (rest : Bool) (r T : ℕ) (new : Standing) (more : List Round) → is_at_rest s r new ≡ false → (r + 1 == s.rounds) ≡ false → Goes s rest (r + 1) (next_tick s r T new) new more → After s rest r T new more
goes_after s rest r T new more e f h = rw (e, f) h

pub ends : (s : Script) (n r T limit : ℕ) (old : Standing) (es : List Entry) → IsFit s → r + n ≡ s.rounds → limit + n * round_takes s < 2 ^ 48 → 0 < n → KeepsBetween s limit old → Going s T (entered s r T old) es → Ends s r T old es
ends s zero r T limit old es fit e below some keeps h = absurd (omega arith)
ends s (suc n) r T limit old es fit e below some keeps h =
    let now : limit + round_takes s < 2 ^ 48 = room (round_takes s) n limit below in
    let c = completes s r T limit old es fit now keeps h in
    let new = c.new in
    elim (cases_Bool (is_at_rest s r new)) [
      | inl rests ↦ record { rest = true; more = c.more; later = []; goes = (new, c.lawful, at_rest s r T new rests) }
      | inr goes_on ↦
          elim (cases_eq (r + 1) s.rounds) [
            | inl last ↦ record { rest = false; more = c.more; later = []; goes = (new, c.lawful, at_last s r T new goes_on (eq-eqb (r + 1) s.rounds last)) }
            | inr ne ↦
                (let kept = KeepsBetween-round s r T limit old (record { tick = T; entries = es ++ c.more }) new fit keeps c.lawful in
                let next = ends s n (r + 1) (next_tick s r T new) (limit + round_takes s) new [] fit (omega arith) (room_left (round_takes s) n limit below) (omega arith) kept tt in
                record {
                  rest = next.rest;
                  more = c.more;
                  later = record { tick = next_tick s r T new; entries = next.more } ∷ next.later;
                  goes = (new, c.lawful, goes_after s next.rest r T new (record { tick = next_tick s r T new; entries = next.more } ∷ next.later) goes_on (ne_eqb (r + 1) s.rounds ne) next.goes);
                })
          ]
    ]
  where
    room : (t n limit : ℕ) → limit + suc n * t < 2 ^ 48 → limit + t < 2 ^ 48
    room t n limit h = omega arith

    room_left : (t n limit : ℕ) → limit + suc n * t < 2 ^ 48 → limit + t + n * t < 2 ^ 48
    room_left t n limit h = omega arith

-- what whole rounds lead to
pub record Passed (s : Script) (limit r q : ℕ) (new : Standing) : Type 0 where
  pub count : ℕ
  pub rounds : q ≡ r + count
  pub below : q < s.rounds
  pub keeps : KeepsBetween s (limit + count * round_takes s) new

pub KeepsBetween-passes : (s : Script) (limit r T : ℕ) (old : Standing) (rounds : List Round) (q U : ℕ) (new : Standing) → IsFit s → r < s.rounds → KeepsBetween s limit old → Passes s r T old rounds q U new → Passed s limit r q new
KeepsBetween-passes s limit r T old [] q U new fit lt keeps h =
    let same : limit ≡ limit + 0 * round_takes s = omega arith in
    record {
      count = 0;
      rounds = omega (arith, h.0);
      below = omega (arith, h.0);
      keeps = subst (λ (st : Standing). KeepsBetween s (limit + 0 * round_takes s) st) (sym h.2) (subst (λ (n : ℕ). KeepsBetween s n old) same keeps);
    }
KeepsBetween-passes s limit r T old (round ∷ more) q U new fit lt keeps h =
    let mid = h.0 in
    let ne = h.3 in
    let kept = KeepsBetween-round s r T limit old round mid fit keeps h.1 in
    let p = KeepsBetween-passes s (limit + round_takes s) (r + 1) (next_tick s r T mid) mid more q U new fit (omega arith) kept h.4 in
    let same : limit + round_takes s + p.count * round_takes s ≡ limit + (p.count + 1) * round_takes s = one_more (round_takes s) p.count limit in
    record {
      count = p.count + 1;
      rounds = omega (arith, p.rounds);
      below = p.below;
      keeps = subst (λ (n : ℕ). KeepsBetween s n new) same p.keeps;
    }
  where
    one_more : (t n limit : ℕ) → limit + t + n * t ≡ limit + (n + 1) * t
    one_more t n limit = omega arith

pub goes-passes : (s : Script) (rest : Bool) (r T : ℕ) (old : Standing) (rounds : List Round) (q U : ℕ) (new : Standing) (more : List Round) → Passes s r T old rounds q U new → Goes s rest q U new more → Goes s rest r T old (rounds ++ more)
goes-passes s rest r T old [] q U new more h g =
    subst (λ (st : Standing). Goes s rest r T st more) h.2 (subst (λ (n : ℕ). Goes s rest r n new more) h.1 (subst (λ (n : ℕ). Goes s rest n U new more) h.0 g))
goes-passes s rest r T old (round ∷ rounds) q U new more h g =
    (h.0, h.1, goes_after s rest r T h.0 (rounds ++ more) h.2 (ne_eqb (r + 1) s.rounds h.3) (goes-passes s rest (r + 1) (next_tick s r T h.0) h.0 rounds q U new more h.4 g))

-- a lawful run that begins with whole rounds and calls of the next
pub record Extends (s : Script) (rounds : List Round) (U : ℕ) (es : List Entry) : Type 0 where
  pub rest : Bool
  pub more : List Entry
  pub later : List Round
  pub lawful : LawfulRun s (record { rounds = rounds ++ record { tick = U; entries = es ++ more } ∷ later; rest = rest })

pub extends : (s : Script) (rounds : List Round) (q U : ℕ) (st : Standing) (es : List Entry) → IsFit s → 0 < s.rounds → s.rounds * round_takes s < 2 ^ 48 → Passes s 0 s.start (opening s) rounds q U st → Going s U (entered s q U st) es → Extends s rounds U es
extends s rounds q U st es fit some below h g =
    let p = KeepsBetween-passes s 0 0 s.start (opening s) rounds q U st fit some (KeepsBetween-opening s) h in
    let left = s.rounds - q in
    let e = ends s left q U (0 + p.count * round_takes s) st es fit (omega (arith, p.below)) (in_all (round_takes s) p.count left s.rounds (omega (arith, p.below, p.rounds)) below) (omega (arith, p.below)) p.keeps g in
    record {
      rest = e.rest;
      more = e.more;
      later = e.later;
      lawful = goes-passes s e.rest 0 s.start (opening s) rounds q U st (record { tick = U; entries = es ++ e.more } ∷ e.later) h e.goes;
    }
  where
    in_all : (t m n all : ℕ) → m + n ≡ all → all * t < 2 ^ 48 → 0 + m * t + n * t < 2 ^ 48
    in_all t m n all e h = let same : all * t ≡ m * t + n * t = (rw (← e) (omega arith)) in omega arith
