-- Which lines are allowed, one after another (docs/MODEL.md, "Lines that are allowed").
use Rattle.std.specs.Prelude.{◌≡◌, ◌≢◌, ℕ, ◌+◌, ◌<◌, ◌≤◌, ◌⊎◌, Some, true, false, List, [], ◌∷◌, ◌++◌, MatchBool}
use Rattle.step_tables.specs.declared.tables.Script.{Script}
use Rattle.task_machine.specs.declared.calls.Entry.{Entry}
use Rattle.run_model.specs.Standing.{Standing, opening, next_tick, is_at_rest, is_served, is_draw}
use Rattle.transcript.specs.declared.lines.Line.{Line}
use Rattle.transcript.specs.declared.lines.Line.TheVariants as line
use Rattle.standing.specs.Keeps.{Callers}
use Rattle.standing.specs.Going.{gone_on, IsDone}
use Rattle.turn_steps.specs.Left.{asked, draws_now}
use Rattle.task_machine.specs.Step.{Allowed}
use Rattle.standing.specs.Between.{entered, left_by}

-- how far lines have come: none; in round r at tick T after these entries, from what stood before it; at the end
pub data Track : Type 0 where
  begins : Track
  within : ℕ → ℕ → Standing → List Entry → Track
  ended : Track

-- the callers in a round after these entries
abbrev pub callers_at : Script → ℕ → ℕ → Standing → List Entry → Callers
callers_at s r T old es = gone_on s T (entered s r T old) es

-- what stands after a round of these entries
abbrev pub stands_at : Script → ℕ → ℕ → Standing → List Entry → Standing
stands_at s r T old es = left_by s T (callers_at s r T old es)

-- an entry that its caller may make: its next call, or a draw where it may draw, and the machine allows it
pub record MayEnter (s : Script) (c : Callers) (e : Entry) : Type 0 where
  pub caller : e.caller.0 ≤ s.workers
  pub asks : (asked s (c.at e.caller.0) ≡ Some e.call) ⊎ ((is_draw e.call ≡ true) × (0 < draws_now s (c.at e.caller.0)))
  pub allowed : Allowed c.state e

-- once nobody has a call left but draws, and the shared box was served, the round is whole
abbrev pub IsWhole : Script → ℕ → ℕ → Standing → List Entry → Type 0
IsWhole s r T old es = IsDone s (callers_at s r T old es) × (is_served s old.state es ≡ true)

-- the first line is that of round 0; in a round an entry may come that its caller may make; once the round is whole, the next
-- round or the end, as the run goes on or not
abbrev pub May : Script → Track → Line → Track → Type 0
May s begins (line.Round number tick) t = (number ≡ 0) × (tick ≡ s.start) × (t ≡ within 0 s.start (opening s) [])
May s begins (line.Entry e) t = ⊥
May s begins (line.End rest last) t = ⊥
May s (within r T old es) (line.Round number tick) t =
    IsWhole s r T old es × (is_at_rest s r (stands_at s r T old es) ≡ false) × (r + 1 ≢ s.rounds) ×
    (number ≡ r + 1) × (tick ≡ next_tick s r T (stands_at s r T old es)) × (t ≡ within (r + 1) (next_tick s r T (stands_at s r T old es)) (stands_at s r T old es) [])
May s (within r T old es) (line.Entry e) t = MayEnter s (callers_at s r T old es) e × (t ≡ within r T old (es ++ e ∷ []))
May s (within r T old es) (line.End rest last) t =
    IsWhole s r T old es × (last ≡ r) ×
    MatchBool (is_at_rest s r (stands_at s r T old es)) (rest ≡ true) ((r + 1 ≡ s.rounds) × (rest ≡ false)) × (t ≡ ended)
May s ended l t = ⊥

-- each line is allowed after those before it
abbrev pub AllMay : Script → Track → List Line → Type 0
AllMay s t [] = Unit {0}
AllMay s t (l ∷ ls) = (u : Track) × May s t l u × AllMay s u ls
