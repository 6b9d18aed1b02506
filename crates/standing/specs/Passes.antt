-- Rounds that a lawful run begins with (docs/MODEL.md, "Every run can go on").
use Rattle.std.specs.Prelude.{◌≡◌, ◌≢◌, ℕ, ◌+◌, false, List, [], ◌∷◌}
use Rattle.step_tables.specs.declared.tables.Script.{Script}
use Rattle.run_model.specs.Run.{Round}
use Rattle.run_model.specs.Lawful.{RoundOf}
use Rattle.run_model.specs.Standing.{Standing, next_tick, is_at_rest}

-- whole rounds from round r at tick T on, after each of which the run goes on, to what stands before round q at tick U
abbrev pub Passes : Script → ℕ → ℕ → Standing → List Round → ℕ → ℕ → Standing → Type 0
Passes s r T old [] q U new = (q ≡ r) × (U ≡ T) × (new ≡ old)
Passes s r T old (round ∷ more) q U new =
    (mid : Standing) × RoundOf s r T old round mid × (is_at_rest s r mid ≡ false) × (r + 1 ≢ s.rounds) ×
    Passes s (r + 1) (next_tick s r T mid) mid more q U new
