-- What is the same in all lawful runs of a script that is closed by homes (docs/MODEL.md, "Scripts closed by homes").
use Rattle.std.specs.Prelude.{◌≡◌, ℕ, Bool, IsTrue, count_by}
use Rattle.std.specs.List.{flat_map}
use Rattle.step_tables.specs.declared.tables.Script.{Script}
use Rattle.step_tables.specs.Homes.{IsClosedByHomes}
use Rattle.step_tables.specs.Sound.{is_sound}
use Rattle.task_machine.specs.declared.calls.Entry.{Entry}
use Rattle.run_model.specs.Run.{Round, Run}
use Rattle.run_model.specs.Lawful.{RoundOf, LawfulRun}
use Rattle.run_model.specs.Standing.{Standing}
use Rattle.standing.specs.Firm.{Firm}
use Rattle.closed_runs.specs.Alike.{RoundsAlike, RunsAlike}

-- two lawful rounds from what stands firm are alike, and the same stands after them
abbrev pub ClosedRoundsAreDetermined : Type 0
ClosedRoundsAreDetermined =
    (s : Script) (r T limit : ℕ) (old : Standing) (x y : Round) (a b : Standing) → IsTrue (is_sound s) → IsClosedByHomes s →
    Firm s T limit old → RoundOf s r T old x a → RoundOf s r T old y b → RoundsAlike x y × (a ≡ b)

-- two lawful runs are alike
abbrev pub ClosedRunsAreDetermined : Type 0
ClosedRunsAreDetermined =
    (s : Script) (a b : Run) → IsTrue (is_sound s) → IsClosedByHomes s → LawfulRun s a → LawfulRun s b → RunsAlike a b

-- each test of entries is met as often in the history of the one as in that of the other
abbrev pub ClosedRunsCountAlike : Type 0
ClosedRunsCountAlike =
    (s : Script) (a b : Run) (p : Entry → Bool) → IsTrue (is_sound s) → IsClosedByHomes s → LawfulRun s a → LawfulRun s b →
    count_by p (flat_map (λ round. round.entries) a.rounds) ≡ count_by p (flat_map (λ round. round.entries) b.rounds)
