-- Laws of lawful runs (docs/MODEL.md, "A test for lawful runs").
use Rattle.std.specs.Prelude.{◌≡◌, ℕ, ◌+◌, ◌*◌, ◌%◌, ◌^◌, ◌<◌, IsTrue, ◌↔◌, Some, slice_get}
use Rattle.step_tables.specs.declared.tables.Script.{Script}
use Rattle.run_model.specs.Run.{Round, Run}
use Rattle.run_model.specs.Lawful.{LawfulRun}
use Rattle.run_model.specs.IsLawful.{is_lawful}

-- the test tells the lawful runs of each script from all others
abbrev pub LawfulRunsAreDecided : Type 0
LawfulRunsAreDecided = (s : Script) (run : Run) → IsTrue (is_lawful s run) ↔ LawfulRun s run

-- in version 1 round k of a lawful run is k steps after the start, on the circle of ticks
abbrev pub LawfulRunsKeepTime : Type 0
LawfulRunsKeepTime =
    (s : Script) (run : Run) (k : ℕ) (round : Round) → s.version ≡ 1 → s.start < 2 ^ 32 → LawfulRun s run →
    slice_get run.rounds k ≡ Some round → round.tick ≡ (s.start + k * s.step) % 2 ^ 32
