-- The tables of a script, as contracts see them: docs/SCRIPT.md, "Tables".
use Rattle.std.specs.Prelude.{ℕ, List}
use Rattle.step_tables.specs.Types.{TaskDef, Event}

-- the version of the format, the settings, the tasks and the events
pub record Tables : Type 0 where
  pub version : ℕ
  pub workers : ℕ
  pub depth : ℕ
  pub start : ℕ
  pub step : ℕ
  pub rounds : ℕ
  pub tasks : List TaskDef
  pub events : List Event
