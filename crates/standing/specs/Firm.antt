-- All that stands together before a round (docs/MODEL.md, "Machine and books agree").
use Rattle.std.specs.Prelude.{ℕ, ◌^◌, ◌<◌}
use Rattle.step_tables.specs.declared.tables.Script.{Script}
use Rattle.run_model.specs.Standing.{Standing}
use Rattle.standing.specs.Between.{KeepsBetween}
use Rattle.standing.specs.Homes.{HomesBetween}
use Rattle.standing.specs.Clock.{ClockBefore}

-- before a round at tick T, where no task was taken more than limit times
pub record Firm (s : Script) (T limit : ℕ) (st : Standing) : Type 0 where
  pub tick : T < 2 ^ 32
  pub places : KeepsBetween s limit st
  pub homes : HomesBetween s st
  pub clock : ClockBefore s T st
