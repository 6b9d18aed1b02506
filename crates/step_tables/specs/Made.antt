-- Tables that are put together: docs/SCRIPT.md, "Tables".
use Rattle.std.specs.Prelude.{List}
use Rattle.step_tables.specs.Types.{TaskDef, Event}
use Rattle.step_tables.specs.declared.tables.Settings.{Settings}
use Rattle.step_tables.specs.Tables.{Tables}

-- the tables with these settings, tasks and events, in version 1
abbrev pub tables_of : Settings → List TaskDef → List Event → Tables
tables_of c tasks events = record { version = 1; workers = c.workers; depth = c.depth; start = c.start; step = c.step; rounds = c.rounds; tasks = tasks; events = events }
