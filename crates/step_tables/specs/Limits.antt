-- What a script may have at most: docs/SCRIPT.md, "Limits".
use Rattle.std.specs.Prelude.{ℕ}
use Rattle.step_tables.specs.declared.limits.Limits.{Limits}

-- the newest version
abbrev pub newest : ℕ
newest = 2

-- the limits of a version; versions 1 and 2 have the same
abbrev pub limits_of : ℕ → Limits
limits_of version = record { bytes = 4194304; workers = 16; depth = 1000; start = 4294967295; step = 1048576; rounds = 100000; tasks = 4096; events = 65536 }

-- the most rows of a task, in each version
abbrev pub most_rows : ℕ
most_rows = 64

-- the most actions of a row, in each version
abbrev pub most_actions : ℕ
most_actions = 16

-- the most ticks of an expiry, in each version
abbrev pub most_delay : ℕ
most_delay = 1073741824
