-- What the version of a script decides (docs/MODEL.md, "Rounds").
use Rattle.std.specs.Prelude.{Bool, nat_le}
use Rattle.step_tables.specs.declared.tables.Script.{Script}

-- from version 2 on wait lists are settled after each round, and ticks jump
abbrev pub is_second : Script → Bool
is_second s = nat_le 2 s.version
