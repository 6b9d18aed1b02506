-- The arguments of the process (docs/MODEL.md, "Answers").
use Rattle.std.specs.Prelude.{List, String, Option, drop, map}
use Rattle.std.specs.declared.alloc.Global.{Global}
use Rattle.std.specs.String.{string_bytes}
use Rattle.command_line.specs.declared.command.Command.{Command}
use Rattle.command_line.specs.Commands.{command_of}

-- the command that these arguments are, behind the program's own name
abbrev pub command_among : List (String Global) → Option Command
command_among args = command_of (map (λ word. string_bytes word) (drop 1 args))
