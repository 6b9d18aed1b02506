-- What the words of a command line mean: docs/MODEL.md, "Commands".
use Rattle.std.specs.Prelude.{ℕ, zero, suc, Bool, true, false, not, ◌&&◌, ◌==◌, nat_lt, nat_le, if◌then◌else◌, List, [], ◌∷◌, length, Option, Some, None, option_and_then, option_map, codes, bytes_eq}
use Rattle.std.specs.List.{list_any}
use Rattle.text_lines.specs.Pieces.{Word}
use Rattle.text_lines.specs.Numbers.{number}
use Rattle.command_line.specs.declared.command.Command.{Command}
use Rattle.command_line.specs.declared.command.Command.TheVariants.{Run, Replay, Gen}

-- the command of one word
abbrev pub bare_command : Word → Option Command
bare_command name = if bytes_eq name (codes "run") then Some Run else (if bytes_eq name (codes "replay") then Some Replay else None)

-- a seed and a size that is not 0
abbrev pub generation_of : ℕ → ℕ → Option Command
generation_of seed zero = None
generation_of seed (suc n) = Some (Gen seed (suc n))

-- a seed of at most 64 bits, and a size from 1 to 4,096, each without a leading zero
abbrev pub generation : Word → Word → Option Command
generation seed size = option_and_then (λ n. option_and_then (generation_of n) (number 4096 size)) (number 18446744073709551615 seed)

-- the command of this name with a seed and a size, or with neither
abbrev pub command_in : Word → Option Word → Option Word → Option Command
command_in name None None = bare_command name
command_in name (Some seed) (Some size) = if bytes_eq name (codes "gen") then generation seed size else None
command_in name None (Some size) = None
command_in name (Some seed) None = None

-- the command that these words are: `run`, `replay`, or `gen` with a seed and a size
abbrev pub command_of : List Word → Option Command
command_of [] = None
command_of (name ∷ []) = command_in name None None
command_of (name ∷ seed ∷ []) = None
command_of (name ∷ seed ∷ size ∷ []) = command_in name (Some seed) (Some size)
command_of (name ∷ seed ∷ size ∷ other ∷ words) = None

-- whether the word begins with a dash (45)
abbrev pub begins_with_dash : Word → Bool
begins_with_dash [] = false
begins_with_dash (c ∷ cs) = c == 45

-- whether there are one to three words and none begins with a dash
abbrev pub may_command : List Word → Bool
may_command words = nat_le 1 (length words) && (nat_le (length words) 3 && not (list_any begins_with_dash words))
