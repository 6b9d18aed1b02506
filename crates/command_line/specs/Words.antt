-- How `clap` is to read the words of a command line: docs/MODEL.md, "Commands".
use Rattle.std.specs.Prelude.{true, false, codes, Option, option_and_then}
use Rattle.clap.specs.Words.{App, Rule, new_app, new_rule, with_rule, first_value, found_of}
use Rattle.clap.specs.declared.parser.matches.ArgMatches.{ArgMatches}
use Rattle.command_line.specs.declared.command.Command.{Command}
use Rattle.command_line.specs.Commands.{command_in}

-- the first word, which must be there
abbrev pub name_rule : Rule
name_rule = record (new_rule (codes "command")) { required = true }

-- the program's words behind its own name: a name, and maybe a seed and a size
abbrev pub taskrun_app : App
taskrun_app =
    let empty = new_app (codes "taskrun") in
    let bare = record empty { top = record empty.top { no_binary_name = true; disable_help_flag = true } } in
    with_rule (with_rule (with_rule bare name_rule) (new_rule (codes "seed"))) (new_rule (codes "size"))

-- the command in the words that were found
abbrev pub command_found : ArgMatches → Option Command
command_found m = option_and_then (λ name. command_in name (first_value (found_of m) (codes "seed")) (first_value (found_of m) (codes "size"))) (first_value (found_of m) (codes "command"))
