use Rattle.command_line.proofs.Dashes.{dashes_no_command}
use Rattle.command_line.proofs.laws.dashes_are_no_command.Goals as goal

pub returns : goal.returns
returns c = dashes_no_command
