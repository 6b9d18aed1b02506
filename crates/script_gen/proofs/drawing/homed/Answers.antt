use Rattle.std.proofs.Common.{sym}
use Rattle.script_gen.proofs.Homed.{homed_is}
use Rattle.script_gen.proofs.drawing.homed.Goals as goal

pub returns-clause-count : goal.returns-clause-count
returns-clause-count c = sym (homed_is c.args.size c.args.home c.requires.0)
