-- A script that is to be generated has a size in range.
use Rattle.std.proofs.Common.{map}
use Rattle.std.specs.String.{string_bytes}
use Rattle.taskrun.proofs.Served.{has_size}
use Rattle.taskrun.proofs.top.carry_out.Goals as goal

pub serve-requires-clause-size : goal.serve-requires-clause-size
serve-requires-clause-size g c κs within = has_size c.in-Ok.command (map (λ word. string_bytes word) c.args.words.now) c.in-Ok.ensures
