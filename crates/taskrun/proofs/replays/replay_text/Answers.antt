use Rattle.std.proofs.Common.{arith}
use Rattle.taskrun.proofs.TextLengths.{lines_follow, lines_within}
use Rattle.taskrun.proofs.replays.replay_text.Goals as goal

pub replay_lines-requires-clause-order : goal.replay_lines-requires-clause-order
replay_lines-requires-clause-order g c = (lines_follow c.args.text.now c.in-Ok.transcript c.in-Ok.ensures.given).order

pub replay_lines-requires-clause-few : goal.replay_lines-requires-clause-few
replay_lines-requires-clause-few g c = let few = lines_within c.args.text.now c.in-Ok.transcript c.in-Ok.ensures.given in omega (arith, c.requires)
