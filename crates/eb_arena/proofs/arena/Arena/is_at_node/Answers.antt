use Rattle.std.proofs.Common.{arith}
use Rattle.eb_arena.proofs.Halves.{at_node, counted}
use Rattle.eb_arena.proofs.arena.Arena.is_at_node.Goals as goal

pub returns : goal.returns
returns c =
    at_node c.args.place c.half.result c.len.result _ c.requires c.half.ensures (omega (arith, c.len.ensures, c.self.inside.marks.ok.0, c.self.invariant.pairs, counted _ _ _ c.args.self.now c.self.view_is))
