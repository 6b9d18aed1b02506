use Rattle.std.proofs.Common.{◌*◌, arith}
use Rattle.eb_arena.proofs.Halves.{mark_fits, key_put}
use Rattle.eb_arena.proofs.arena.Arena.set_key.Goals as goal

pub index_mut-requires : goal.index_mut-requires
index_mut-requires c = omega (arith, c.self.inside.marks.ok.0, mark_fits _ _ _ c.args.self.now c.args.entry (2 * c.args.entry) c.self.view_is c.self.invariant c.requires (omega arith))

pub returns : goal.returns
returns c = key_put _ _ _ c.args.self.now c.args.entry c.args.key c.self.view_is c.self.invariant c.requires
