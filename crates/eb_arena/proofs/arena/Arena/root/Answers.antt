use Rattle.std.proofs.Common.{◌∙◌, arith}
use Rattle.eb_arena.proofs.Halves.{root_fits, root_read}
use Rattle.eb_arena.proofs.arena.Arena.root.Goals as goal

pub index-requires : goal.index-requires
index-requires c =
    omega (arith, c.self.inside.halves.ok.0, root_fits _ _ _ c.args.self.now c.args.root c.len.result c.self.view_is c.self.invariant c.requires (c.len.ensures ∙ c.self.inside.marks.ok.0))

pub returns : goal.returns
returns c =
    c.link.ensures
    ∙ root_read _ _ _ c.args.self.now c.args.root c.len.result c.index.result.now c.self.view_is c.self.invariant c.requires (c.len.ensures ∙ c.self.inside.marks.ok.0) c.index.ensures
