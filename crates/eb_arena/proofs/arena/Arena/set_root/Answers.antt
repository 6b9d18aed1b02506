use Rattle.std.proofs.Common.{◌∙◌, ap, arith}
use Rattle.eb_arena.specs.Parts.{with_link}
use Rattle.eb_arena.proofs.Halves.{root_fits, root_put}
use Rattle.eb_arena.proofs.arena.Arena.set_root.Goals as goal

pub index_mut-requires : goal.index_mut-requires
index_mut-requires c =
    omega (arith, c.self.inside.halves.ok.0, root_fits _ _ _ c.args.self.now c.args.root c.len.result c.self.view_is c.self.invariant c.requires (c.len.ensures ∙ c.self.inside.marks.ok.0))

pub returns : goal.returns
returns c =
    root_put _ _ _ c.args.self.now c.args.root c.len.result _ c.self.view_is c.self.invariant c.requires (c.len.ensures ∙ c.self.inside.marks.ok.0)
    ∙ ap (λ t. with_link c.args.self.now c.args.root t) c.stored.ensures
