use Rattle.std.proofs.Common.{◌∙◌, sym, ap, arith}
use Rattle.eb_arena.specs.declared.links.Side.TheVariants as sides
use Rattle.eb_arena.specs.Parts.{child, element_at}
use Rattle.eb_arena.specs.Links.{index_of}
use Rattle.eb_arena.proofs.Halves.{left_number, right_number, side_fits, side_read}
use Rattle.eb_arena.proofs.arena.Arena.child.Goals as goal

pub index-requires : goal.index-requires
index-requires c =
    omega (arith, c.self.inside.halves.ok.0, side_fits _ _ _ c.args.self.now (index_of c.args.node) sides.Left _ c.self.view_is c.self.invariant c.requires.exists (left_number c.args.node _ c.requires.some c.requires.inner c.half-number.ensures))

pub index-requires-2 : goal.index-requires-2
index-requires-2 c =
    omega (arith, c.self.inside.halves.ok.0, side_fits _ _ _ c.args.self.now (index_of c.args.node) sides.Right _ c.self.view_is c.self.invariant c.requires.exists (right_number c.args.node _ c.requires.some c.requires.inner c.half-number.ensures))

pub returns-in-Left : goal.returns-in-Left
returns-in-Left c =
    c.link-left.ensures
    ∙ side_read _ _ _ c.args.self.now (index_of c.args.node) sides.Left _ c.index.result.now c.self.view_is c.self.invariant c.requires.exists (left_number c.args.node _ c.requires.some c.requires.inner c.half-number.ensures) c.index.ensures
    ∙ ap (λ s. child s (element_at c.args.self.now (index_of c.args.node))) (sym c.in-Left.is)

pub returns-in-Right : goal.returns-in-Right
returns-in-Right c =
    c.link-right.ensures
    ∙ side_read _ _ _ c.args.self.now (index_of c.args.node) sides.Right _ c.index-2.result.now c.self.view_is c.self.invariant c.requires.exists (right_number c.args.node _ c.requires.some c.requires.inner c.half-number.ensures) c.index-2.ensures
    ∙ ap (λ s. child s (element_at c.args.self.now (index_of c.args.node))) (sym c.in-Right.is)
