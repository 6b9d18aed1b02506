use Rattle.std.proofs.Common.{◌∙◌, ◌+◌, ◌*◌, w16, arith, rules}
use mir.Val.{SFits}
use Rattle.std.proofs.lemmas.Int.{to_z-of_z}
use Rattle.eb_arena.specs.Links.{index_of}
use Rattle.eb_arena.proofs.Halves.{half_fits, mark_fits, node_number, node_read, same_links}
use Rattle.eb_arena.proofs.arena.Arena.node.Goals as goal

pub index-requires : goal.index-requires
index-requires c = omega (arith, c.self.inside.halves.ok.0, half_fits _ _ _ c.args.self.now (index_of c.args.node) (2 * index_of c.args.node + 1) c.self.view_is c.self.invariant c.requires.exists (omega arith), node_number c.args.node _ c.requires.some c.requires.inner c.half-number.ensures)

pub index-requires-2 : goal.index-requires-2
index-requires-2 c = omega (arith, c.self.inside.halves.ok.0, half_fits _ _ _ c.args.self.now (index_of c.args.node) (2 * index_of c.args.node + 1) c.self.view_is c.self.invariant c.requires.exists (omega arith), node_number c.args.node _ c.requires.some c.requires.inner c.half-number.ensures)

pub index-requires-3 : goal.index-requires-3
index-requires-3 c = omega (arith, c.self.inside.halves.ok.0, half_fits _ _ _ c.args.self.now (index_of c.args.node) (2 * index_of c.args.node + 1) c.self.view_is c.self.invariant c.requires.exists (omega arith), node_number c.args.node _ c.requires.some c.requires.inner c.half-number.ensures)

pub index-requires-4 : goal.index-requires-4
index-requires-4 c = omega (arith, c.self.inside.halves.ok.0, half_fits _ _ _ c.args.self.now (index_of c.args.node) (2 * index_of c.args.node + 1) c.self.view_is c.self.invariant c.requires.exists (omega arith), node_number c.args.node _ c.requires.some c.requires.inner c.half-number.ensures)

pub index-requires-5 : goal.index-requires-5
index-requires-5 c = omega (arith, c.self.inside.marks.ok.0, mark_fits _ _ _ c.args.self.now (index_of c.args.node) (2 * index_of c.args.node + 1) c.self.view_is c.self.invariant c.requires.exists (omega arith), node_number c.args.node _ c.requires.some c.requires.inner c.half-number.ensures)

pub index-requires-6 : goal.index-requires-6
index-requires-6 c = omega (arith, c.self.inside.marks.ok.0, mark_fits _ _ _ c.args.self.now (index_of c.args.node) (2 * index_of c.args.node + 1) c.self.view_is c.self.invariant c.requires.exists (omega arith), node_number c.args.node _ c.requires.some c.requires.inner c.half-number.ensures)

pub returns : goal.returns
returns c =
    let f : SFits w16 c.bit_in.result = search rules in
    same_links _ _ _ _ _ _ _ _ _ _ c.link.ensures c.link-2.ensures c.up.ensures c.up-2.ensures
    ∙ node_read _ _ _ c.args.self.now (index_of c.args.node) c.half-number.result c.index.result.now c.index-2.result.now c.index-3.result.now c.index-4.result.now _ _ _ c.self.view_is c.self.invariant c.requires.exists (node_number c.args.node _ c.requires.some c.requires.inner c.half-number.ensures) c.index.ensures c.index-2.ensures c.index-3.ensures c.index-4.ensures c.index-5.ensures c.index-6.ensures (to_z-of_z w16 c.bit_in.result f ∙ c.bit_in.ensures)
