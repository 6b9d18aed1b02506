use Rattle.std.proofs.Common.{arith}
use Rattle.eb32_walk.specs.Ends.{IsTree}
use Rattle.eb32_walk.proofs.Down.{some_target}
use Rattle.eb32_walk.proofs.Finding.{tree_fits, found_tree, found_place, le_in_part, le_before_part}
use Rattle.eb32_walk.proofs.search.lookup_le.Goals as goal

pub key_at-requires : goal.key_at-requires
key_at-requires c = found_tree c.args.arena.now c.args.root c.args.key c.in_ok-part.part c.in_ok-part.ensures.found

pub end_below-requires : goal.end_below-requires
end_below-requires c = found_tree c.args.arena.now c.args.root c.args.key c.in_ok-part.part c.in_ok-part.ensures.found

pub place_of-requires : goal.place_of-requires
place_of-requires c =
    let t : IsTree c.args.arena.now c.in_ok-part.part = found_tree c.args.arena.now c.args.root c.args.key c.in_ok-part.part c.in_ok-part.ensures.found in
    record { some = some_target _ _ t; exists = tree_fits _ _ t }

pub neighbour-requires : goal.neighbour-requires
neighbour-requires c = found_place c.args.arena.now c.args.root c.args.key c.in_ok-part.part c.place_of.result c.in_ok-part.ensures.found c.place_of.ensures

pub returns-then-key_at-key-clause-answer : goal.returns-then-key_at-key-clause-answer
returns-then-key_at-key-clause-answer c =
    le_in_part c.args.arena.now c.args.root c.args.key c.in_ok-part.part c.end_below.result c.in_ok-part.ensures.found (omega (arith, c.key_at.ensures, c.if-key_at-key.true)) c.end_below.ensures.answer

pub returns-else-key_at-key-clause-answer : goal.returns-else-key_at-key-clause-answer
returns-else-key_at-key-clause-answer c =
    le_before_part c.args.arena.now c.args.root c.args.key c.in_ok-part.part c.place_of.result c.neighbour.result c.in_ok-part.ensures.found (omega (arith, c.key_at.ensures, c.if-key_at-key.false)) c.place_of.ensures c.neighbour.ensures.answer
