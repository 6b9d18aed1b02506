use Rattle.std.proofs.Common.{refl}
use Rattle.board_bench.proofs.Pairs.{new_pair}
use Rattle.board_bench.proofs.pair.paired.Goals as goal

pub returns : goal.returns
returns c =
    (new_pair _ c.args.passes c.take.new.self c.requires c.in-Some.ensures.found c.in-Some.ensures.out c.in-Some-take.ensures.found c.in-Some-take.ensures.out, refl)
