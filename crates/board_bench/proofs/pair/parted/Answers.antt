use Rattle.board_bench.proofs.Pairs.{never_drawn, second_out, pair_back}
use Rattle.board_bench.proofs.pair.parted.Goals as goal

pub put-requires-clause-undrawn : goal.put-requires-clause-undrawn
put-requires-clause-undrawn c = λ i l. never_drawn _ _ i c.requires.first

pub put-requires-2-clause-undrawn : goal.put-requires-2-clause-undrawn
put-requires-2-clause-undrawn c = λ i l. never_drawn _ _ i c.requires.second

pub put-requires-2-clause-out : goal.put-requires-2-clause-out
put-requires-2-clause-out c = second_out c.args.pair c.put.new.self c.requires c.put.ensures

pub finish-requires : goal.finish-requires
finish-requires c = pair_back c.args.pair c.put.new.self c.put-2.new.self c.requires c.put.ensures c.put-2.ensures
