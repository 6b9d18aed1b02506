use Rattle.std.proofs.Common.{rules}
use Rattle.board_bench.proofs.Callers.{all_back, put_both, undrawn}
use Rattle.board_bench.proofs.drive.ended.Goals as goal

pub put-requires-clause-undrawn : goal.put-requires-clause-undrawn
put-requires-clause-undrawn c =
    let d = c.args.driven in λ i l. undrawn d.board d.first.pass d.first.has.items d.first.takes i c.requires.driven.first l

pub put-requires-2-clause-undrawn : goal.put-requires-2-clause-undrawn
put-requires-2-clause-undrawn c =
    let d = c.args.driven in λ i l. undrawn d.board d.second.pass d.second.has.items d.second.takes i c.requires.driven.second l

pub finish-requires : goal.finish-requires
finish-requires c =
    let d = c.args.driven in
    let hs = c.args.homes.now in
    let first = c.if-not-is_idle.false in
    let second = c.if-not-is_idle-2.false in
    all_back d hs c.args.workers c.put-2.new.self c.requires.driven (put_both d hs c.args.workers c.put.new.self c.put-2.new.self c.requires.driven c.put.ensures c.put-2.ensures) (c.is_idle.ensures (search rules)) (c.is_idle-else-not-is_idle.ensures (search rules)) c.requires.some_workers
