use Rattle.std.proofs.Common.{arith}
use Rattle.board_bench.proofs.Callers.{gathered}
use Rattle.board_bench.proofs.caller.Caller.get.Goals as goal

pub returns-clause-listed : goal.returns-clause-listed
returns-clause-listed c =
    let me = c.args.self.now in
    let small = c.gather.ensures in gathered c.args.board.now me.pass c.get-word.new.pass me.has.items c.gather.new.has.items me.takes c.get-word.result c.requires.listed c.get-word.ensures.calls (let z = c.if-len-gt64.false in let y = c.len.ensures in omega arith) small.count small.each
