use Rattle.board_bench.proofs.Callers.{may_take_own}
use Rattle.board_bench.proofs.caller.take_own.Goals as goal

pub take-requires-clause-may : goal.take-requires-clause-may
take-requires-clause-may c =
    may_take_own c.args.board.now c.args.pass.now c.args.id.0 c.requires.used.start c.requires.held c.requires.home c.requires.worker c.requires.room
