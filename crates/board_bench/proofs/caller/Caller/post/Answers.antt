use Rattle.std.proofs.Common.{get_or, refl, arith}
use Rattle.task_machine.specs.declared.calls.Call.TheVariants as calls
use Rattle.task_machine.specs.declared.calls.Reply.TheVariants as replies
use Rattle.board_bench.specs.declared.has.Has.TheVariants as kinds
use Rattle.board_bench.proofs.Callers.{changed}
use Rattle.board_bench.proofs.caller.Caller.post.Goals as goal

pub returns-clause-listed : goal.returns-clause-listed
returns-clause-listed c =
    let me = c.args.self.now in
    changed c.args.board.now me.pass c.post.new.pass me.has.items me.takes me.takes (calls.Post c.args.id (get_or c.args.homes.now c.args.id.0 0)) replies.Done c.args.id.0 kinds.Nothing (λ g e. cc) refl c.requires.listed c.post.ensures (omega arith) refl (λ i. omega arith)
