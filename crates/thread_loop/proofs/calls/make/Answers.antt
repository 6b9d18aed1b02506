use Rattle.std.proofs.Common.{inl, subst}
use Rattle.task_machine.specs.declared.calls.Call.{Call}
use Rattle.wake_board.specs.Own.{known_takes}
use Rattle.thread_loop.specs.Calls.{MayMake}
use Rattle.thread_loop.proofs.Boards.{may-take, few-take, made-take}
use Rattle.thread_loop.proofs.calls.make.Goals as goal

pub take-requires-clause-may : goal.take-requires-clause-may
take-requires-clause-may c =
    let p = c.args.pass.now in
    let may = subst (λ (d : Call). MayMake c.args.board.now.start p d) c.in-Take.is c.requires.may in
    (known_takes p.start p.entries c.in-Take.id.0, inl (may-take c.args.board.now p c.in-Take.id c.requires.board may), few-take c.args.board.now p c.in-Take.id c.requires.board may)

pub returns-in-Take : goal.returns-in-Take
returns-in-Take c =
    let p = c.args.pass.now in
    let may = subst (λ (d : Call). MayMake c.args.board.now.start p d) c.in-Take.is c.requires.may in
    let told = c.take.ensures.takes (known_takes p.start p.entries c.in-Take.id.0) (inl (may-take c.args.board.now p c.in-Take.id c.requires.board may)) in
    made-take c.args.board.now p c.take.new.pass c.args.call.now c.in-Take.id c.take.result c.in-Take.is c.requires.board c.take.ensures.calls told
