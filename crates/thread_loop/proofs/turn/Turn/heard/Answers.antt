use Rattle.std.proofs.Common.{arith}
use Rattle.thread_loop.proofs.Turns.{acts_few, drops_in, retires_in, drawn_in, given_get, given_wake, given_act}
use Rattle.thread_loop.proofs.turn.Turn.heard.Goals as goal

pub heard_get-requires-clause-exist : goal.heard_get-requires-clause-exist
heard_get-requires-clause-exist c = (given_get c.args.script.now c.args.self.now.tick c.args.self.now.queues _ _ c.args.reply.now c.in-Gets.is c.requires.given).exist

pub heard_get-requires-clause-absent : goal.heard_get-requires-clause-absent
heard_get-requires-clause-absent c = (given_get c.args.script.now c.args.self.now.tick c.args.self.now.queues _ _ c.args.reply.now c.in-Gets.is c.requires.given).absent

pub heard_wake-requires-clause-exists : goal.heard_wake-requires-clause-exists
heard_wake-requires-clause-exists c = (given_wake c.args.script.now c.args.self.now.tick c.args.self.now.queues _ _ c.args.reply.now c.in-Wakes.is c.requires.given).exists

pub overflow_add-next : goal.overflow_add-next
overflow_add-next c =
    let few = acts_few c.args.script.now _ c.in-Acts.run' c.in-Acts.next c.requires.sound c.in-Acts.is c.requires.fits.phase in
    omega arith

pub heard_act-requires-clause-known : goal.heard_act-requires-clause-known
heard_act-requires-clause-known c =
    rw c.target-task.ensures (given_act c.args.script.now c.args.self.now.tick c.args.self.now.queues _ c.in-Acts.run' c.in-Acts.next c.action_of.result.now _ c.args.reply.now c.in-Acts.is c.action_of.ensures c.requires.given).exists

pub heard_drop-requires-clause-exists : goal.heard_drop-requires-clause-exists
heard_drop-requires-clause-exists c = drops_in c.args.script.now c.args.self.now.tick c.args.self.now.queues _ _ _ c.in-Drops.is c.requires.tasks

pub heard_retire-requires-clause-exists : goal.heard_retire-requires-clause-exists
heard_retire-requires-clause-exists c = retires_in c.args.script.now c.args.self.now.tick c.args.self.now.queues _ _ _ _ c.in-Retires.is c.requires.tasks

pub begin_run-requires-clause-exists : goal.begin_run-requires-clause-exists
begin_run-requires-clause-exists c = drawn_in c.args.script.now c.args.self.now.tick c.args.self.now.queues _ _ _ c.in-Drawn.is c.requires.tasks
