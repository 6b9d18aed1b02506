use Rattle.std.proofs.Common.{inl, arith}
use Rattle.thread_loop.proofs.BoardTurns.{took-call, fewer-took, some-left, may-call, hears-call, tells-heard, on-took, called-took, undrawn-took}
use Rattle.thread_loop.proofs.worker.Worker.make_call.Goals as goal

pub make-reply-requires-clause-board : goal.make-reply-requires-clause-board
make-reply-requires-clause-board g c = c.requires.on.stage.pass

pub make-reply-requires-clause-may : goal.make-reply-requires-clause-may
make-reply-requires-clause-may g c = may-call c.args.script.now c.args.board.now c.args.self.now c.args.pass.now c.args.call.now c.requires.on c.requires.undrawn c.requires.asked

pub note_call-requires : goal.note_call-requires
note_call-requires g c =
    let some = some-left c.args.script.now c.args.call.now c.args.self.now c.requires.on.stage.sound (inl c.requires.asked) in
    let spare = c.requires.on.spare in
    omega arith

pub heard-requires-clause-fits : goal.heard-requires-clause-fits
heard-requires-clause-fits g c = c.note_call.ensures.same.fits c.args.script.now c.requires.on.fits

pub heard-requires-clause-can_give : goal.heard-requires-clause-can_give
heard-requires-clause-can_give g c = hears-call c.args.script.now c.args.board.now c.args.self.now c.note_call.new.self c.args.pass.now c.make-reply.new.pass c.args.call.now c.make-reply.result c.requires.on c.note_call.ensures.same c.requires.asked c.make-reply.ensures

pub heard-requires-clause-takes : goal.heard-requires-clause-takes
heard-requires-clause-takes g c =
    let may = may-call c.args.script.now c.args.board.now c.args.self.now c.args.pass.now c.args.call.now c.requires.on c.requires.undrawn c.requires.asked in
    tells-heard c.args.script.now c.args.board.now c.args.self.now c.note_call.new.self c.args.pass.now c.make-reply.new.pass c.args.call.now c.make-reply.result c.requires.on c.note_call.ensures.same c.requires.asked may c.make-reply.ensures

pub returns-clause-on : goal.returns-clause-on
returns-clause-on g c =
    let s = c.args.script.now in
    let w = c.args.self.now in
    let v = c.note_call.new.self in
    let u = c.heard.new.self in
    let took = took-call s c.args.call.now c.make-reply.result w v u c.requires.asked c.note_call.ensures.same c.note_call.ensures.entries c.note_call.ensures.room c.heard.ensures.log c.heard.ensures.stage c.heard.ensures.fits c.heard.ensures.number c.heard.ensures.tick c.heard.ensures.turns c.heard.ensures.takes c.heard.ensures.book in
    on-took s c.args.board.now w u c.args.pass.now c.make-reply.new.pass c.args.call.now c.make-reply.result c.requires.on (inl c.requires.asked) c.make-reply.ensures.calls c.make-reply.ensures.brings took

pub returns-clause-called : goal.returns-clause-called
returns-clause-called g c =
    let s = c.args.script.now in
    let w = c.args.self.now in
    let v = c.note_call.new.self in
    let u = c.heard.new.self in
    let took = took-call s c.args.call.now c.make-reply.result w v u c.requires.asked c.note_call.ensures.same c.note_call.ensures.entries c.note_call.ensures.room c.heard.ensures.log c.heard.ensures.stage c.heard.ensures.fits c.heard.ensures.number c.heard.ensures.tick c.heard.ensures.turns c.heard.ensures.takes c.heard.ensures.book in
    called-took s c.args.board.now w u c.args.pass.now c.make-reply.new.pass c.args.call.now c.make-reply.result c.requires.on (inl c.requires.asked) c.make-reply.ensures.calls took

pub returns-clause-undrawn : goal.returns-clause-undrawn
returns-clause-undrawn g c =
    let s = c.args.script.now in
    let w = c.args.self.now in
    let v = c.note_call.new.self in
    let u = c.heard.new.self in
    let took = took-call s c.args.call.now c.make-reply.result w v u c.requires.asked c.note_call.ensures.same c.note_call.ensures.entries c.note_call.ensures.room c.heard.ensures.log c.heard.ensures.stage c.heard.ensures.fits c.heard.ensures.number c.heard.ensures.tick c.heard.ensures.turns c.heard.ensures.takes c.heard.ensures.book in
    λ i. undrawn-took s c.args.call.now c.make-reply.result w u i c.requires.asked took

pub returns-clause-fewer : goal.returns-clause-fewer
returns-clause-fewer g c =
    let s = c.args.script.now in
    let w = c.args.self.now in
    let v = c.note_call.new.self in
    let u = c.heard.new.self in
    let took = took-call s c.args.call.now c.make-reply.result w v u c.requires.asked c.note_call.ensures.same c.note_call.ensures.entries c.note_call.ensures.room c.heard.ensures.log c.heard.ensures.stage c.heard.ensures.fits c.heard.ensures.number c.heard.ensures.tick c.heard.ensures.turns c.heard.ensures.takes c.heard.ensures.book in
    fewer-took s c.args.call.now c.make-reply.result w u c.requires.on.stage.sound (inl c.requires.asked) took
