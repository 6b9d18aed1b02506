use Rattle.std.proofs.Common.{◌∙◌, List, [], ◌∷◌, ◌++◌, length, sym, ap, arith, subst, length-append}
use Rattle.task_machine.specs.declared.calls.Call.{Call}
use Rattle.task_machine.specs.declared.calls.Entry.{Entry}
use Rattle.run_model.specs.Tables.{call_of}
use Rattle.wake_board.specs.Seen.{Held}
use Rattle.turn_steps.specs.Has.{caller, said}
use Rattle.thread_loop.specs.Calls.{MayMake, IsMade}
use Rattle.thread_loop.proofs.BoardRounds.{may-act, may-post, target-in, at-busy, at-rest, acted-busy, acted-rest}
use Rattle.thread_loop.proofs.injector.Injector.act.Goals as goal

pub make_call-reply-requires-clause-board : goal.make_call-reply-requires-clause-board
make_call-reply-requires-clause-board g c = c.requires.at.1.stage.pass

pub make_call-reply-requires-clause-outs : goal.make_call-reply-requires-clause-outs
make_call-reply-requires-clause-outs g c = c.requires.at.1.outs

pub make_call-reply-requires-clause-may : goal.make_call-reply-requires-clause-may
make_call-reply-requires-clause-may g c =
    subst (λ (d : Call). MayMake c.args.board.now.start c.args.pass.now d) (sym c.call_of.ensures) (may-act c.args.script.now c.args.board.now c.args.action.now c.requires.at.0 c.args.pass.now c.requires.at.1)

pub home_of-requires : goal.home_of-requires
home_of-requires g c =
    let s = c.args.script.now in
    let a = c.args.action.now in
    let p = c.args.pass.now in
    let q = c.make_call-reply.new.pass in
    let r = c.make_call-reply.result in
    let made : IsMade c.args.board.now.start p (call_of a) r q = subst (λ (d : Call). IsMade c.args.board.now.start p d r q) c.call_of.ensures c.make_call-reply.ensures.made in
    let saw = sym c.is_rest.ensures ∙ c.if-is_rest.true in
    let lt = target-in s c.args.board.now a c.requires.at.0 p q r saw c.requires.at.1 made in
    let same = c.target-id.ensures in
    omega arith

pub make_call-requires-clause-board : goal.make_call-requires-clause-board
make_call-requires-clause-board g c =
    let same = c.make_call-reply.ensures.made.calls.entry in
    record {
      board = ap (λ (y : Held). y.board) same ∙ c.requires.at.1.stage.pass.board;
      start = ap (λ (y : Held). y.start) same ∙ c.requires.at.1.stage.pass.start;
    }

pub make_call-requires-clause-outs : goal.make_call-requires-clause-outs
make_call-requires-clause-outs g c = ap (λ (y : Held). y.outs) c.make_call-reply.ensures.made.calls.entry ∙ c.requires.at.1.outs

pub make_call-requires-clause-may : goal.make_call-requires-clause-may
make_call-requires-clause-may g c =
    let s = c.args.script.now in
    let a = c.args.action.now in
    let p = c.args.pass.now in
    let q = c.make_call-reply.new.pass in
    let r = c.make_call-reply.result in
    let made : IsMade c.args.board.now.start p (call_of a) r q = subst (λ (d : Call). IsMade c.args.board.now.start p d r q) c.call_of.ensures c.make_call-reply.ensures.made in
    let saw = sym c.is_rest.ensures ∙ c.if-is_rest.true in
    may-post s c.args.board.now a c.requires.at.0 p q r c.target-id.result c.home_of.result saw c.requires.at.1 made c.target-id.ensures c.home_of.ensures

pub make_call-requires-clause-spare : goal.make_call-requires-clause-spare
make_call-requires-clause-spare g c =
    let spare = c.requires.spare in
    let room = c.make_call-reply.ensures.room in
    let long = ap (λ (es : List Entry). length es) c.make_call-reply.ensures.logged in
    let longer = simp length-append at long in
    omega arith

pub returns-then-is_rest-clause-at : goal.returns-then-is_rest-clause-at
returns-then-is_rest-clause-at g c =
    let s = c.args.script.now in
    let a = c.args.action.now in
    let p = c.args.pass.now in
    let q = c.make_call-reply.new.pass in
    let r = c.make_call-reply.result in
    let made : IsMade c.args.board.now.start p (call_of a) r q = subst (λ (d : Call). IsMade c.args.board.now.start p d r q) c.call_of.ensures c.make_call-reply.ensures.made in
    let saw = sym c.is_rest.ensures ∙ c.if-is_rest.true in
    at-rest s c.args.board.now a p q c.make_call.new.pass r c.make_call.result c.target-id.result c.home_of.result saw made c.target-id.ensures c.home_of.ensures c.make_call.ensures.made

pub returns-then-is_rest-clause-acted : goal.returns-then-is_rest-clause-acted
returns-then-is_rest-clause-acted g c =
    let s = c.args.script.now in
    let a = c.args.action.now in
    let p = c.args.pass.now in
    let q = c.make_call-reply.new.pass in
    let r = c.make_call-reply.result in
    let made : IsMade c.args.board.now.start p (call_of a) r q = subst (λ (d : Call). IsMade c.args.board.now.start p d r q) c.call_of.ensures c.make_call-reply.ensures.made in
    let logged = c.make_call-reply.ensures.logged ∙ ap (λ (d : Call). c.args.self.now.entries ++ said (caller s.workers) d r ∷ []) c.call_of.ensures in
    let saw = sym c.is_rest.ensures ∙ c.if-is_rest.true in
    acted-rest s a c.args.self.now c.make_call-reply.new.self c.make_call.new.self p q c.make_call.new.pass r c.make_call.result c.target-id.result c.home_of.result c.requires.at.1.stage.number saw made.calls c.target-id.ensures c.home_of.ensures c.make_call.ensures.made.calls logged c.make_call-reply.ensures.room c.make_call.ensures.logged c.make_call.ensures.room

pub returns-else-is_rest-clause-at : goal.returns-else-is_rest-clause-at
returns-else-is_rest-clause-at g c =
    let a = c.args.action.now in
    let p = c.args.pass.now in
    let q = c.make_call-reply.new.pass in
    let r = c.make_call-reply.result in
    let made : IsMade c.args.board.now.start p (call_of a) r q = subst (λ (d : Call). IsMade c.args.board.now.start p d r q) c.call_of.ensures c.make_call-reply.ensures.made in
    let saw = sym c.is_rest.ensures ∙ c.if-is_rest.false in
    at-busy c.args.script.now c.args.board.now a p q r saw made

pub returns-else-is_rest-clause-acted : goal.returns-else-is_rest-clause-acted
returns-else-is_rest-clause-acted g c =
    let s = c.args.script.now in
    let a = c.args.action.now in
    let p = c.args.pass.now in
    let q = c.make_call-reply.new.pass in
    let r = c.make_call-reply.result in
    let made : IsMade c.args.board.now.start p (call_of a) r q = subst (λ (d : Call). IsMade c.args.board.now.start p d r q) c.call_of.ensures c.make_call-reply.ensures.made in
    let logged = c.make_call-reply.ensures.logged ∙ ap (λ (d : Call). c.args.self.now.entries ++ said (caller s.workers) d r ∷ []) c.call_of.ensures in
    let saw = sym c.is_rest.ensures ∙ c.if-is_rest.false in
    acted-busy s a c.args.self.now c.make_call-reply.new.self p q r c.requires.at.1.stage.number saw made.calls logged c.make_call-reply.ensures.room
