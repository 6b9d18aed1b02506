use Rattle.std.proofs.Common.{◌≡◌, ◌<◌, ◌-◌, ◌∙◌, [], ◌∷◌, sym, ap, arith, subst}
use Rattle.run_model.specs.Tables.{home_of}
use Rattle.step_tables.specs.Nexts.{row_after}
use Rattle.task_machine.specs.declared.calls.Call.TheVariants as calls
use Rattle.task_machine.specs.declared.calls.Reply.TheVariants as replies
use Rattle.turn_steps.specs.Left.{Stage, MayCall, draws_now}
use Rattle.wake_board.specs.Seen.{Held}
use Rattle.wake_board.specs.Outs.{out_of}
use Rattle.wake_board.specs.Ends.{own_by}
use Rattle.thread_loop.specs.Workers.{stage_of}
use Rattle.thread_loop.specs.BoardTurns.{OnBoard, HasCalled, at_home}
use Rattle.thread_loop.proofs.BoardTurns.{Took, some-left, fewer-took, on-took, called-took}
use Rattle.thread_loop.proofs.BoardDraws.{home-same, rows-after, own-drawn, none-out, may-draw, took-drew}
use Rattle.thread_loop.proofs.worker.Worker.begin_drawn.Goals as goal

pub body_out-body-requires-clause-board : goal.body_out-body-requires-clause-board
body_out-body-requires-clause-board c =
    let same = c.requires.on.2.calls.entry in
    let pass = c.requires.on.1.stage.pass in
    record {
      board = ap (λ (y : Held). y.board) same ∙ pass.board;
      start = ap (λ (y : Held). y.start) same ∙ pass.start;
    }

pub body_out-body-requires-clause-exists : goal.body_out-body-requires-clause-exists
body_out-body-requires-clause-exists c =
    let tasks = c.requires.on.1.stage.board.tasks in
    let lt = c.requires.exists in
    omega arith

pub body_out-body-requires-clause-drawn : goal.body_out-body-requires-clause-drawn
body_out-body-requires-clause-drawn c = own-drawn c.requires.on.0 c.args.pass.now c.args.id _ c.requires.on.2.calls

pub body_out-body-requires-clause-home : goal.body_out-body-requires-clause-home
body_out-body-requires-clause-home c = none-out c.args.pass.now c.args.id.0 c.requires.outs

pub note_call-requires : goal.note_call-requires
note_call-requires c =
    let on = c.requires.on.1 in
    let shared : home_of c.args.script.now c.args.id.0 ≡ c.args.script.now.workers = sym (on.stage.board.homes c.args.id.0 c.requires.exists) ∙ c.body_out-body.ensures.shared ∙ on.stage.board.workers in
    let some = some-left c.args.script.now _ c.args.self.now on.stage.sound (may-draw c.args.script.now c.args.board.now c.args.self.now c.args.id.0 shared c.requires.may_draw) in
    let spare = on.spare in
    omega arith

pub drew-requires-clause-fits : goal.drew-requires-clause-fits
drew-requires-clause-fits c = c.note_call.ensures.same.fits c.args.script.now c.requires.on.1.fits

pub drew-requires-clause-may_draw : goal.drew-requires-clause-may_draw
drew-requires-clause-may_draw c = subst (λ (x : Stage). 0 < draws_now c.args.script.now x) (sym (c.note_call.ensures.same.stage c.args.script.now)) c.requires.may_draw

pub drew-requires-clause-shared : goal.drew-requires-clause-shared
drew-requires-clause-shared c =
    let on = c.requires.on.1 in
    sym (on.stage.board.homes c.args.id.0 c.requires.exists) ∙ c.body_out-body.ensures.shared ∙ on.stage.board.workers

pub drew-requires-clause-row : goal.drew-requires-clause-row
drew-requires-clause-row c = c.body_out-body.ensures.row ∙ ap (λ xs. row_after xs c.args.id.0 c.body_out-body.result.takes) c.requires.nexts ∙ rows-after c.args.script.now c.args.id.0 c.body_out-body.result.takes

shared : (c : goal.After-drew) → home_of c.args.script.now c.args.id.0 ≡ c.args.script.now.workers
shared c =
    let board = c.requires.on.1.stage.board in
    sym (board.homes c.args.id.0 c.requires.exists) ∙ c.body_out-body.ensures.shared ∙ board.workers

may : (c : goal.After-drew) → MayCall c.args.script.now (stage_of c.args.script.now c.args.self.now) (calls.Draw c.args.id)
may c = may-draw c.args.script.now c.args.board.now c.args.self.now c.args.id.0 (shared c) c.requires.may_draw

took : (c : goal.After-drew) → Took c.args.script.now (calls.Draw c.args.id) replies.Done c.args.self.now c.drew.new.self
took c =
    took-drew c.args.script.now c.args.id c.body_out-body.result.takes c.args.self.now c.note_call.new.self c.drew.new.self c.note_call.ensures.same c.note_call.ensures.entries c.note_call.ensures.room c.drew.ensures.log c.drew.ensures.stage c.drew.ensures.fits c.drew.ensures.number c.drew.ensures.tick c.drew.ensures.turns c.drew.ensures.takes

home : (c : goal.After-drew) → at_home c.body_out-body.new.pass ≡ c.args.pass.now
home c = ap at_home c.body_out-body.ensures.out ∙ home-same c.args.pass.now c.requires.outs

pub returns-clause-on : goal.returns-clause-on
returns-clause-on c =
    subst (λ (y : Held). OnBoard c.args.script.now c.args.board.now c.drew.new.self y) (sym (home c)) (on-took _ _ _ _ _ _ (calls.Draw c.args.id) replies.Done c.requires.on.1 (may c) c.requires.on.2.calls c.requires.on.2.brings (took c))

pub returns-clause-called : goal.returns-clause-called
returns-clause-called c q on made =
    subst (λ (y : Held). HasCalled c.args.script.now c.args.self.now q c.drew.new.self y) (sym (home c)) (called-took _ _ _ _ q _ (calls.Draw c.args.id) replies.Done on (may c) made.calls (took c))

pub returns-clause-drawn : goal.returns-clause-drawn
returns-clause-drawn c =
    let i = c.args.id in
    record {
      exists = c.requires.exists;
      shared = shared c;
      left = (draws_now c.args.script.now (stage_of c.args.script.now c.note_call.new.self) - 1, ap (λ (x : Stage). x.left) c.drew.ensures.stage);
      drawn = ap (λ (y : Held). own_by y i.0) c.body_out-body.ensures.out ∙ own-drawn c.requires.on.0 c.args.pass.now i replies.Done c.requires.on.2.calls;
      outs = ap (λ (y : Held). y.outs) c.body_out-body.ensures.out ∙ ap (λ xs. out_of i.0 c.body_out-body.result.takes ∷ xs) c.requires.outs ∙ ap (λ n. out_of i.0 n ∷ []) (sym c.drew.ensures.told);
      few = (let told = c.drew.ensures.told in let room = c.body_out-body.ensures.room in omega arith);
    }

pub returns-clause-fewer : goal.returns-clause-fewer
returns-clause-fewer c = fewer-took c.args.script.now (calls.Draw c.args.id) replies.Done c.args.self.now c.drew.new.self c.requires.on.1.stage.sound (may c) (took c)
