use Rattle.std.proofs.Common.{◌≡◌, ◌∙◌, Some, inl, sym, ap, arith, subst}
use Rattle.task_machine.specs.declared.calls.Call.TheVariants as calls
use Rattle.task_machine.specs.declared.calls.Reply.TheVariants as replies
use Rattle.step_tables.specs.Nexts.{row_after}
use Rattle.run_model.specs.Tables.{row_number}
use Rattle.wake_board.specs.declared.body.Body.{Body}
use Rattle.wake_board.specs.Seen.{Held, Calls}
use Rattle.turn_steps.specs.Left.{asked}
use Rattle.thread_loop.specs.Workers.{takes_of, stage_of}
use Rattle.thread_loop.specs.BoardTurns.{OnBoard, HasCalled, at_home}
use Rattle.thread_loop.proofs.BoardTurns.{Took, some-left, took-call, hears-drawn, tells-drawn, fewer-took, on-took, called-took, undrawn-took}
use Rattle.thread_loop.proofs.BoardDraws.{rows-after, may-take-drawn, calls-home, asked-drawn, out-taken, back-home, taken-more}
use Rattle.thread_loop.proofs.worker.Worker.take_drawn.Goals as goal

pub take-requires-clause-board : goal.take-requires-clause-board
take-requires-clause-board g c = record { board = c.requires.on.stage.pass.board; start = c.requires.on.stage.pass.start }

pub take-requires-clause-exists : goal.take-requires-clause-exists
take-requires-clause-exists g c =
    let tasks = c.requires.on.stage.board.tasks in
    let lt = c.requires.drawn.exists in
    omega arith

pub take-requires-clause-may : goal.take-requires-clause-may
take-requires-clause-may g c =
    let s = c.args.script.now in
    let b = c.args.board.now in
    let w = c.args.self.now in
    let p = c.args.pass.now in
    let i = c.args.id in
    let d = c.requires.drawn in
    let on = c.requires.on in
    let asks = asked-drawn s w p i.0 d in
    let some = some-left s (calls.Take i) w on.stage.sound (inl asks) in
    (takes_of w i.0, may-take-drawn s b w p i.0 on d some, d.few)

pub note_call-requires : goal.note_call-requires
note_call-requires g c =
    let s = c.args.script.now in
    let b = c.args.board.now in
    let w = c.args.self.now in
    let p = c.args.pass.now in
    let i = c.args.id in
    let d = c.requires.drawn in
    let on = c.requires.on in
    let asks = asked-drawn s w p i.0 d in
    let some = some-left s (calls.Take i) w on.stage.sound (inl asks) in
    let spare = on.spare in
    omega arith

pub heard-requires-clause-fits : goal.heard-requires-clause-fits
heard-requires-clause-fits g c = c.note_call.ensures.same.fits c.args.script.now c.requires.on.fits

pub heard-requires-clause-can_give : goal.heard-requires-clause-can_give
heard-requires-clause-can_give g c =
    let s = c.args.script.now in
    let b = c.args.board.now in
    let w = c.args.self.now in
    let p = c.args.pass.now in
    let i = c.args.id in
    let d = c.requires.drawn in
    let on = c.requires.on in
    let asks = asked-drawn s w p i.0 d in
    let q = c.take.new.pass in
    let r = replies.Task c.take.result in
    hears-drawn s b w c.note_call.new.self (at_home p) (at_home q) (calls.Take i) r on c.note_call.ensures.same asks (calls-home p q (calls.Take i) r c.take.ensures.calls)

pub heard-requires-clause-takes : goal.heard-requires-clause-takes
heard-requires-clause-takes g c =
    let s = c.args.script.now in
    let b = c.args.board.now in
    let w = c.args.self.now in
    let p = c.args.pass.now in
    let i = c.args.id in
    let d = c.requires.drawn in
    let on = c.requires.on in
    let asks = asked-drawn s w p i.0 d in
    let q = c.take.new.pass in
    let r = replies.Task c.take.result in
    let some = some-left s (calls.Take i) w on.stage.sound (inl asks) in
    let told = c.take.ensures.takes (takes_of w i.0) (may-take-drawn s b w p i.0 on d some) in
    tells-drawn s w c.note_call.new.self i c.take.result c.note_call.ensures.same asks told d.few

pub body_of-body-requires-clause-exists : goal.body_of-body-requires-clause-exists
body_of-body-requires-clause-exists g c = c.requires.drawn.exists

pub body_in-requires-clause-board : goal.body_in-requires-clause-board
body_in-requires-clause-board g c =
    let same = c.take.ensures.calls.entry in
    record {
      board = ap (λ (y : Held). y.board) same ∙ c.requires.on.stage.pass.board;
      start = ap (λ (y : Held). y.start) same ∙ c.requires.on.stage.pass.start;
    }

pub body_in-requires-clause-out : goal.body_in-requires-clause-out
body_in-requires-clause-out g c =
    let s = c.args.script.now in
    let w = c.args.self.now in
    let p = c.args.pass.now in
    let i = c.args.id in
    let u = c.heard.new.self in
    let more = taken-more s w c.note_call.new.self u i c.note_call.ensures.same (asked-drawn s w p i.0 c.requires.drawn) c.heard.ensures.takes in
    let takes = ap (λ (x : Body). x.takes) c.body_of-body.ensures in
    out-taken s w p c.take.new.pass i c.take.result c.body_of-body.result.takes c.requires.drawn c.take.ensures.calls (takes ∙ more)

pub body_in-requires-clause-row : goal.body_in-requires-clause-row
body_in-requires-clause-row g c =
    let s = c.args.script.now in
    let i = c.args.id in
    let takes = ap (λ (x : Body). x.takes) c.body_of-body.ensures in
    ap (λ (x : Body). x.row) c.body_of-body.ensures
    ∙ ap (row_number s i.0) (sym takes)
    ∙ sym (rows-after s i.0 c.body_of-body.result.takes)
    ∙ ap (λ xs. row_after xs i.0 c.body_of-body.result.takes) (sym c.requires.nexts)

asks : (g : _) (c : goal.After-body_in g) → asked c.args.script.now (stage_of c.args.script.now c.args.self.now) ≡ Some (calls.Take c.args.id)
asks g c = asked-drawn c.args.script.now c.args.self.now c.args.pass.now c.args.id.0 c.requires.drawn

made : (g : _) (c : goal.After-body_in g) → Calls (at_home c.args.pass.now) (calls.Take c.args.id) (replies.Task c.take.result) (at_home c.take.new.pass)
made g c = calls-home c.args.pass.now c.take.new.pass (calls.Take c.args.id) (replies.Task c.take.result) c.take.ensures.calls

took : (g : _) (c : goal.After-body_in g) → Took c.args.script.now (calls.Take c.args.id) (replies.Task c.take.result) c.args.self.now c.heard.new.self
took g c =
    took-call _ _ _ c.args.self.now c.note_call.new.self c.heard.new.self (asks g c) c.note_call.ensures.same c.note_call.ensures.entries c.note_call.ensures.room c.heard.ensures.log c.heard.ensures.stage c.heard.ensures.fits c.heard.ensures.number c.heard.ensures.tick c.heard.ensures.turns c.heard.ensures.takes c.heard.ensures.book

home : (g : _) (c : goal.After-body_in g) → c.body_in.new.pass ≡ at_home c.take.new.pass
home g c = back-home _ _ _ _ _ c.args.id _ c.requires.drawn c.take.ensures.calls c.body_in.ensures.back

pub returns-clause-on : goal.returns-clause-on
returns-clause-on g c =
    subst (λ (y : Held). OnBoard c.args.script.now c.args.board.now c.heard.new.self y) (sym (home g c)) (on-took _ _ _ _ _ _ _ _ c.requires.on (inl (asks g c)) (made g c) tt (took g c))

pub returns-clause-called : goal.returns-clause-called
returns-clause-called g c =
    subst (λ (y : Held). HasCalled c.args.script.now c.args.self.now (at_home c.args.pass.now) c.heard.new.self y) (sym (home g c)) (called-took _ c.args.board.now _ _ _ _ _ _ c.requires.on (inl (asks g c)) (made g c) (took g c))

pub returns-clause-outs : goal.returns-clause-outs
returns-clause-outs g c = ap (λ (y : Held). y.outs) (home g c)

pub returns-clause-undrawn : goal.returns-clause-undrawn
returns-clause-undrawn g c j = undrawn-took _ (calls.Take c.args.id) _ c.args.self.now _ j (asks g c) (took g c)

pub returns-clause-fewer : goal.returns-clause-fewer
returns-clause-fewer g c = fewer-took _ (calls.Take c.args.id) _ _ _ c.requires.on.stage.sound (inl (asks g c)) (took g c)
