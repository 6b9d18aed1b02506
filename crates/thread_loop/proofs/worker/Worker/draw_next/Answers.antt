use Rattle.std.proofs.Common.{◌∙◌, sym, ap, arith, subst}
use Rattle.wake_board.specs.Seen.{Held, with_misses}
use Rattle.thread_loop.specs.BoardTurns.{OnBoard, HasCalled, at_home}
use Rattle.thread_loop.proofs.BoardTurns.{called-trans}
use Rattle.thread_loop.proofs.BoardDraws.{on-misses, called-misses, made-draw, missed-all}
use Rattle.thread_loop.proofs.worker.Worker.draw_next.Goals as goal

pub draw_for-requires-clause-board : goal.draw_for-requires-clause-board
draw_for-requires-clause-board g c = c.requires.on.stage.pass

pub draw_for-requires-clause-tasks : goal.draw_for-requires-clause-tasks
draw_for-requires-clause-tasks g c = c.requires.on.stage.board.tasks ∙ sym c.requires.queue

pub begin_drawn-requires-clause-on : goal.begin_drawn-requires-clause-on
begin_drawn-requires-clause-on g c =
    let d = c.in-Some.ensures.drawn in
    let p = c.args.pass.now in
    (with_misses p d.tasks, on-misses c.args.script.now c.args.board.now c.args.self.now p d.tasks c.requires.on, made-draw c.args.board.now c.args.queue.now.ranks p c.draw_for.new.pass c.in-Some.id d)

pub begin_drawn-requires-clause-outs : goal.begin_drawn-requires-clause-outs
begin_drawn-requires-clause-outs g c = ap (λ (y : Held). y.outs) c.in-Some.ensures.drawn.gained ∙ c.requires.outs

pub begin_drawn-requires-clause-exists : goal.begin_drawn-requires-clause-exists
begin_drawn-requires-clause-exists g c =
    let lt = c.in-Some.ensures.drawn.exists in
    let same = c.requires.queue in
    omega arith

pub returns-in-Some-clause-called : goal.returns-in-Some-clause-called
returns-in-Some-clause-called g c =
    let s = c.args.script.now in
    let b = c.args.board.now in
    let w = c.args.self.now in
    let p = c.args.pass.now in
    let d = c.in-Some.ensures.drawn in
    let p1 = with_misses p d.tasks in
    let w2 = c.begin_drawn.new.self in
    let p2 = at_home c.begin_drawn.new.pass in
    let w3 = c.take_drawn.new.self in
    let p3 = c.take_drawn.new.pass in
    let first = called-misses s w p d.tasks in
    let second = c.begin_drawn.ensures.called p1 (on-misses s b w p d.tasks c.requires.on) (made-draw b c.args.queue.now.ranks p c.draw_for.new.pass c.in-Some.id d) in
    let third = c.take_drawn.ensures.called in
    let fourth = c.make_calls.ensures.called in
    let a = called-trans s w w w2 p p1 p2 first second in
    let e = called-trans s w w2 w3 p p2 p3 a third in
    called-trans s w w3 c.make_calls.new.self p p3 c.make_calls.new.pass e fourth

pub returns-in-Some-clause-fewer : goal.returns-in-Some-clause-fewer
returns-in-Some-clause-fewer g c = λ yes.
    let a = c.begin_drawn.ensures.fewer in
    let b = c.take_drawn.ensures.fewer in
    let d = c.make_calls.ensures.fewer in
    omega arith

pub returns-in-Some-clause-missed : goal.returns-in-Some-clause-missed
returns-in-Some-clause-missed g c = λ no. cc

pub returns-in-None-clause-on : goal.returns-in-None-clause-on
returns-in-None-clause-on g c =
    let f = c.in-None.ensures.drawn in
    subst (λ (y : Held). OnBoard c.args.script.now c.args.board.now c.args.self.now y) (sym f.noted) (on-misses c.args.script.now c.args.board.now c.args.self.now c.args.pass.now f.tasks c.requires.on)

pub returns-in-None-clause-called : goal.returns-in-None-clause-called
returns-in-None-clause-called g c =
    let f = c.in-None.ensures.drawn in
    subst (λ (y : Held). HasCalled c.args.script.now c.args.self.now c.args.pass.now c.args.self.now y) (sym f.noted) (called-misses c.args.script.now c.args.self.now c.args.pass.now f.tasks)

pub returns-in-None-clause-fewer : goal.returns-in-None-clause-fewer
returns-in-None-clause-fewer g c = λ yes. cc

pub returns-in-None-clause-missed : goal.returns-in-None-clause-missed
returns-in-None-clause-missed g c = λ no i lt.
    let same = c.requires.queue in
    missed-all c.args.queue.now.ranks c.args.pass.now c.draw_for.new.pass i c.in-None.ensures.drawn (omega arith)
