use Rattle.std.proofs.Common.{rules, ◌+◌, sym, ◌∙◌, arith}
use Rattle.board_bench.proofs.Callers.{no_body, at_wake, at_may_take, at_take, at_drop}
use Rattle.board_bench.proofs.work.cycles.Goals as goal

pub wake-seen-requires-clause-board : goal.wake-seen-requires-clause-board
wake-seen-requires-clause-board c =
    let u = c.loop-i.invariant.used in record { board = u.board; start = u.start }

pub take-dropped-requires-clause-board : goal.take-dropped-requires-clause-board
take-dropped-requires-clause-board c =
    let test = c.if-not-rests.false in
    let a = at_wake c.args.board.now c.loop-i.pass c.wake-seen.new.pass c.args.id _ c.loop-i.i c.wake-seen.result c.loop-i.invariant c.wake-seen.ensures (sym c.rests.ensures ∙ search rules) in
    record { board = a.used.board; start = a.used.start }

pub take-dropped-requires-clause-may : goal.take-dropped-requires-clause-may
take-dropped-requires-clause-may c =
    let test = c.if-not-rests.false in
    let few = c.loop-i-test.true in
    let times = c.ranges.times in
    let a = at_wake c.args.board.now c.loop-i.pass c.wake-seen.new.pass c.args.id _ c.loop-i.i c.wake-seen.result c.loop-i.invariant c.wake-seen.ensures (sym c.rests.ensures ∙ search rules) in
    at_may_take c.args.board.now c.wake-seen.new.pass c.args.id.0 c.loop-i.i a (omega arith)

pub drop_run-dropped-requires-clause-board : goal.drop_run-dropped-requires-clause-board
drop_run-dropped-requires-clause-board c =
    let test = c.if-not-rests.false in
    let a = at_wake c.args.board.now c.loop-i.pass c.wake-seen.new.pass c.args.id _ c.loop-i.i c.wake-seen.result c.loop-i.invariant c.wake-seen.ensures (sym c.rests.ensures ∙ search rules) in
    let b = at_take c.args.board.now c.wake-seen.new.pass c.take-dropped.new.pass c.args.id c.loop-i.i c.take-dropped.result a c.take-dropped.ensures.calls in
    record { board = b.used.board; start = b.used.start }

pub drop_run-dropped-requires-clause-runs : goal.drop_run-dropped-requires-clause-runs
drop_run-dropped-requires-clause-runs c =
    let test = c.if-not-rests.false in
    let a = at_wake c.args.board.now c.loop-i.pass c.wake-seen.new.pass c.args.id _ c.loop-i.i c.wake-seen.result c.loop-i.invariant c.wake-seen.ensures (sym c.rests.ensures ∙ search rules) in
    let b = at_take c.args.board.now c.wake-seen.new.pass c.take-dropped.new.pass c.args.id c.loop-i.i c.take-dropped.result a c.take-dropped.ensures.calls in
    b.own

pub drop_run-dropped-requires-clause-body : goal.drop_run-dropped-requires-clause-body
drop_run-dropped-requires-clause-body c =
    let test = c.if-not-rests.false in
    let a = at_wake c.args.board.now c.loop-i.pass c.wake-seen.new.pass c.args.id _ c.loop-i.i c.wake-seen.result c.loop-i.invariant c.wake-seen.ensures (sym c.rests.ensures ∙ search rules) in
    let b = at_take c.args.board.now c.wake-seen.new.pass c.take-dropped.new.pass c.args.id c.loop-i.i c.take-dropped.result a c.take-dropped.ensures.calls in
    no_body c.take-dropped.new.pass c.args.id.0 c.args.board.now b.used

pub loop-i-preserved : goal.loop-i-preserved
loop-i-preserved c =
    let test = c.if-not-rests.false in
    let done = c.if-is_busy.false in
    let a = at_wake c.args.board.now c.loop-i.pass c.wake-seen.new.pass c.args.id _ c.loop-i.i c.wake-seen.result c.loop-i.invariant c.wake-seen.ensures (sym c.rests.ensures ∙ search rules) in
    let b = at_take c.args.board.now c.wake-seen.new.pass c.take-dropped.new.pass c.args.id c.loop-i.i c.take-dropped.result a c.take-dropped.ensures.calls in
    at_drop c.args.board.now c.take-dropped.new.pass c.drop_run-dropped.new.pass c.args.id (c.loop-i.i + 1) c.drop_run-dropped.result b c.drop_run-dropped.ensures (sym c.is_busy.ensures ∙ search rules)
