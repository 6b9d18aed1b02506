use Rattle.std.proofs.Common.{◌≡◌, length, ap, arith}
use Rattle.std.proofs.lemmas.Result.{IfOk-weaker}
use Rattle.taskrun.proofs.Advanced.{more_rounds}
use Rattle.taskrun.proofs.Counted.{counted_none, counted_more, can_count, summed}
use Rattle.taskrun.proofs.summary.summary.Goals as goal

pub loop-round-init : goal.loop-round-init
loop-round-init g c = counted_none c.args.script.now c.in_ok-course.course (g.C.Crew.told c.args.crew.now) (g.C.Crew.told c.start.new.crew) c.in_ok-course.ensures

pub advance-requires-clause-runs : goal.advance-requires-clause-runs
advance-requires-clause-runs g c κs within = (c.loop-round.invariant.rounds, g.C.Crew.told c.args.crew.now, c.loop-round.invariant.runs)

pub advance-requires-clause-can : goal.advance-requires-clause-can
advance-requires-clause-can g c κs within = λ next comes. can_count c.args.script.now c.loop-round.round c.loop-round.course _ _ c.loop-round.counts (omega (arith, c.rounds-rounds.ensures.same)) c.loop-round.invariant

pub returns-then-after-clause-summary : goal.returns-then-after-clause-summary
returns-then-after-clause-summary g c =
    let s = c.args.script.now in
    let h = c.loop-round.invariant in
    let count : length c.tasks.result.now ≡ length s.tasks = ap length c.tasks.ensures.same in
    IfOk-weaker c.summary_text.result _ _
    (λ text is. summed s c.loop-round.round (length c.tasks.result.now) c.loop-round.course c.advance.new.self (g.C.Crew.told c.args.crew.now) (g.C.Crew.told c.loop-round.crew) (g.C.Crew.told c.advance.new.crew) c.in_ok-after.after c.loop-round.counts c.advance.new.scribe _ h (c.in_ok-after.ensures.advanced h.rounds (g.C.Crew.told c.args.crew.now) h.runs) c.if-after.true count is)
    c.summary_text.ensures

pub loop-round-preserved : goal.loop-round-preserved
loop-round-preserved g c =
    let h = c.loop-round.invariant in
    counted_more c.args.script.now c.loop-round.round c.loop-round.course c.advance.new.self (g.C.Crew.told c.args.crew.now) (g.C.Crew.told c.loop-round.crew) (g.C.Crew.told c.advance.new.crew) c.in_ok-after.after c.loop-round.counts c.advance.new.scribe h (c.in_ok-after.ensures.advanced h.rounds (g.C.Crew.told c.args.crew.now) h.runs) c.if-after.false

pub unreachable-requires : goal.unreachable-requires
unreachable-requires g c =
    let h = c.loop-round.invariant in
    let more = more_rounds c.args.script.now h.rounds c.loop-round.round _ _ c.loop-round.course c.rounds-rounds.ensures.sound h.runs in
    omega (arith, c.loop-round-test.false, c.rounds-rounds.ensures.same)
