use Rattle.std.proofs.Common.{◌≡◌, ◌++◌, sym, ap, ◌∙◌, arith}
use Rattle.std.proofs.lemmas.Result.{err_from_is_err_and}
use Rattle.transcript.specs.Spelling.{head_text}
use Rattle.taskrun.proofs.Advanced.{more_rounds}
use Rattle.taskrun.proofs.Played.{after_error, unstarted, started, rose_later}
use Rattle.taskrun.proofs.rounds.play_out.Goals as goal

pub returns-in_err-write_head-clause-err : goal.returns-in_err-write_head-clause-err
returns-in_err-write_head-clause-err g c = after_error _ _ (unstarted c.args.script.now (g.O.Sink.held c.args.out.now) c.rounds-rounds.ensures.sound)

pub returns-in_err-course-clause-err : goal.returns-in_err-course-clause-err
returns-in_err-course-clause-err g c = after_error _ _ (unstarted c.args.script.now (g.O.Sink.held c.args.out.now) c.rounds-rounds.ensures.sound)

pub loop-round-init : goal.loop-round-init
loop-round-init g c =
    let s = c.args.script.now in
    let head : c.write_head.new.out.items ≡ head_text = c.in_ok-write_head.ensures.written ∙ ap (λ t. t ++ head_text) c.new-text.ensures.items in
    record {
      under = started s (g.O.Sink.held c.args.out.now) (g.C.Crew.told c.args.crew.now) (g.C.Crew.told c.start.new.crew) c.write_head.new.out.items c.in_ok-course.course head c.in_ok-course.ensures;
      counted = omega arith;
    }

pub returns-in_err-play_round-clause-err : goal.returns-in_err-play_round-clause-err
returns-in_err-play_round-clause-err g c = after_error _ _ (c.in_err-play_round.ensures.err (g.O.Sink.held c.args.out.now) (g.C.Crew.told c.args.crew.now) c.loop-round.invariant.under)

pub returns-in_err-play_round-clause-fault : goal.returns-in_err-play_round-clause-fault
returns-in_err-play_round-clause-fault g c =
    let q = err_from_is_err_and c.from_residual-in_err-play_round.result c.from_residual-in_err-play_round.ensures.1 in
    rw q.1 (λ fault. rose_later _ _ _ c.loop-round.invariant.counted (c.in_err-play_round.ensures.fault (sym q.2 ∙ fault)))

pub returns-then-branch-clause-ok : goal.returns-then-branch-clause-ok
returns-then-branch-clause-ok g c = c.in_ok-play_round.ensures.over (g.O.Sink.held c.args.out.now) (g.C.Crew.told c.args.crew.now) c.loop-round.invariant.under c.if-branch.true

pub loop-round-preserved : goal.loop-round-preserved
loop-round-preserved g c = record {
  under = c.in_ok-play_round.ensures.more (g.O.Sink.held c.args.out.now) (g.C.Crew.told c.args.crew.now) c.loop-round.invariant.under c.if-branch.false;
  counted = omega (arith, c.loop-round.invariant.counted, c.play_round.ensures.counted);
}

pub unreachable-requires : goal.unreachable-requires
unreachable-requires g c =
    let under = c.loop-round.invariant.under in
    let more = more_rounds c.args.script.now under.rounds c.loop-round.round _ _ c.loop-round.course c.rounds-rounds.ensures.sound under.runs in
    omega (arith, c.rounds-rounds.ensures.same)
