use Rattle.std.proofs.Common.{arith}
use Rattle.run_model.specs.Standing.{opening}
use Rattle.taskrun.proofs.Advanced.{begun, ready_taken, rounds_between}
use Rattle.taskrun.proofs.courses.Course.start.Goals as goal

pub play-requires-clause-more : goal.play-requires-clause-more
play-requires-clause-more g c κs within = let few = rounds_between c.args.script.now c.requires in omega arith

pub after_round-after-requires-clause-ready : goal.after_round-after-requires-clause-ready
after_round-after-requires-clause-ready g c = ready_taken c.args.script.now 1 (opening c.args.script.now).state c.in_ok-merger.merger c.take_over.new.self c.play.new.self c.take_over.new.plant c.in_ok-merger.ensures c.take_over.ensures c.in_ok-play.ensures.ready

pub after_round-after-requires-clause-more : goal.after_round-after-requires-clause-more
after_round-after-requires-clause-more g c = let few = rounds_between c.args.script.now c.requires in omega arith

pub returns : goal.returns
returns g c = begun c.args.script.now (g.C.Crew.told c.args.crew.now) (g.C.Crew.told c.play.new.crew) c.in_ok-plant.plant c.play.new.self c.in_ok-merger.merger _ c.in_ok-plant.ensures.opening c.in_ok-plant.ensures.tick c.in_ok-play.ensures c.in_ok-merger.ensures c.take_over.ensures c.tick-tick.ensures c.after_round-after.ensures.rest c.after_round-after.ensures.over
