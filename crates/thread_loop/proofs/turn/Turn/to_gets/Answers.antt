use Rattle.std.proofs.Common.{arith, ◌<◌}
use Rattle.run_model.specs.Tables.{groups}
use Rattle.thread_loop.specs.Turns.{book_now}
use Rattle.thread_loop.proofs.Turns.{groups-more}
use Rattle.thread_loop.proofs.turn.Turn.to_gets.Goals as goal

pub returns-then-group-groups-clause-stage : goal.returns-then-group-groups-clause-stage
returns-then-group-groups-clause-stage c =
    let below : c.args.group < groups c.args.script.now = omega (arith, c.groups.ensures.same) in
    groups-more c.args.script.now c.args.self.now.tick c.args.group (groups c.args.script.now) (book_now c.args.self.now) below
