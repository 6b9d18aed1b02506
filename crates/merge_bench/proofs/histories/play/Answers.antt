use Rattle.merge_bench.proofs.Cutting.{taken-on, tasks-on}
use Rattle.merge_bench.proofs.histories.play.Goals as goal

pub returns-in-Some-clause-taken : goal.returns-in-Some-clause-taken
returns-in-Some-clause-taken c =
    taken-on c.args.machine.now c.answered.new.machine c.answered.result c.answered.ensures

pub returns-in-Some-clause-tasks : goal.returns-in-Some-clause-tasks
returns-in-Some-clause-tasks c =
    tasks-on c.args.machine.now c.answered.new.machine c.answered.result c.answered.ensures
