use Rattle.std.proofs.Common.{ap, length, arith}
use Rattle.run_replay.specs.SharedBoxes.{is_shared_at}
use Rattle.run_replay.proofs.Limits.{few_tasks}
use Rattle.run_replay.proofs.SharedBoxes.{tally-most}
use Rattle.run_replay.proofs.floor.Floor.shared.Goals as goal

pub overflow_cast-number : goal.overflow_cast-number
overflow_cast-number c =
    let few = few_tasks c.args.script.now c.tasks-number-end.ensures.sound in
    let same = ap length c.tasks-number-end.ensures.same in
    omega arith

pub overflow_add-inside : goal.overflow_add-inside
overflow_add-inside c =
    let few = few_tasks c.args.script.now c.tasks-number-end.ensures.sound in
    let same = ap length c.tasks-number-end.ensures.same in
    let most = tally-most (is_shared_at c.args.script.now c.args.self.now.machine) c.loop-number.number in
    let is = c.loop-number.invariant in
    omega arith
