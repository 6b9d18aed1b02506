use Rattle.std.proofs.Common.{ap, length, sym, arith}
use Rattle.task_machine.specs.Task.{resting}
use Rattle.run_model.specs.Standing.{is_still_at}
use Rattle.run_replay.proofs.Limits.{few_tasks}
use Rattle.thread_loop.proofs.Resting.{all_hold}
use Rattle.run_replay.proofs.floor.Floor.is_still.Goals as goal

pub overflow_cast-number : goal.overflow_cast-number
overflow_cast-number c = let few = few_tasks c.args.script.now c.tasks-number-end.ensures.sound in let same = ap length c.tasks-number-end.ensures.same in omega arith

pub returns : goal.returns
returns c =
    let same = ap length c.tasks-number-end.ensures.same in
    sym (all_hold (λ t. is_still_at t.place) c.args.self.now.machine.tasks resting (λ k lt. c.loop-number.invariant.still k (omega arith)))
