use Rattle.task_machine.specs.Step.{Allowed}
use Rattle.task_machine.proofs.Replies.{Refused-not_allowed}
use Rattle.run_replay.proofs.Facts.{never}
use Rattle.run_replay.proofs.floor.Floor.make.Goals as goal

pub returns-in-Err-clause-allowed : goal.returns-in-Err-clause-allowed
returns-in-Err-clause-allowed c = never (Allowed c.args.self.now.machine c.args.entry.now) (λ a. Refused-not_allowed c.args.self.now.machine c.args.entry.now c.in-Err.field-0 c.in-Err.ensures.cause a)
