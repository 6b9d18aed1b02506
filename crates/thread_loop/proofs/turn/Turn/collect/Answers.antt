use Rattle.std.proofs.Common.{ℕ, ◌<◌, length, subst}
use Rattle.task_machine.specs.declared.calls.Reply.{Reply}
use Rattle.run_model.specs.Replies.{members}
use Rattle.turn_steps.specs.Times.{times}
use Rattle.thread_loop.proofs.turn.Turn.collect.Goals as goal

pub collect-requires-clause-exist : goal.collect-requires-clause-exist
collect-requires-clause-exist c = subst (λ (r : Reply). (i : ℕ) → 0 < times i (members c.args.group r) → i < length c.args.script.now.tasks) c.in-Group.is c.requires.exist
