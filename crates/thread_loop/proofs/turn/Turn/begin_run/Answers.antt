use Rattle.run_model.specs.Replies.{takes_in}
use Rattle.thread_loop.proofs.Scripts.{row_in}
use Rattle.thread_loop.proofs.turn.Turn.begin_run.Goals as goal

pub to_acts-requires-clause-row : goal.to_acts-requires-clause-row
to_acts-requires-clause-row c = rw c.requires.row (row_in c.args.script.now c.args.run.now.task.0 (takes_in c.args.reply.now) c.requires.sound c.requires.exists)
