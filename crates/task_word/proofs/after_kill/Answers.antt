use Rattle.task_word.proofs.Words.{flagged_follows}
use Rattle.task_word.proofs.after_kill.Goals as goal

pub returns-clause-step : goal.returns-clause-step
returns-clause-step c = λ k. flagged_follows k c.args.word
