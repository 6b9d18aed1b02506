use Rattle.task_word.proofs.Words.{woken_follows}
use Rattle.task_word.proofs.after_wake.Goals as goal

pub returns-clause-step : goal.returns-clause-step
returns-clause-step c =
    λ some k. rw c.wake_bits_of.ensures.value (woken_follows k c.args.reasons c.args.word some c.wake_bits_of.ensures.reasons_below)
