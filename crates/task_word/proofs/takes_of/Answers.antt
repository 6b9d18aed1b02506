use Rattle.task_word.proofs.Words.{word_takes-stands}
use Rattle.task_word.proofs.takes_of.Goals as goal

pub returns-clause-stands : goal.returns-clause-stands
returns-clause-stands c = λ st n m b h. word_takes-stands c.args.word st n m b h
