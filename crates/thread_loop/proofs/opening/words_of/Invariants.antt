use Rattle.thread_loop.proofs.Laid.{WordsTo}
use Rattle.thread_loop.proofs.opening.words_of.Given as goal

-- the words stand for the tasks so far as they open
abbrev pub invariant-loop-number : goal.invariant-loop-number
invariant-loop-number l = record { stand : WordsTo l.script l.number l.words }
