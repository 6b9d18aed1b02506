use Rattle.task_word.proofs.Words.{word_of-live, StandsFor-word_of, seen_in-word_of}
use Rattle.task_word.proofs.encode.Goals as goal

pub returns-clause-value : goal.returns-clause-value
returns-clause-value c =
    word_of-live c.args.seen c.in-Live.stand c.in-Live.pending c.in-Live.killed c.in-Live.takes c.bits.result c.flags_of.result c.in-Live.is c.requires c.bits.ensures.same c.flags_of.ensures.value

pub returns-clause-stands : goal.returns-clause-stands
returns-clause-stands c = rw (returns-clause-value c) (StandsFor-word_of c.args.seen c.requires)

pub returns-clause-read_back : goal.returns-clause-read_back
returns-clause-read_back c = rw (returns-clause-value c) (seen_in-word_of c.args.seen c.requires)
