-- What is read is the text of a run, and so each line has a text.
use Rattle.transcript.specs.Judging.{run_of}
use Rattle.transcript.proofs.Limit.{read_texts}
use Rattle.transcript.proofs.transcripts.Transcript.read.Goals as goal

pub returns-clause-texts : goal.returns-clause-texts
unfolding run_of
returns-clause-texts c = read_texts c.read_within.result c.args.bytes.now c.read_within.ensures
