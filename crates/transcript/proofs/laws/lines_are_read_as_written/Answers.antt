-- The lemmas of proofs/TextAgain.antt and proofs/TextBack.antt.
use Rattle.transcript.proofs.TextAgain.{lines_text_again}
use Rattle.transcript.proofs.TextBack.{lines_text_back}
use Rattle.transcript.proofs.laws.lines_are_read_as_written.Goals as goal

pub returns : goal.returns
returns c = record { again = lines_text_again; back = lines_text_back }
