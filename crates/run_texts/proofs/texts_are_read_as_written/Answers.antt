-- The lemmas of proofs/RunsAgain.antt.
use Rattle.run_texts.proofs.RunsAgain.{text_again, text_back}
use Rattle.run_texts.proofs.texts_are_read_as_written.Goals as goal

pub returns : goal.returns
returns c = record { again = text_again; back = text_back }
