-- The lemmas of proofs/Pieces.antt.
use Rattle.run_texts.proofs.Pieces.{text_of_pieces, rounds_text-append}
use Rattle.run_texts.proofs.text_in_pieces.Goals as goal

pub returns : goal.returns
returns c = record { whole = text_of_pieces; rounds = rounds_text-append }
