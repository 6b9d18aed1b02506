-- The lemmas of proofs/Fronts.antt.
use Rattle.run_texts.proofs.Fronts.{front_first, front_whole}
use Rattle.run_texts.proofs.fronts_begin.Goals as goal

pub returns : goal.returns
returns c = record { front = front_first; whole = front_whole }
