-- The lemmas of proofs/Limit.antt.
use Rattle.transcript.proofs.Limit.{short_text, limit_free, long_text}
use Rattle.transcript.proofs.laws.limit_only_refuses.Goals as goal

pub returns : goal.returns
returns c = record { within = short_text; read = limit_free; cut = long_text }
