use Rattle.std.specs.List.{All}
use Rattle.transcript.specs.HasText.{HasTextEntry}
use Rattle.texts_bench.proofs.transcripts.written.Given as goal

abbrev pub invariant-loop-line : goal.invariant-loop-line
invariant-loop-line l = All HasTextEntry l.entries.items
