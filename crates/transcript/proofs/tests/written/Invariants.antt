-- The entries of the round so far have a text.
use Rattle.std.specs.List.{All}
use Rattle.transcript.specs.HasText.{HasTextEntry}
use Rattle.transcript.proofs.tests.written.Given as goal

abbrev pub invariant-loop-line : goal.invariant-loop-line
invariant-loop-line l = All HasTextEntry l.entries.items
