-- An entry that is kept has a text, since its line has one.
use Rattle.std.proofs.Common.{sym, subst}
use Rattle.std.specs.List.{All}
use Rattle.std.proofs.lemmas.List.Elements.{All-push, All-nil, All-get_or}
use Rattle.transcript.specs.HasText.{HasTextLine, HasTextEntry}
use Rattle.transcript.proofs.tests.written.Goals as goal
use Rattle.transcript.proofs.tests.written.Goals.{in-Round, in-Entry+in_ok-extend_from_slice-in-Entry, in-End+in_ok-write_round-in-End+in_ok-write_end-in-End}

pub loop-line-preserved : goal.loop-line-preserved
loop-line-preserved c =
    let here = All-get_or HasTextLine c.args.lines.now c.loop-line.line-index c.line-item.result c.loop-line-test.true c.requires in
    let has : HasTextLine c.line-item.result = subst HasTextLine (sym c.line-item.is) here in
    let result : All HasTextEntry c.match-line.entries.items = elim c.match-line.branch [
      | in-Round w ↦ rw (w.entries-is, w.clear.ensures.items) (All-nil HasTextEntry)
      | in-Entry+in_ok-extend_from_slice-in-Entry w ↦ rw (w.entries-is, w.in_ok-extend_from_slice-in-Entry.ensures.items) (All-push HasTextEntry c.loop-line.entries.items w.in-Entry.entry c.loop-line.invariant (rw w.in-Entry.is at has).1)
      | in-End+in_ok-write_round-in-End+in_ok-write_end-in-End w ↦ rw w.entries-is c.loop-line.invariant
    ] in
    result
