use Rattle.std.proofs.Common.{◌≡◌, ◌<◌, ℕ, List, length, slice_index_or, sym, ◌∙◌, subst}
use Rattle.std.specs.List.{All}
use Rattle.std.proofs.lemmas.List.Elements.{All-get_or, All-push, All-same}
use Rattle.task_machine.specs.declared.calls.Entry.{Entry as CodeEntry}
use Rattle.transcript.specs.declared.lines.Line.{Line}
use Rattle.transcript.specs.declared.lines.Line.TheVariants as kinds
use Rattle.transcript.specs.HasText.{HasTextLine, HasTextEntry}
use Rattle.texts_bench.proofs.transcripts.written.Goals as goal

-- an entry that is a line has a text
line_has_text : (lines : List Line) (i : ℕ) (line : Line) (e : CodeEntry) → i < length lines → All HasTextLine lines → line ≡ slice_index_or lines i line → line ≡ kinds.Entry e → HasTextEntry e
line_has_text lines i line e in_range all at is =
    let at_line : HasTextLine line = subst HasTextLine (sym at) (All-get_or HasTextLine lines i line in_range all) in
    let text : HasTextLine (kinds.Entry e) = subst HasTextLine is at_line in text.1

pub loop-line-preserved-in-Entry : goal.loop-line-preserved-in-Entry
loop-line-preserved-in-Entry c =
    All-same HasTextEntry _ _ c.in_ok-push.ensures.items (All-push HasTextEntry _ _ c.loop-line.invariant (line_has_text _ _ _ _ c.loop-line-test.true c.requires c.line-item.is c.in-Entry.is))
