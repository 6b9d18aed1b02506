-- The limit on the bytes of a transcript.
use Rattle.std.proofs.Common.{◌≡◌, ℕ, ◌≤◌, ◌<◌, suc, List, length, take, Result, Ok, Err, ap, ◌∙◌}
use Rattle.std.specs.List.{All}
use Rattle.std.specs.Result.{IfOk}
use Rattle.std.proofs.lemmas.List.Elements.{All-from_recursion}
use Rattle.text_lines.specs.Lines.{read_within}
use Rattle.text_lines.proofs.LimitLaws as limits
use Rattle.text_lines.proofs.LongTexts as longs
use Rattle.transcript.specs.Types.{Line}
use Rattle.transcript.specs.declared.faults.TextError.{TextError}
use Rattle.transcript.specs.HasText.{HasTextLine}
use Rattle.transcript.specs.Judging.{transcripts, opening, byte_limit, lines_read, lines_of, run_of, run_within, Gives}
use Rattle.transcript.proofs.TextBack.{lines_read_back, lines_text_back}

pub short_text : (b : List ℕ) → length b ≤ byte_limit → run_of b ≡ lines_of b
unfolding run_of
short_text b few = ap lines_read (limits.short_text transcripts opening byte_limit b few)

pub limit_free : (b : List ℕ) (ls : List Line) → run_of b ≡ Ok ls → lines_of b ≡ Ok ls
unfolding run_of
limit_free b ls e =
    let r = lines_read_back (read_within transcripts opening byte_limit b) ls e in
    ap lines_read (limits.limit_free transcripts opening r.0 byte_limit b r.1) ∙ ap Ok r.2

pub long_text : (most : ℕ) (b : List ℕ) → most < length b → run_within most b ≡ run_within most (take (suc most) b)
long_text most b long = ap lines_read (longs.long_text transcripts opening most b long)

-- what is read has a text, line by line
pub read_texts : (r : Result (List Line) TextError) (b : List ℕ) → Gives r (run_of b) → IfOk r (λ ls. All HasTextLine ls)
read_texts (Ok ls) b e = All-from_recursion HasTextLine ls (lines_text_back b ls (limit_free b ls e)).0.texts
read_texts (Err f) b e = tt
