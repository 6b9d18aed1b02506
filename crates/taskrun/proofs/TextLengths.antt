-- A transcript that is read has no more bytes than a transcript may have, and no more lines than bytes.
use Rattle.std.proofs.Common.{◌≡◌, ℕ, ◌≤◌, List, [], ◌∷◌, ◌++◌, length, Ok, ap, arith}
use Rattle.std.specs.List.{flat_map, join_with_byte}
use Rattle.std.proofs.lemmas.List.{length-append}
use Rattle.text_lines.specs.Added.{spelled}
use Rattle.text_lines.specs.Lines.{read_within}
use Rattle.text_lines.proofs.LongTexts.{within_limit}
use Rattle.transcript.specs.declared.lines.Line.{Line}
use Rattle.transcript.specs.Judging.{transcripts, opening, byte_limit, run_of}
use Rattle.transcript.specs.Laws.{AreLines}
use Rattle.transcript.specs.Spelling.{line_text, line_words, head_text, lines_text}
use Rattle.transcript.proofs.Limit.{limit_free}
use Rattle.transcript.proofs.TextBack.{lines_read_back, lines_text_back}

pub run_length : (b : List ℕ) (ls : List Line) → run_of b ≡ Ok ls → length b ≤ byte_limit
unfolding run_of
run_length b ls e =
    let r = lines_read_back (read_within transcripts opening byte_limit b) ls e in
    within_limit transcripts opening r.0 byte_limit b r.1

-- each line has a byte at least
lines_few : (ls : List Line) → length ls ≤ length (flat_map line_text ls)
unfolding spelled
lines_few [] = omega arith
lines_few (l ∷ ls) =
    let later = lines_few ls in
    let here = length-append (line_text l) (flat_map line_text ls) in
    let one : 1 ≤ length (line_text l) = some_byte (line_words l) in
    omega arith
  where
    some_byte : (ws : List (List ℕ)) → 1 ≤ length (spelled ws)
    some_byte ws = ended (join_with_byte 32 ws)
      where
        ended : (w : List ℕ) → 1 ≤ length (w ++ 10 ∷ [])
        ended w = let all = length-append w (10 ∷ []) in omega arith

pub lines_within : (b : List ℕ) (ls : List Line) → run_of b ≡ Ok ls → length ls ≤ length b
unfolding lines_text
lines_within b ls e =
    let text = (lines_text_back b ls (limit_free b ls e)).1 in
    let long : length b ≡ length (head_text ++ flat_map line_text ls) = ap length text in
    let all = length-append head_text (flat_map line_text ls) in
    let few = lines_few ls in
    omega arith

pub lines_follow : (b : List ℕ) (ls : List Line) → run_of b ≡ Ok ls → AreLines ls
lines_follow b ls e = (lines_text_back b ls (limit_free b ls e)).0
