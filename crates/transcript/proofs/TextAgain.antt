-- The text of lines that go on is read as these lines.
use Rattle.std.proofs.Common.{◌≡◌, ℕ, ◌+◌, Bool, true, false, List, [], ◌∷◌, ◌++◌, map, Some, None, Ok, refl, ap, ◌∙◌, sym, append_assoc, append-nil}
use Rattle.std.specs.List.{join_with_byte, flat_map, AllByRecursion}
use Rattle.std.proofs.lemmas.Bool.{cond-true}
use Rattle.text_lines.specs.Pieces.{pieces}
use Rattle.text_lines.specs.Added.{spelled}
use Rattle.text_lines.specs.Shapes.{words, front, part_at}
use Rattle.text_lines.specs.Lines.{folded}
use Rattle.text_lines.proofs.Plain.{pieces_spelled}
use Rattle.text_lines.proofs.LinesTaken.{Steps, steps_again}
use Rattle.transcript.specs.Types.{Line, Said, First, Holds, Progress}
use Rattle.transcript.specs.HasText.{HasTextLine}
use Rattle.transcript.specs.Spelling.{line_text, first_words, head_text, lines_text}
use Rattle.transcript.specs.Grammar.{said}
use Rattle.transcript.specs.Judging.{transcripts, lines_read, lines_of, judged_said, may_stand, rounds_with, is_end, past, opening, GoesOn}
use Rattle.transcript.specs.Laws.{AreLines}
use Rattle.transcript.proofs.PhrasesAgain.{first_word, more_words, words_are, first_plain, more_plain, line_again}

-- a line that is read, and may stand here, is good
good_again : (p : Progress) (text : List ℕ) (s : Said) → said text ≡ Some s → may_stand p s ≡ true → judged_said p (said text) ≡ Ok (past p s)
good_again p text s reads stands = ap (judged_said p) reads ∙ cond-true (may_stand p s) (Ok (past p s)) _ stands

-- the bytes of a line, without its line feed
abbrev bytes_of : Line → List ℕ
bytes_of l = join_with_byte 32 (first_word l ∷ more_words l)

-- lines are cut where they were written one after another
cut_lines : (ls : List Line) → AllByRecursion HasTextLine ls → pieces 10 (flat_map line_text ls) ≡ map bytes_of ls ++ [] ∷ []
cut_lines [] has = refl
cut_lines (l ∷ ls) has =
    ap (λ ws. pieces 10 (spelled ws ++ flat_map line_text ls)) (words_are l) ∙ pieces_spelled (first_word l) (more_words l) (flat_map line_text ls) (first_plain l has.0) (more_plain l has.0)
    ∙ ap (λ ps. bytes_of l ∷ ps) (cut_lines ls has.1)

-- behind the first line, so many rounds and these lines
abbrev pub behind : ℕ → Bool → List Line → Progress
behind r ended xs = record { begun = true; rounds = r; ended = ended; lines = xs }

lines_again : (ls : List Line) (n r : ℕ) (ended : Bool) (xs : List Line) → GoesOn r ended ls → AllByRecursion HasTextLine ls → (q : Progress) × Steps transcripts n (behind r ended xs) (map bytes_of ls) q × (q.lines ≡ xs ++ ls)
lines_again [] n r ended xs goes has = (behind r ended xs, (goes, refl), sym (append-nil xs))
lines_again (l ∷ ls) n r ended xs goes has =
    let next = past (behind r ended xs) (Holds l) in
    let (q, steps, same) = lines_again ls (n + 1) (rounds_with r l) (is_end l) (xs ++ l ∷ []) goes.2 has.1 in
    (q, (next, goes.0, good_again (behind r ended xs) (bytes_of l) (Holds l) (line_again l has.0) goes.1, steps), same ∙ append_assoc xs (l ∷ []) ls)

first_said : said (join_with_byte 32 first_words) ≡ Some First
unfolding said words front part_at
first_said = refl

pub lines_text_again : (ls : List Line) → AreLines ls → lines_of (lines_text ls) ≡ Ok ls
unfolding lines_text head_text words
lines_text_again ls are =
    let (q, steps, same) = lines_again ls 2 0 false [] are.order are.texts in
    let cut : pieces 10 (lines_text ls) ≡ join_with_byte 32 first_words ∷ (map bytes_of ls ++ [] ∷ []) = pieces_spelled _ _ (flat_map line_text ls) refl refl ∙ ap (λ ps. join_with_byte 32 first_words ∷ ps) (cut_lines ls are.texts) in
    let all : Steps transcripts 1 opening (join_with_byte 32 first_words ∷ map bytes_of ls) q = (behind 0 false [], refl, good_again opening (join_with_byte 32 first_words) First first_said refl, steps) in
    ap lines_read (ap (folded transcripts None 1 opening) cut ∙ steps_again transcripts 1 opening q (join_with_byte 32 first_words ∷ map bytes_of ls) all) ∙ ap Ok same
