-- Bytes that are read as lines are the text of these lines, which go on.
use Rattle.std.proofs.Common.{◌≡◌, ℕ, ◌+◌, Bool, true, false, true≢false, if◌then◌else◌, List, [], ◌∷◌, ◌++◌, Option, Some, None, Result, Ok, Err, refl, ap, ◌∙◌, sym, subst, append_assoc, append-nil}
use Rattle.std.specs.List.{join_with_byte, flat_map, AllByRecursion}
use Rattle.std.proofs.lemmas.Bool.{and_parts, not-true}
use Rattle.text_lines.specs.Added.{spelled}
use Rattle.text_lines.proofs.LinesTaken.{Steps, text_of, read_lines}
use Rattle.transcript.specs.Types.{Line, Said, First, Holds, Progress}
use Rattle.transcript.specs.declared.faults.FaultKind.{FaultKind}
use Rattle.transcript.specs.declared.faults.FaultKind.TheVariants as kinds
use Rattle.transcript.specs.HasText.{HasTextLine}
use Rattle.transcript.specs.Spelling.{line_text, line_words, first_words, head_text, lines_text}
use Rattle.transcript.specs.Grammar.{said}
use Rattle.transcript.specs.Judging.{transcripts, lines_read, lines_of, judged_said, may_stand, follows, past, opening, GoesOn}
use Rattle.transcript.specs.Laws.{AreLines}
use Rattle.transcript.proofs.PhrasesBack.{said_back}
use Rattle.transcript.proofs.TextAgain.{behind}

-- a line that is good was read, and may stand here
pub good_back : (p q : Progress) (text : List ℕ) → judged_said p (said text) ≡ Ok q → (s : Said) × (said text ≡ Some s) × (may_stand p s ≡ true) × (past p s ≡ q)
good_back p q text e = go (said text) refl e where
  good : (s : Said) (b : Bool) → may_stand p s ≡ b → if◌then◌else◌ {A = Result Progress FaultKind} b (Ok (past p s)) (Err kinds.Order) ≡ Ok q → (may_stand p s ≡ true) × (past p s ≡ q)
  good s true h e = (h, cc)
  good s false h e = absurd (cc)

  go : (o : Option Said) → said text ≡ o → judged_said p o ≡ Ok q → (s : Said) × (said text ≡ Some s) × (may_stand p s ≡ true) × (past p s ≡ q)
  go None k e = absurd (cc)
  go (Some s) k e = let (stands, is) = good s (may_stand p s) refl e in (s, k, stands, is)

-- a line with its line feed
spelled_is : (ws : List (List ℕ)) (text : List ℕ) → text ≡ join_with_byte 32 ws → text ++ 10 ∷ [] ≡ spelled ws
unfolding spelled
spelled_is ws text e = ap (λ t. t ++ 10 ∷ []) e

-- the lines of the run that lead from some progress to another, and their text
record Lead (p q : Progress) (lines : List (List ℕ)) : Type 0 where
  more : List Line
  order : GoesOn p.rounds p.ended more
  texts : AllByRecursion HasTextLine more
  kept : q.lines ≡ p.lines ++ more
  bytes : text_of lines ≡ flat_map line_text more

lead : (lines : List (List ℕ)) (n : ℕ) (p q : Progress) → p.begun ≡ true → Steps transcripts n p lines q → Lead p q lines
lead [] n p q begun steps = record { more = []; order = steps.0; texts = tt; kept = sym (ap (λ p. p.lines) steps.1) ∙ sym (append-nil p.lines); bytes = refl }
lead (text ∷ lines) n p q begun steps =
    let (m, going, good, more) = steps in
    let (s, reads, stands, is) = good_back p m text good in
    go s going reads stands (λ still. lead lines (n + 1) (past p s) q still (subst (λ m. Steps transcripts (n + 1) m lines q) (sym is) more)) where
      go : (s : Said) → p.ended ≡ false → said text ≡ Some s → may_stand p s ≡ true → ((past p s).begun ≡ true → Lead (past p s) q lines) → Lead p q (text ∷ lines)
      go First going reads stands again = absurd (true≢false (sym begun ∙ not-true p.begun stands))
      go (Holds l) going reads stands again =
          let rest = again begun in
          let good = and_parts p.begun (follows p.rounds l) stands in
          let line = said_back text (Holds l) reads in
          record { more = l ∷ rest.more; order = (going, good.1, rest.order); texts = (line.1.1, rest.texts); kept = rest.kept ∙ append_assoc p.lines (l ∷ []) rest.more; bytes = λ i. spelled_is (line_words l) text (line.0 ∙ ap (join_with_byte 32) line.1.0) i ++ rest.bytes i }

-- the first line, and those behind it
first_back : (lines : List (List ℕ)) (q : Progress) → Steps transcripts 1 opening lines q → AreLines q.lines × (text_of lines ≡ lines_text q.lines)
unfolding lines_text head_text
first_back [] q steps = absurd (cc)
first_back (text ∷ lines) q steps =
    let (m, going, good, more) = steps in
    let (s, reads, stands, is) = good_back opening m text good in
    go s reads stands (subst (λ m. Steps transcripts 2 m lines q) (sym is) more) where
      go : (s : Said) → said text ≡ Some s → may_stand opening s ≡ true → Steps transcripts 2 (past opening s) lines q → AreLines q.lines × (text_of (text ∷ lines) ≡ spelled first_words ++ flat_map line_text q.lines)
      go First reads stands steps =
          let rest = lead lines 2 (behind 0 false []) q refl steps in
          let first = said_back text First reads in
          let same : rest.more ≡ q.lines = sym rest.kept in
          (record { order = subst (GoesOn 0 false) same rest.order; texts = subst (AllByRecursion HasTextLine) same rest.texts }, λ i. spelled_is first_words text (first.0 ∙ ap (join_with_byte 32) first.1) i ++ (rest.bytes ∙ ap (flat_map line_text) same) i)
      go (Holds l) reads stands steps = absurd (true≢false (sym stands))

pub lines_read_back : (r : Result Progress (ℕ × FaultKind)) (ls : List Line) → lines_read r ≡ Ok ls → (q : Progress) × (r ≡ Ok q) × (q.lines ≡ ls)
lines_read_back (Ok q) ls e = (q, refl, cc)
lines_read_back (Err f) ls e = absurd (cc)

-- bytes that are read are the text of the lines
pub lines_text_back : (b : List ℕ) (ls : List Line) → lines_of b ≡ Ok ls → AreLines ls × (b ≡ lines_text ls)
lines_text_back b ls e =
    let r = lines_read_back _ ls e in
    let (lines, is, steps) = read_lines transcripts None opening r.0 b r.1 in
    let f = first_back lines r.0 steps in
    subst (λ ls. AreLines ls × (b ≡ lines_text ls)) r.2 (f.0, is ∙ f.1)
