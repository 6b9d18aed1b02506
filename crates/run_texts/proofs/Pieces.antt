-- The text of a run, piece by piece as it is written.
use Rattle.std.proofs.Common.{◌≡◌, ℕ, ◌+◌, ◌-◌, Bool, List, [], ◌∷◌, ◌++◌, length, refl, ap, ◌∙◌, arith, append_assoc, append-nil, add-zero, zero-add, suc}
use Rattle.std.specs.List.{flat_map}
use Rattle.std.proofs.lemmas.Grind.{flat_map-append}
use Rattle.std.proofs.lemmas.List.Folds.{flat_map-map}
use Rattle.run_model.specs.Run.{Round, Run}
use Rattle.run_texts.specs.RunLines.{lines_from}
use Rattle.transcript.specs.Spelling.{line_text, lines_text, head_text, entries_text, round_text, end_text}
use Rattle.run_texts.specs.RunText.{text_of, rounds_text}

-- the lines from round r on
lines_from_pieces : (r : ℕ) (rounds : List Round) (rest : Bool) → flat_map line_text (lines_from r rounds rest) ≡ rounds_text r rounds ++ end_text rest (r + length rounds - 1)
unfolding end_text round_text entries_text
lines_from_pieces r [] rest = simp (append-nil, add-zero)
lines_from_pieces r (round ∷ more) rest =
    let number : (r + 1) + length more - 1 ≡ r + suc (length more) - 1 = omega arith in
    simp (flat_map-append, flat_map-map, lines_from_pieces (r + 1) more rest, number, append_assoc)

-- the first line, the rounds and the end line are the text of a run
pub text_of_pieces : (run : Run) → text_of run ≡ head_text ++ (rounds_text 0 run.rounds ++ end_text run.rest (length run.rounds - 1))
unfolding lines_text
text_of_pieces run = ap (λ t. head_text ++ t) (lines_from_pieces 0 run.rounds run.rest ∙ rw zero-add refl)

-- the rounds of two lists, one after the other
pub rounds_text-append : (r : ℕ) (xs ys : List Round) → rounds_text r (xs ++ ys) ≡ rounds_text r xs ++ rounds_text (r + length xs) ys
rounds_text-append r [] ys = rw add-zero refl
rounds_text-append r (x ∷ xs) ys =
    let number : (r + 1) + length xs ≡ r + suc (length xs) = omega arith in
    simp (rounds_text-append (r + 1) xs ys, number, append_assoc)
