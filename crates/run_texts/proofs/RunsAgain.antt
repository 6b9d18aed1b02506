-- The lines of a run follow one another, and lines that do are those of a run.
use Rattle.std.proofs.Common.{◌≡◌, ℕ, ◌+◌, ◌-◌, ◌<◌, Bool, true, false, true≢false, List, [], ◌∷◌, ◌++◌, map, length, Ok, refl, ap, ◌∙◌, sym, subst, arith}
use Rattle.std.specs.List.{AllByRecursion}
use Rattle.std.proofs.lemmas.Bool.{eq-eqb, lt-ltb, eqb-true, ltb-true}
use Rattle.task_machine.specs.declared.calls.Entry.{Entry}
use Rattle.run_model.specs.Run.{Round, Run}
use Rattle.transcript.specs.declared.lines.Line.{Line}
use Rattle.transcript.specs.declared.lines.Line.TheVariants as line
use Rattle.transcript.specs.HasText.{HasTextLine}
use Rattle.transcript.specs.Spelling.{lines_text}
use Rattle.transcript.specs.Judging.{lines_of, GoesOn}
use Rattle.transcript.specs.Laws.{AreLines}
use Rattle.transcript.proofs.TextAgain.{lines_text_again}
use Rattle.transcript.proofs.TextBack.{lines_text_back}
use Rattle.run_texts.specs.RunLines.{lines_from, lines_of_run}
use Rattle.run_texts.specs.RunText.{text_of, HasText}

entries_go_on : (es : List Entry) (r : ℕ) (ls : List Line) → 0 < r → GoesOn r false ls → GoesOn r false (map line.Entry es ++ ls)
entries_go_on [] r ls some goes = goes
entries_go_on (e ∷ es) r ls some goes = (refl, lt-ltb 0 r some, entries_go_on es r ls some goes)

run_goes_on : (r : ℕ) (rounds : List Round) (rest : Bool) → 0 < r + length rounds → GoesOn r false (lines_from r rounds rest)
run_goes_on r [] rest some = (refl, eq-eqb (r - 1 + 1) r (omega arith), refl)
run_goes_on r (round ∷ more) rest some =
    (refl, eq-eqb r r refl, entries_go_on round.entries (r + 1) (lines_from (r + 1) more rest) (omega arith) (run_goes_on (r + 1) more rest (omega arith)))

-- the text of a run is read as its lines
pub text_again : (run : Run) → HasText run → lines_of (text_of run) ≡ Ok (lines_of_run run)
text_again run has =
    lines_text_again (lines_of_run run) (record { order = run_goes_on 0 run.rounds run.rest (omega (arith, has.begun)); texts = has.lines })

-- lines that go on are entries of the round before, and then rounds and an end
run_back : (ls : List Line) (r : ℕ) → GoesOn r false ls → (es : List Entry) × (rounds : List Round) × (rest : Bool) × (ls ≡ map line.Entry es ++ lines_from r rounds rest) × (r ≡ 0 → es ≡ []) × (0 < r + length rounds)
run_back [] r goes = absurd (true≢false (sym goes))
run_back (line.Round number tick ∷ ls) r goes =
    let same : number ≡ r = eqb-true number r goes.1 in
    let after = run_back ls (r + 1) goes.2 in
    let round : Round = record { tick = tick; entries = after.0 } in
    ([], round ∷ after.1, after.2, ap (λ k. line.Round k tick ∷ ls) same ∙ ap (λ x. line.Round r tick ∷ x) after.3, (λ z. refl), omega arith)
run_back (line.Entry e ∷ ls) r goes =
    let after = run_back ls r goes.2 in
    let some : 0 < r = ltb-true 0 r goes.1 in
    (e ∷ after.0, after.1, after.2, ap (λ x. line.Entry e ∷ x) after.3, (λ (z : r ≡ 0). absurd (omega arith)), omega arith)
run_back (line.End rest last ∷ []) r goes =
    let same : last + 1 ≡ r = eqb-true (last + 1) r goes.1 in
    let number : last ≡ r - 1 = omega arith in
    ([], [], rest, ap (λ k. line.End rest k ∷ []) number, (λ z. refl), omega arith)
run_back (line.End rest last ∷ l ∷ ls) r goes = absurd (true≢false goes.2.0)

-- bytes that are read are the text of a run
pub text_back : (b : List ℕ) (ls : List Line) → lines_of b ≡ Ok ls → (run : Run) × HasText run × (lines_of_run run ≡ ls) × (b ≡ text_of run)
text_back b ls e =
    let back = lines_text_back b ls e in
    let r = run_back ls 0 back.0.order in
    let run : Run = record { rounds = r.1; rest = r.2 } in
    let same : lines_of_run run ≡ ls = sym (r.3 ∙ ap (λ es. map line.Entry es ++ lines_from 0 r.1 r.2) (r.4 refl)) in
    (run, record { begun = omega (arith, r.5); lines = subst (AllByRecursion HasTextLine) (sym same) back.0.texts }, same, back.1 ∙ ap lines_text (sym same))
