-- Lines that are passed one after another.
use Rattle.std.proofs.Common.{◌≡◌, ℕ, zero, suc, ◌+◌, ◌-◌, ◌<◌, ◌≤◌, ◌==◌, Bool, true, false, if◌then◌else◌, nat_lt, List, [], ◌∷◌, ◌++◌, length, take, drop, reverse, get_or, Option, Some, None, refl, sym, ap, ◌∙◌, subst, arith, append_assoc, append-nil}
use Rattle.std.proofs.Math.Seq.{drop-cons}
use Rattle.std.proofs.lemmas.List.{take_more, reverse-append, length-reverse, length-take, length-append}
use Rattle.task_machine.specs.declared.calls.Entry.{Entry}
use Rattle.transcript.specs.declared.lines.Line.{Line}
use Rattle.transcript.specs.declared.lines.Line.TheVariants as line
use Rattle.run_picture.specs.declared.bars.Rounds.{Rounds}
use Rattle.run_picture.specs.declared.stretches.Stretch.{Stretch}
use Rattle.run_picture.specs.Steps.{lane_of, step_of}
use Rattle.run_picture.specs.Bars.{bars_at, bars_from, stretch_by, stretch_of}
use Rattle.run_picture.specs.Stretches.{stretch_at, stretches_of}
use Rattle.run_picture.proofs.Lanes.{grows, if_few}

pub next : (i : ℕ) → suc i ≡ i + 1
next i = omega arith

-- a stretch has no more entries than there are lines
stretch_few : (k : ℕ) (ls : List Line) → (stretch_of k ls).entries ≤ length ls
stretch_few k [] = omega arith
stretch_few k (line.Round number tick ∷ ls) = omega arith
stretch_few k (line.Entry e ∷ ls) =
    let le = stretch_few k ls in
    if_few (lane_of e.caller == k) (stretch_by (step_of e) (stretch_of k ls)) (stretch_of k ls) (suc (length ls)) (let n = grows (step_of e) (stretch_of k ls) (length ls) le in omega arith) (omega arith)
stretch_few k (line.End rest last ∷ ls) = omega arith

pub stretch_at_few : (l : Line) (ls : List Line) → (stretch_at l ls).entries ≤ length ls
stretch_at_few (line.Round number tick) ls = omega arith
stretch_at_few (line.Entry e) ls = stretch_few (lane_of e.caller) ls
stretch_at_few (line.End rest last) ls = omega arith

pub stretches_len : (ls : List Line) → length (stretches_of ls) ≡ length ls
stretches_len [] = refl
stretches_len (l ∷ ls) = ap suc (stretches_len ls)

pub stretches_get : (ls : List Line) (i : ℕ) (l : Line) (d : Stretch) → i < length ls → get_or (stretches_of ls) i d ≡ stretch_at (get_or ls i l) (drop (suc i) ls)
stretches_get [] i l d lt = absurd (omega arith)
stretches_get (x ∷ ls) zero l d lt = refl
stretches_get (x ∷ ls) (suc i) l d lt = stretches_get ls i l d (omega arith)

-- the lines that were passed with one more
pub past_more : (ls : List Line) (i : ℕ) (l : Line) → i < length ls → l ≡ get_or ls i l → reverse (take (i + 1) ls) ≡ l ∷ reverse (take i ls)
past_more ls i l lt is =
    ap reverse (take_more ls i l lt) ∙ reverse-append (take i ls) (get_or ls i l ∷ []) ∙ ap (λ x. x ∷ reverse (take i ls)) (sym is)

pub past_len : (ls : List Line) (i : ℕ) → length (reverse (take i ls)) ≤ length ls
past_len ls i = omega (arith, length-reverse (take i ls), length-take i ls)

-- the bars from a line on
pub bars_step : (rounds : Rounds) (ls : List Line) (i : ℕ) (l : Line) → i < length ls → l ≡ get_or ls i l → bars_from rounds (reverse (take i ls)) (drop i ls) ≡ bars_at rounds (reverse (take i ls)) l (drop (i + 1) ls) ++ bars_from rounds (reverse (take (i + 1) ls)) (drop (i + 1) ls)
bars_step rounds ls i l lt is =
    let front : drop i ls ≡ l ∷ drop (i + 1) ls = subst (λ (n : ℕ). drop i ls ≡ get_or ls i l ∷ drop n ls) (next i) (drop-cons ls i l lt) ∙ ap (λ x. x ∷ drop (i + 1) ls) (sym is) in
    ap (bars_from rounds (reverse (take i ls))) front ∙ ap (λ past. bars_at rounds (reverse (take i ls)) l (drop (i + 1) ls) ++ bars_from rounds past (drop (i + 1) ls)) (sym (past_more ls i l lt is))

take_across : {X : Type 0} (m : ℕ) (xs ys : List X) → take m (xs ++ ys) ≡ take m xs ++ take (m - length xs) ys
take_across zero xs ys =
    let none : 0 - length xs ≡ 0 = omega arith in
    sym (ap (λ n. take n ys) none)
take_across (suc m) [] ys =
    let all : suc m - 0 ≡ suc m = omega arith in
    sym (ap (λ n. take n ys) all)
take_across (suc m) (x ∷ xs) ys =
    let left : suc m - suc (length xs) ≡ m - length xs = omega arith in
    ap (λ t. x ∷ t) (take_across m xs ys ∙ ap (λ n. take m xs ++ take n ys) (sym left))

-- what was added as far as there is room, and then more
pub room_for : {X : Type 0} (most : ℕ) (bars more rest : List X) → length bars ≤ most → (bars ++ take (most - length bars) more) ++ take (most - length (bars ++ take (most - length bars) more)) rest ≡ bars ++ take (most - length bars) (more ++ rest)
room_for most bars more rest le =
    let m = most - length bars in
    let room : most - length (bars ++ take (most - length bars) more) ≡ (most - length bars) - length more = omega (arith, length-append bars (take (most - length bars) more), length-take (most - length bars) more) in
    append_assoc bars (take m more) (take (most - length (bars ++ take m more)) rest)
    ∙ ap (λ n. bars ++ (take m more ++ take n rest)) room
    ∙ ap (λ t. bars ++ t) (sym (take_across m more rest))

pub still_few : {X : Type 0} (most : ℕ) (bars more : List X) → length bars ≤ most → length (bars ++ take (most - length bars) more) ≤ most
still_few most bars more le = omega (arith, length-append bars (take (most - length bars) more), length-take (most - length bars) more)

-- a list of nothing with one nothing more
pub nothing_more : {X : Type 0} (xs : List (Option X)) → ((i : ℕ) → get_or xs i None ≡ None) → (i : ℕ) → get_or (xs ++ None ∷ []) i None ≡ None
nothing_more [] h zero = refl
nothing_more [] h (suc i) = refl
nothing_more (x ∷ xs) h zero = h zero
nothing_more (x ∷ xs) h (suc i) = nothing_more xs (λ j. h (suc j)) i
