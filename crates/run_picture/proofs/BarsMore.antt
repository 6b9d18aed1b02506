-- The bars of the lines that were passed, and those of the lines that are left.
use Rattle.std.proofs.Common.{◌≡◌, ℕ, zero, suc, ◌+◌, ◌-◌, ◌<◌, ◌≤◌, List, [], ◌∷◌, ◌++◌, length, take, drop, reverse, get_or, refl, sym, ap, ◌∙◌, subst, append-nil, arith}
use Rattle.std.proofs.lemmas.List.{drop_all, length-drop}
use Rattle.transcript.specs.declared.lines.Line.{Line}
use Rattle.run_picture.specs.declared.bars.Bar.{Bar}
use Rattle.run_picture.specs.declared.bars.Rounds.{Rounds}
use Rattle.run_picture.specs.declared.stretches.Stretch.{Stretch}
use Rattle.run_picture.specs.Stretches.{stretch_at, stretches_of}
use Rattle.run_picture.specs.Bars.{bars_at, bars_from, most_bars}
use Rattle.run_picture.proofs.Lines.{bars_step, next, room_for, stretch_at_few, stretches_get}

pub bars_more : (rounds : Rounds) (ls : List Line) (i : ℕ) (l : Line) (old new here total : List Bar) → i < length ls → l ≡ get_or ls i l → length old ≤ most_bars
    → new ≡ old ++ take (most_bars - length old) here
    → here ≡ bars_at rounds (reverse (take i ls)) l (drop (i + 1) ls)
    → old ++ take (most_bars - length old) (bars_from rounds (reverse (take i ls)) (drop i ls)) ≡ total
    → new ++ take (most_bars - length new) (bars_from rounds (reverse (take (i + 1) ls)) (drop (i + 1) ls)) ≡ total
bars_more rounds ls i l old new here total lt is few added at so_far =
    let rest = bars_from rounds (reverse (take (i + 1) ls)) (drop (i + 1) ls) in
    ap (λ (xs : List Bar). xs ++ take (most_bars - length xs) rest) added
    ∙ room_for most_bars old here rest few
    ∙ ap (λ (xs : List Bar). old ++ take (most_bars - length old) (xs ++ rest)) at
    ∙ sym (ap (λ (xs : List Bar). old ++ take (most_bars - length old) xs) (bars_step rounds ls i l lt is))
    ∙ so_far

none_taken : (n : ℕ) → ◌≡◌ {A = List Bar} (take n []) []
none_taken zero = refl
none_taken (suc n) = refl

pub bars_done : (rounds : Rounds) (ls : List Line) (i : ℕ) (bars total : List Bar) → length ls ≤ i
    → bars ++ take (most_bars - length bars) (bars_from rounds (reverse (take i ls)) (drop i ls)) ≡ total → bars ≡ total
bars_done rounds ls i bars total le so_far =
    sym (append-nil bars)
    ∙ ap (λ (xs : List Bar). bars ++ xs) (sym (none_taken (most_bars - length bars)))
    ∙ ap (λ (xs : List Line). bars ++ take (most_bars - length bars) (bars_from rounds (reverse (take i ls)) xs)) (sym (drop_all i ls le))
    ∙ so_far

-- what was found at the place of a line is how its run goes on
pub stretch_here : (ls : List Line) (i : ℕ) (l : Line) (items : List Stretch) (s : Stretch) → i < length ls → l ≡ get_or ls i l → items ≡ stretches_of ls → s ≡ get_or items i s → s ≡ stretch_at l (drop (i + 1) ls)
stretch_here ls i l items s lt is same at =
    at
    ∙ ap (λ (xs : List Stretch). get_or xs i s) same
    ∙ stretches_get ls i l s lt
    ∙ ap (λ (x : Line). stretch_at x (drop (suc i) ls)) (sym is)
    ∙ ap (λ (n : ℕ). stretch_at l (drop n ls)) (next i)

pub stretch_small : (ls : List Line) (i : ℕ) (l : Line) (s : Stretch) → s ≡ stretch_at l (drop (i + 1) ls) → s.entries ≤ length ls
stretch_small ls i l s e =
    let le : s.entries ≤ length (drop (i + 1) ls) = subst (λ (t : Stretch). t.entries ≤ length (drop (i + 1) ls)) (sym e) (stretch_at_few l (drop (i + 1) ls)) in
    omega (arith, length-drop (i + 1) ls)
