-- A text within its limit is read as one without a limit.
use Rattle.std.proofs.Common.{◌≡◌, ℕ, ◌≤◌, nat_le, List, length, None, Ok, ap, ◌∙◌}
use Rattle.std.proofs.lemmas.Bool.{cond-true, le-leb}
use Rattle.text_lines.specs.Pieces.{pieces}
use Rattle.text_lines.specs.Lines.{Format, folded, line_over, read_within, read_whole}
use Rattle.text_lines.proofs.Cuts.{pieces_not_empty}
use Rattle.text_lines.proofs.LinesTaken.{steps_back, steps_again}

pub short_text : {P K : Type 0} (f : Format P K) (start : P) (most : ℕ) (b : List ℕ) → length b ≤ most → read_within f start most b ≡ read_whole f start b
unfolding line_over
short_text f start most b few = ap (λ over. folded f over 1 start (pieces 10 b)) (cond-true (nat_le (length b) most) None _ (le-leb (length b) most few))

-- what is read under a limit is read without one
pub limit_free : {P K : Type 0} (f : Format P K) (start q : P) (most : ℕ) (b : List ℕ) → read_within f start most b ≡ Ok q → read_whole f start b ≡ Ok q
limit_free f start q most b e =
    let (lines, is, steps) = steps_back f (line_over most b) 1 start q (pieces 10 b) (pieces_not_empty 10 b) e in
    ap (folded f None 1 start) is ∙ steps_again f 1 start q lines steps
