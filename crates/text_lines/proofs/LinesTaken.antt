-- The lines of a text that is read, taken one after another.
use Rattle.std.proofs.Common.{◌≡◌, ℕ, ◌+◌, Bool, true, false, if◌then◌else◌, List, [], ◌∷◌, ◌++◌, Option, None, Result, Ok, Err, refl, ap, ◌∙◌, sym, append_assoc}
use Rattle.std.specs.List.{flat_map, join_with_byte}
use Rattle.std.proofs.lemmas.Bool.{cond-true, cond-false}
use Rattle.std.proofs.lemmas.List.Splits.{join_with_byte-slice_split}
use Rattle.text_lines.specs.Steps.{is_empty}
use Rattle.text_lines.specs.Pieces.{pieces}
use Rattle.text_lines.specs.Lines.{Format, is_line, at_line, line_taken, closed, go_on, folded}
use Rattle.text_lines.proofs.Cuts.{pieces_not_empty}

same_ok : {P K : Type 0} {p q : P} → (let r : Result P K = Ok p in r) ≡ Ok q → p ≡ q
same_ok e = cc

-- a line that was taken, and what followed
pub go_back : {P K : Type 0} (r : Result P (ℕ × K)) (more : P → Result P (ℕ × K)) (q : P) → go_on r more ≡ Ok q → (p : P) × (r ≡ Ok p) × (more p ≡ Ok q)
go_back (Ok p) more q e = (p, refl, e)
go_back (Err first) more q e = cc

-- a line that was taken is good, and the last one had not come
pub taken_back : {P K : Type 0} (f : Format P K) (over : Option ℕ) (n : ℕ) (p q : P) (line : List ℕ) → line_taken f over n p line ≡ Ok q → (f.has_ended p ≡ false) × (f.judge n p line ≡ Ok q)
unfolding line_taken
taken_back {P} {K} f over n p q line e = go (f.has_ended p) (is_line over n) (f.judge n p line) refl refl e where
  go : (b o : Bool) (r : Result P K) → f.has_ended p ≡ b → f.judge n p line ≡ r → if◌then◌else◌ {A = Result P (ℕ × K)} b (Err (n, f.behind)) (if◌then◌else◌ {A = Result P (ℕ × K)} o (Err (n, f.over)) (at_line n r)) ≡ Ok q → (f.has_ended p ≡ false) × (f.judge n p line ≡ Ok q)
  go true o r h k e = cc
  go false true r h k e = cc
  go false false (Ok m) h k e = (h, k ∙ ap Ok (same_ok e))
  go false false (Err kind) h k e = cc

-- the open piece of a text that is read is empty, and the last line has come
closed_back : {P K : Type 0} (f : Format P K) (over : Option ℕ) (n : ℕ) (p q : P) (piece : List ℕ) → closed f over n p piece ≡ Ok q → (piece ≡ []) × (f.has_ended p ≡ true) × (p ≡ q)
unfolding closed
closed_back {P} {K} f over n p q piece e = go (f.has_ended p) (is_line over n) piece refl refl e where
  go : (b o : Bool) (w : List ℕ) → f.has_ended p ≡ b → piece ≡ w → if◌then◌else◌ {A = Result P (ℕ × K)} b (if is_empty w then Ok p else Err (n, f.behind)) (if o then Err (n, f.over) else Err (n, f.short)) ≡ Ok q → (piece ≡ []) × (f.has_ended p ≡ true) × (p ≡ q)
  go true o [] h k e = (k, h, same_ok e)
  go true o (x ∷ xs) h k e = cc
  go false true w h k e = cc
  go false false w h k e = cc

-- whole lines lead from what was read to more, and the last one of them ends the text
abbrev pub Steps : {P K : Type 0} → Format P K → ℕ → P → List (List ℕ) → P → Type 0
Steps f n p [] q = (f.has_ended p ≡ true) × (p ≡ q)
Steps {P} f n p (line ∷ lines) q = (m : P) × (f.has_ended p ≡ false) × (f.judge n p line ≡ Ok m) × Steps f (n + 1) m lines q

pub steps_back : {P K : Type 0} (f : Format P K) (over : Option ℕ) (n : ℕ) (p q : P) (ws : List (List ℕ)) → is_empty ws ≡ false → folded f over n p ws ≡ Ok q → (lines : List (List ℕ)) × (ws ≡ lines ++ [] ∷ []) × Steps f n p lines q
unfolding folded
steps_back f over n p q [] some e = cc
steps_back f over n p q (piece ∷ []) some e =
    let (none, ended, same) = closed_back f over n p q piece e in
    ([], ap (λ x. x ∷ []) none, (ended, same))
steps_back f over n p q (line ∷ next ∷ more) some e =
    let (m, taken, others) = go_back (line_taken f over n p line) _ q e in
    let (going, good) = taken_back f over n p m line taken in
    let (lines, is, steps) = steps_back f over (n + 1) m q (next ∷ more) refl others in
    (line ∷ lines, ap (λ ws. line ∷ ws) is, (m, going, good, steps))

fold_more : {P K : Type 0} (f : Format P K) (n : ℕ) (p : P) (line : List ℕ) (lines : List (List ℕ)) → folded f None n p (line ∷ (lines ++ [] ∷ [])) ≡ go_on (line_taken f None n p line) (λ q. folded f None (n + 1) q (lines ++ [] ∷ []))
unfolding folded
fold_more f n p line [] = refl
fold_more f n p line (next ∷ lines) = refl

pub steps_again : {P K : Type 0} (f : Format P K) (n : ℕ) (p q : P) (lines : List (List ℕ)) → Steps f n p lines q → folded f None n p (lines ++ [] ∷ []) ≡ Ok q
unfolding folded closed line_taken
steps_again f n p q [] steps = cond-true (f.has_ended p) (Ok p) _ steps.0 ∙ ap Ok steps.1
steps_again f n p q (line ∷ lines) steps =
    fold_more f n p line lines
    ∙ ap (λ r. go_on r (λ m. folded f None (n + 1) m (lines ++ [] ∷ []))) (cond-false (f.has_ended p) _ (at_line n (f.judge n p line)) steps.1 ∙ ap (at_line n) steps.2)
    ∙ steps_again f (n + 1) steps.0 q lines steps.3

-- a text of these lines
abbrev pub text_of : List (List ℕ) → List ℕ
text_of lines = flat_map (λ line. line ++ 10 ∷ []) lines

joined_lines : (lines : List (List ℕ)) → join_with_byte 10 (lines ++ [] ∷ []) ≡ text_of lines
joined_lines [] = refl
joined_lines (x ∷ []) = sym (append_assoc x (10 ∷ []) [])
joined_lines (x ∷ y ∷ lines) = ap (λ r. x ++ 10 ∷ r) (joined_lines (y ∷ lines)) ∙ sym (append_assoc x (10 ∷ []) (text_of (y ∷ lines)))

-- a text that is read is that of whole lines which are taken
pub read_lines : {P K : Type 0} (f : Format P K) (over : Option ℕ) (start q : P) (bytes : List ℕ) → folded f over 1 start (pieces 10 bytes) ≡ Ok q → (lines : List (List ℕ)) × (bytes ≡ text_of lines) × Steps f 1 start lines q
read_lines f over start q bytes e =
    let (lines, is, steps) = steps_back f over 1 start q (pieces 10 bytes) (pieces_not_empty 10 bytes) e in
    (lines, sym (join_with_byte-slice_split 10 bytes) ∙ ap (join_with_byte 10) is ∙ joined_lines lines, steps)
