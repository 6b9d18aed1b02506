-- The script in front of an input, one line after another.
use Rattle.std.proofs.Common.{◌≡◌, ℕ, zero, suc, ◌+◌, ◌-◌, ◌<◌, ◌≤◌, ◌==◌, Bool, true, false, List, [], ◌∷◌, ◌++◌, length, take, min, refl, sym, ap, ◌∙◌, arith, append_assoc, append-nil, if◌then◌else◌, inl, inr}
use Rattle.std.specs.Prelude.{codes, bytes_eq}
use Rattle.std.specs.List.{join_with_byte, onto_first}
use Rattle.std.proofs.lemmas.Bool.{cases_Bool}
use Rattle.std.proofs.lemmas.List.{length-append}
use Rattle.std.proofs.lemmas.List.Elements.{All-nil}
use Rattle.std.proofs.lemmas.List.Splits.{slice_split_at, slice_split-cons_no, join_with_byte-slice_split}
use Rattle.text_lines.specs.Pieces.{pieces}
use Rattle.text_lines.proofs.Cuts.{pieces_some}
use Rattle.program_edges.specs.Inputs.{through_end, script_length}

-- pieces with more bytes in front of the first
abbrev ahead : List ℕ → List (List ℕ) → List (List ℕ)
ahead w [] = []
ahead w (p ∷ ps) = (w ++ p) ∷ ps

ahead_none : (ps : List (List ℕ)) → ahead [] ps ≡ ps
ahead_none [] = refl
ahead_none (p ∷ ps) = refl

ahead_one : (w : List ℕ) (c : ℕ) (ps : List (List ℕ)) (p : List ℕ) (more : List (List ℕ)) → ps ≡ p ∷ more → ahead w (onto_first c ps) ≡ ahead (w ++ c ∷ []) ps
ahead_one w c ps p more e = rw e (ap (λ q. q ∷ more) (sym (append_assoc w (c ∷ []) p)))

-- a byte more in the first piece, and a line feed behind it
in_piece : (w : List ℕ) (c : ℕ) (rest : List ℕ) → (c == 10) ≡ false → ahead w (pieces 10 (c ∷ rest)) ≡ ahead (w ++ c ∷ []) (pieces 10 rest)
in_piece w c rest apart =
    let some = pieces_some 10 rest in
    ap (ahead w) (slice_split-cons_no (λ b. b == 10) c rest apart) ∙ ahead_one w c (pieces 10 rest) some.0 some.1 some.2

at_feed : (w : List ℕ) (c : ℕ) (rest : List ℕ) → (c == 10) ≡ true → ahead w (pieces 10 (c ∷ rest)) ≡ w ∷ pieces 10 rest
at_feed w c rest ends = ap (ahead w) (slice_split_at (λ b. b == 10) [] c rest (All-nil _) ends) ∙ ap (λ q. q ∷ pieces 10 rest) (append-nil w)

abbrev pub is_end : List ℕ → Bool
is_end line = bytes_eq line (codes "end")

after_line : (line : List ℕ) (ps : List (List ℕ)) (p : List ℕ) (more : List (List ℕ)) → ps ≡ p ∷ more → through_end (line ∷ ps) ≡ length line + 1 + (if is_end line then 0 else through_end ps)
unfolding through_end
after_line line ps p more e = rw e refl

feed : (line rest : List ℕ) → through_end (line ∷ pieces 10 rest) ≡ length line + 1 + (if is_end line then 0 else through_end (pieces 10 rest))
feed line rest = let some = pieces_some 10 rest in after_line line (pieces 10 rest) some.0 some.1 some.2

open_piece : (w : List ℕ) → through_end (ahead w (pieces 10 [])) ≡ length w
unfolding through_end
open_piece w = ap length (append-nil w)

-- it is no less than what stands in front, and no more than all
bounds : (bytes w : List ℕ) → (length w ≤ through_end (ahead w (pieces 10 bytes))) × (through_end (ahead w (pieces 10 bytes)) ≤ length w + length bytes)
bounds [] w = let all = open_piece w in (omega arith, omega arith)
bounds (c ∷ rest) w = elim (cases_Bool (c == 10)) [
  | inl ends ↦
      (let here = ap through_end (at_feed w c rest ends) ∙ feed w rest in
      let later = bounds rest [] in
      let same = ap through_end (ahead_none (pieces 10 rest)) in
      by_end (is_end w) (through_end (ahead w (pieces 10 (c ∷ rest)))) (through_end (pieces 10 rest)) here (let n = later.1 in omega arith))
  | inr apart ↦
      (let here = ap through_end (in_piece w c rest apart) in
      let later = bounds rest (w ++ c ∷ []) in
      let long = length-append w (c ∷ []) in
      (omega (arith, later.0), omega (arith, later.1)))
]
  where
    by_end : (b : Bool) (x t : ℕ) → x ≡ length w + 1 + (if b then 0 else t) → t ≤ length rest → (length w ≤ x) × (x ≤ length w + length (c ∷ rest))
    by_end true x t e le = (omega arith, omega arith)
    by_end false x t e le = (omega arith, omega arith)

-- a cut behind byte m
cut_ahead : (bytes w : List ℕ) (m : ℕ) → through_end (ahead w (pieces 10 (take m bytes))) ≡ min (length w + m) (through_end (ahead w (pieces 10 bytes)))
cut_ahead bytes w zero = let none = open_piece w in let low = (bounds bytes w).0 in omega arith
cut_ahead [] w (suc m) = let none = open_piece w in omega arith
cut_ahead (c ∷ rest) w (suc m) = elim (cases_Bool (c == 10)) [
  | inl ends ↦
      (let here = ap through_end (at_feed w c rest ends) ∙ feed w rest in
      let cut = ap through_end (at_feed w c (take m rest) ends) ∙ feed w (take m rest) in
      let later = cut_ahead rest [] m in
      let same = ap through_end (ahead_none (pieces 10 rest)) in
      let less = ap through_end (ahead_none (pieces 10 (take m rest))) in
      by_end (is_end w) (through_end (ahead w (pieces 10 (c ∷ take m rest)))) (through_end (ahead w (pieces 10 (c ∷ rest)))) (through_end (pieces 10 (take m rest))) (through_end (pieces 10 rest)) cut here (omega arith))
  | inr apart ↦
      (let here = ap through_end (in_piece w c rest apart) in
      let cut = ap through_end (in_piece w c (take m rest) apart) in
      let later = cut_ahead rest (w ++ c ∷ []) m in
      let long = length-append w (c ∷ []) in
      omega arith)
]
  where
    by_end : (b : Bool) (x y t u : ℕ) → x ≡ length w + 1 + (if b then 0 else t) → y ≡ length w + 1 + (if b then 0 else u) → t ≡ min m u → x ≡ min (length w + suc m) y
    by_end true x y t u e f g = omega arith
    by_end false x y t u e f g = omega arith

pub cut_length : (bytes : List ℕ) (m : ℕ) → script_length (take m bytes) ≡ min m (script_length bytes)
cut_length bytes m =
    let cut = cut_ahead bytes [] m in
    let same = ap through_end (ahead_none (pieces 10 bytes)) in
    let less = ap through_end (ahead_none (pieces 10 (take m bytes))) in
    omega arith

pub length_within : (bytes : List ℕ) → script_length bytes ≤ length bytes
length_within bytes =
    let most = (bounds bytes []).1 in
    let same = ap through_end (ahead_none (pieces 10 bytes)) in
    omega arith

-- ---- one line after another

pub last_piece : (rest line : List ℕ) → pieces 10 rest ≡ line ∷ [] → through_end (pieces 10 rest) ≡ length rest
unfolding through_end
last_piece rest line e = ap through_end e ∙ ap length (sym (ap (join_with_byte 10) e) ∙ join_with_byte-slice_split 10 rest)

joined_length : (line next : List ℕ) (ps : List (List ℕ)) (p : List ℕ) (more : List (List ℕ)) → ps ≡ p ∷ more → join_with_byte 10 ps ≡ next → length (join_with_byte 10 (line ∷ ps)) ≡ length line + 1 + length next
joined_length line next ps p more e joined =
    let split : join_with_byte 10 (line ∷ ps) ≡ line ++ 10 ∷ next = ap (λ qs. join_with_byte 10 (line ∷ qs)) e ∙ ap (λ t. line ++ 10 ∷ t) (sym (ap (join_with_byte 10) e) ∙ joined) in
    let all = length-append line (10 ∷ next) in
    ap length split ∙ (let sum : length (line ++ 10 ∷ next) ≡ length line + 1 + length next = omega arith in sum)

pub line_length : (rest line next : List ℕ) → pieces 10 rest ≡ line ∷ pieces 10 next → length rest ≡ length line + 1 + length next
line_length rest line next e =
    let some = pieces_some 10 next in
    ap length (sym (join_with_byte-slice_split 10 rest) ∙ ap (join_with_byte 10) e) ∙ joined_length line next (pieces 10 next) some.0 some.1 some.2 (join_with_byte-slice_split 10 next)

pub line_end : (rest line next : List ℕ) → pieces 10 rest ≡ line ∷ pieces 10 next → through_end (pieces 10 rest) ≡ length line + 1 + (if is_end line then 0 else through_end (pieces 10 next))
line_end rest line next e = ap through_end e ∙ feed line next
