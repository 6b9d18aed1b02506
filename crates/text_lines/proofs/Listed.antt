-- A list of reasons, name by name as it is written.
use Rattle.std.proofs.Common.{◌≡◌, ◌≢◌, ℕ, ◌+◌, ◌/◌, ◌%◌, ◌<◌, ◌≤◌, Bool, true, false, if◌then◌else◌, List, [], ◌∷◌, ◌++◌, length, drop, get_or, refl, ap, ◌∙◌, sym, append_assoc, append-nil}
use Rattle.std.specs.List.{join_with_byte}
use Rattle.std.proofs.lemmas.List.{drop_more, drop_all}
use Rattle.std.proofs.lemmas.Bool.{cond-true, cond-false, eq-eqb, ne_eqb}
use Rattle.text_lines.specs.Reasons.{chosen, reason_names, reasons_word}

-- names as they are written: without a comma in front where nothing was written
abbrev pub listed : Bool → List (List ℕ) → List ℕ
listed true names = join_with_byte 44 names
listed false [] = []
listed false (name ∷ names) = 44 ∷ (name ++ listed false names)

-- a name as it is written
abbrev pub named : Bool → List ℕ → List ℕ
named is_first name = if is_first then name else 44 ∷ name

joined : (name : List ℕ) (names : List (List ℕ)) → join_with_byte 44 (name ∷ names) ≡ name ++ listed false names
joined name [] = sym (append-nil name)
joined name (next ∷ names) = ap (λ t. name ++ (44 ∷ t)) (joined next names)

listed-cons : (is_first : Bool) (name : List ℕ) (names : List (List ℕ)) → listed is_first (name ∷ names) ≡ named is_first name ++ listed false names
listed-cons true name names = joined name names
listed-cons false name names = refl

-- what is left to write from a bit on
pub left : Bool → ℕ → ℕ → List ℕ
left is_first rest bit = listed is_first (chosen rest (drop bit reason_names))

chosen_yes : (names : List (List ℕ)) (rest bit : ℕ) → bit < length names → rest % 2 ≡ 1 → chosen rest (drop bit names) ≡ get_or names bit [] ∷ chosen (rest / 2) (drop (bit + 1) names)
chosen_yes names rest bit below odd =
    ap (chosen rest) (drop_more names bit [] below) ∙ cond-true _ _ _ (eq-eqb _ _ odd)

chosen_no : (names : List (List ℕ)) (rest bit : ℕ) → bit < length names → rest % 2 ≢ 1 → chosen rest (drop bit names) ≡ chosen (rest / 2) (drop (bit + 1) names)
chosen_no names rest bit below even =
    ap (chosen rest) (drop_more names bit [] below) ∙ cond-false _ _ _ (ne_eqb _ _ even)

pub left_start : (bits : ℕ) → left true bits 0 ≡ reasons_word bits
unfolding left reasons_word
left_start bits = refl

pub left_yes : (out next : List ℕ) (is_first : Bool) (rest bit : ℕ) → bit < 7 → rest % 2 ≡ 1 → next ≡ out ++ named is_first (get_or reason_names bit []) → next ++ left false (rest / 2) (bit + 1) ≡ out ++ left is_first rest bit
unfolding left
left_yes out next is_first rest bit below odd e =
    ap (λ t. t ++ listed false (chosen (rest / 2) (drop (bit + 1) reason_names))) e ∙ append_assoc out (named is_first (get_or reason_names bit [])) (listed false (chosen (rest / 2) (drop (bit + 1) reason_names))) ∙ ap (λ t. out ++ t) (sym (ap (listed is_first) (chosen_yes reason_names rest bit below odd) ∙ listed-cons is_first _ _))

pub left_no : (is_first : Bool) (rest bit : ℕ) → bit < 7 → rest % 2 ≢ 1 → left is_first (rest / 2) (bit + 1) ≡ left is_first rest bit
unfolding left
left_no is_first rest bit below even = sym (ap (listed is_first) (chosen_no reason_names rest bit below even))

nothing : (is_first : Bool) → listed is_first [] ≡ []
nothing true = refl
nothing false = refl

pub left_end : (is_first : Bool) (rest bit : ℕ) → 7 ≤ bit → left is_first rest bit ≡ []
unfolding left
left_end is_first rest bit past = ap (λ ns. listed is_first (chosen rest ns)) (drop_all bit reason_names past) ∙ nothing is_first
