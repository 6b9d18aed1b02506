-- Words have no space and no line feed, so that a text is cut where it was joined.
use Rattle.std.proofs.Common.{◌≡◌, ℕ, zero, suc, ◌^◌, ◌/◌, ◌%◌, ◌<◌, true, false, ◌==◌, ltb, leb, nat_lt, List, [], ◌∷◌, ◌++◌, decimal, length, get_or, refl, ap, ◌∙◌, arith, append_assoc}
use Rattle.std.specs.List.{list_all, join_with_byte, All}
use Rattle.std.specs.Str.{all_ascii_digits}
use Rattle.std.specs.Char.{is_ascii_digit}
use Rattle.std.proofs.lemmas.List.Splits.{slice_split_none, slice_split_at}
use Rattle.std.proofs.lemmas.List.Folds.{list_all-append}
use Rattle.std.proofs.lemmas.List.Elements.{All-nil, All-cons}
use Rattle.std.proofs.lemmas.Bool.{and_parts, and_from, leb-true, ltb-true, lt-ltb, ne_eqb, agree_below_at}
use Rattle.text_lines.specs.Names.{plain, is_name, is_name_byte}
use Rattle.text_lines.specs.Pieces.{pieces}
use Rattle.text_lines.specs.Reasons.{reasons_word, pending_word}
use Rattle.text_lines.specs.Masks.{hex_word}
use Rattle.text_lines.specs.Added.{spelled}
use Rattle.std.specs.Fmt.{digit_glyph}
use Rattle.std.specs.Char.{is_ascii_lowercase}
use Rattle.std.proofs.lemmas.Bool.Decides.{nat_tests}
use Rattle.text_lines.specs.Slots.{Slot, Value, Row, of_small, of_number, of_reasons, of_index, of_text}
use Rattle.text_lines.specs.Slots as slot
use Rattle.text_lines.specs.Shapes.{spelled_in, behind, words, FitsIn, Fits, is_plain_slot, row_words}
use Rattle.text_lines.proofs.NumbersAgain.{decimal_digits}

digits_plain : (w : List ℕ) → all_ascii_digits w ≡ true → plain w ≡ true
digits_plain [] e = refl
digits_plain (c ∷ cs) e =
    let p = and_parts (is_ascii_digit c) (all_ascii_digits cs) e in
    let q = and_parts (leb 48 c) (leb c 57) p.0 in
    and_from (ltb 32 c) (plain cs) (lt-ltb 32 c (omega (arith, leb-true 48 c q.0))) (digits_plain cs p.1)

pub decimal_plain : (n : ℕ) → n < 2 ^ 64 → plain (decimal n) ≡ true
decimal_plain n small = digits_plain (decimal n) (decimal_digits n small)

glyph_plain : (d : ℕ) → d < 16 → ltb 32 (digit_glyph false d) ≡ true
glyph_plain d below = agree_below_at (λ d. ltb 32 (digit_glyph false d)) (λ d. true) 16 d refl below

pub hex_plain : (k n : ℕ) → plain (hex_word k n) ≡ true
unfolding hex_word
hex_plain zero n = refl
hex_plain (suc k) n =
    list_all-append (nat_lt 32) (hex_word k (n / 16)) (digit_glyph false (n % 16) ∷ []) ∙ and_from _ _ (hex_plain k (n / 16)) (and_from _ _ (glyph_plain (n % 16) (omega arith)) refl)

pub reasons_plain : (f : ℕ) → f < 128 → plain (reasons_word f) ≡ true
unfolding reasons_word
reasons_plain f below = agree_below_at (λ f. plain (reasons_word f)) (λ f. true) 128 f refl below

pub pending_plain : (f : ℕ) → f < 128 → plain (pending_word f) ≡ true
unfolding reasons_word
pending_plain f below = agree_below_at (λ f. plain (pending_word f)) (λ f. true) 128 f refl below

-- none of the bytes is the one at which a text is cut
none_at : (at : ℕ) (w : List ℕ) → list_all (nat_lt at) w ≡ true → All (λ b. (b == at) ≡ false) w
none_at at [] e = All-nil (λ b. (b == at) ≡ false)
none_at at (b ∷ bs) e =
    let p = and_parts (ltb at b) (list_all (nat_lt at) bs) e in
    All-cons (λ b. (b == at) ≡ false) b bs (ne_eqb b at (λ (same : b ≡ at). absurd (omega (arith, ltb-true at b p.0)))) (none_at at bs p.1)

-- a line is cut into the words that were joined
pub pieces_joined : (w : List ℕ) (ws : List (List ℕ)) → plain w ≡ true → list_all plain ws ≡ true → pieces 32 (join_with_byte 32 (w ∷ ws)) ≡ w ∷ ws
pieces_joined w [] first rest = slice_split_none (λ b. b == 32) w (none_at 32 w first)
pieces_joined w (v ∷ vs) first rest =
    let p = and_parts (plain v) (list_all plain vs) rest in
    slice_split_at (λ b. b == 32) w 32 (join_with_byte 32 (v ∷ vs)) (none_at 32 w first) refl ∙ ap (λ x. w ∷ x) (pieces_joined v vs p.0 p.1)

above : (w : List ℕ) → plain w ≡ true → list_all (nat_lt 10) w ≡ true
above [] e = refl
above (b ∷ bs) e =
    let p = and_parts (ltb 32 b) (plain bs) e in
    and_from (ltb 10 b) (list_all (nat_lt 10) bs) (lt-ltb 10 b (omega (arith, ltb-true 32 b p.0))) (above bs p.1)

above_joined : (w : List ℕ) (ws : List (List ℕ)) → plain w ≡ true → list_all plain ws ≡ true → list_all (nat_lt 10) (join_with_byte 32 (w ∷ ws)) ≡ true
above_joined w [] first rest = above w first
above_joined w (v ∷ vs) first rest =
    let p = and_parts (plain v) (list_all plain vs) rest in
    list_all-append (nat_lt 10) w (32 ∷ join_with_byte 32 (v ∷ vs)) ∙ and_from _ _ (above w first) (above_joined v vs p.0 p.1)

-- a text is cut at the end of a line
pub pieces_spelled : (w : List ℕ) (ws : List (List ℕ)) (rest : List ℕ) → plain w ≡ true → list_all plain ws ≡ true → pieces 10 (spelled (w ∷ ws) ++ rest) ≡ join_with_byte 32 (w ∷ ws) ∷ pieces 10 rest
unfolding spelled
pieces_spelled w ws rest first more =
    ap (pieces 10) (append_assoc (join_with_byte 32 (w ∷ ws)) (10 ∷ []) rest) ∙ slice_split_at (λ b. b == 10) (join_with_byte 32 (w ∷ ws)) 10 rest (none_at 10 _ (above_joined w ws first more)) refl

-- names are plain
name_byte_plain : (c : ℕ) → is_name_byte c ≡ true → ltb 32 c ≡ true
name_byte_plain c e = grind (arith, nat_tests)

name_bytes_plain : (cs : List ℕ) → list_all is_name_byte cs ≡ true → plain cs ≡ true
name_bytes_plain [] e = refl
name_bytes_plain (c ∷ cs) e = let p = and_parts _ _ e in and_from _ _ (name_byte_plain c p.0) (name_bytes_plain cs p.1)

letter_plain : (c : ℕ) → is_ascii_lowercase c ≡ true → ltb 32 c ≡ true
letter_plain c e = grind (arith, nat_tests)

pub name_plain : (w : List ℕ) → is_name w ≡ true → plain w ≡ true
unfolding is_name
name_plain [] e = refl
name_plain (c ∷ cs) e =
    let p = and_parts _ _ e in
    and_from _ _ (letter_plain c p.0) (name_bytes_plain cs (and_parts _ _ p.1).1)

place_plain : (ws : List (List ℕ)) (i : ℕ) → list_all plain ws ≡ true → i < length ws → plain (get_or ws i []) ≡ true
place_plain [] i all below = absurd (omega arith)
place_plain (w ∷ ws) zero all below = (and_parts _ _ all).0
place_plain (w ∷ ws) (suc i) all below = place_plain ws i (and_parts _ _ all).1 (omega arith)

-- what is written of a slot is plain
slot_plain : (s : Slot) (vs : List Value) → is_plain_slot s ≡ true → FitsIn s vs → plain (spelled_in s vs) ≡ true
slot_plain (slot.word w) vs good fits = good
slot_plain slot.any vs good fits = cc
slot_plain slot.small (of_small n ∷ vs) good fits = decimal_plain n (omega arith)
slot_plain slot.large (of_number n ∷ vs) good fits = decimal_plain n (omega arith)
slot_plain slot.mask (of_number n ∷ vs) good fits = hex_plain 16 n
slot_plain slot.reasons (of_reasons f ∷ vs) good fits = reasons_plain f fits.1
slot_plain slot.pending (of_reasons f ∷ vs) good fits = pending_plain f fits
slot_plain (slot.choice ws) (of_index i ∷ vs) good fits = place_plain ws i good fits
slot_plain slot.name (of_text w ∷ vs) good fits = name_plain w fits
slot_plain s vs good fits = absurd (assumption fits)

pub slots_plain : (ss : List Slot) (vs : List Value) → list_all is_plain_slot ss ≡ true → Fits ss vs → list_all plain (words ss vs) ≡ true
unfolding words
slots_plain [] vs good fits = refl
slots_plain (s ∷ ss) vs good fits =
    let p = and_parts _ _ good in
    and_from _ _ (slot_plain s vs p.0 fits.0) (slots_plain ss (behind s vs) p.1 fits.1)

pub row_plain : (row : Row) (vs : List Value) → plain row.name ≡ true → list_all is_plain_slot row.slots ≡ true → Fits row.slots vs → list_all plain (row_words row vs) ≡ true
row_plain row vs name good fits = and_from _ _ name (slots_plain row.slots vs good fits)
