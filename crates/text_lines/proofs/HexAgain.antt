-- Masks are read as they are written, and written as they were read.
use Rattle.std.proofs.Common.{◌≡◌, ℕ, zero, suc, ◌+◌, ◌*◌, ◌/◌, ◌%◌, ◌^◌, ◌<◌, ◌≤◌, Bool, true, false, ◌&&◌, eqb, leb, if◌then◌else◌, List, [], ◌∷◌, ◌++◌, length, take, get_or, Some, refl, ap, ◌∙◌, sym, arith, ⊎_elim, ◌⊎◌, length-append, inl, inr, add-one, not, ◌||◌, ltb}
use Rattle.std.specs.List.{list_all}
use Rattle.std.specs.Char.{digit_value}
use Rattle.std.specs.Fmt.{digit_glyph}
use Rattle.std.specs.Str.Parse.{digits_value}
use Rattle.std.proofs.Math.Nat.{pow-suc}
use Rattle.std.proofs.lemmas.List.{take_all, take_more}
use Rattle.std.proofs.lemmas.List.Folds.{list_all-append, list_all_more}
use Rattle.std.proofs.lemmas.Int.Digits.{digits_value_push, digits_value_more}
use Rattle.std.proofs.lemmas.Bool.{cond-true, and_parts, and_from, eq-eqb, eqb-true, leb-true, ltb-true, not-true, or_cases, true≢false, agree_below_at}
use Rattle.text_lines.specs.Masks.{hex, is_hex_digit, hex_word}
use Rattle.text_lines.proofs.NumbersAgain.{chosen_yes, some_same}

-- a digit is written as a digit, with its value
glyph_is_digit : (d : ℕ) → d < 16 → is_hex_digit (digit_glyph false d) ≡ true
glyph_is_digit d below = agree_below_at (λ d. is_hex_digit (digit_glyph false d)) (λ d. true) 16 d refl below

glyph_value : (d : ℕ) → d < 16 → digit_value (digit_glyph false d) ≡ d
glyph_value d below = eqb-true _ _ (agree_below_at (λ d. eqb (digit_value (digit_glyph false d)) d) (λ d. true) 16 d refl below)

either_part : (b r : Bool) → (if b then true else r) ≡ true → (b ≡ true) ⊎ (r ≡ true)
either_part true r e = inl refl
either_part false r e = inr e

hex_small : (c : ℕ) → is_hex_digit c ≡ true → c < 103
hex_small c e =
    let decimal : (leb 48 c && leb c 57) ≡ true → c < 103 = λ f. omega (arith, leb-true c 57 (and_parts (leb 48 c) (leb c 57) f).1) in
    let letter : (leb 97 c && leb c 102) ≡ true → c < 103 = λ f. omega (arith, leb-true c 102 (and_parts (leb 97 c) (leb c 102) f).1) in
    ⊎_elim decimal letter (either_part (leb 48 c && leb c 57) (leb 97 c && leb c 102) e)

reads_back : ℕ → Bool
reads_back c = ltb (digit_value c) 16 && eqb (digit_glyph false (digit_value c)) c

-- a digit that is read is the one that is written of its value
value_glyph : (c : ℕ) → is_hex_digit c ≡ true → (digit_value c < 16) × (digit_glyph false (digit_value c) ≡ c)
unfolding reads_back
value_glyph c e =
    let same = agree_below_at (λ c. not (is_hex_digit c) || reads_back c) (λ c. true) 103 c refl (hex_small c e) in
    let no : not (is_hex_digit c) ≡ true → reads_back c ≡ true = λ f. absurd (true≢false (sym e ∙ not-true _ f)) in
    let back = and_parts (ltb (digit_value c) 16) (eqb (digit_glyph false (digit_value c)) c) (⊎_elim no (λ t. t) (or_cases _ _ same)) in
    (ltb-true _ _ back.0, eqb-true _ _ back.1)

length-hex_word : (k n : ℕ) → length (hex_word k n) ≡ k
unfolding hex_word
length-hex_word zero n = refl
length-hex_word (suc k) n = omega (arith, length-hex_word k (n / 16), length-append (hex_word k (n / 16)) (digit_glyph false (n % 16) ∷ []))

hex_word_digits : (k n : ℕ) → list_all is_hex_digit (hex_word k n) ≡ true
unfolding hex_word
hex_word_digits zero n = refl
hex_word_digits (suc k) n =
    list_all-append is_hex_digit (hex_word k (n / 16)) _ ∙ and_from _ _ (hex_word_digits k (n / 16)) (and_from _ _ (glyph_is_digit (n % 16) (omega arith)) refl)

hex_word_value : (k n : ℕ) → n < 16 ^ k → digits_value 16 (hex_word k n) ≡ n
unfolding hex_word
hex_word_value zero n below = omega arith
hex_word_value (suc k) n below =
    let power = pow-suc 16 k in
    omega (arith, digits_value_push 16 (hex_word k (n / 16)) (digit_glyph false (n % 16)), hex_word_value k (n / 16) (omega arith), glyph_value (n % 16) (omega arith))

pub hex_again : (n : ℕ) → n < 2 ^ 64 → hex (hex_word 16 n) ≡ Some n
unfolding hex
hex_again n small =
    cond-true _ _ _ (and_from _ _ (eq-eqb _ _ (length-hex_word 16 n)) (hex_word_digits 16 n)) ∙ ap Some (hex_word_value 16 n (omega arith))

hex_word_front : (w : List ℕ) (i : ℕ) → i ≤ length w → list_all is_hex_digit (take i w) ≡ true → (hex_word i (digits_value 16 (take i w)) ≡ take i w) × (digits_value 16 (take i w) < 16 ^ i)
unfolding hex_word
hex_word_front w zero within digits = (refl, omega arith)
hex_word_front w (suc i) within digits =
    let below : i < length w = omega arith in
    let c = get_or w i 0 in
    let front = take i w in
    let longer : take (suc i) w ≡ front ++ c ∷ [] = ap (λ k. take k w) (sym (add-one i)) ∙ take_more w i 0 below in
    let both = and_parts (list_all is_hex_digit front) (is_hex_digit c) (sym (list_all_more is_hex_digit w i 0 below) ∙ ap (λ k. list_all is_hex_digit (take k w)) (add-one i) ∙ digits) in
    let glyph = value_glyph c both.1 in
    let before = hex_word_front w i (omega arith) both.0 in
    let value : digits_value 16 (take (suc i) w) ≡ digits_value 16 front * 16 + digit_value c = ap (λ k. digits_value 16 (take k w)) (sym (add-one i)) ∙ digits_value_more 16 w i below in
    let high : digits_value 16 (take (suc i) w) / 16 ≡ digits_value 16 front = omega (arith, glyph.0, value) in
    let low : digits_value 16 (take (suc i) w) % 16 ≡ digit_value c = omega (arith, glyph.0, value) in
    let power = pow-suc 16 i in
    (ap (λ x. hex_word i x ++ digit_glyph false (digits_value 16 (take (suc i) w) % 16) ∷ []) high ∙ ap (λ x. hex_word i (digits_value 16 front) ++ digit_glyph false x ∷ []) low ∙ ap (λ x. x ++ digit_glyph false (digit_value c) ∷ []) before.0 ∙ ap (λ x. front ++ x ∷ []) glyph.1 ∙ sym longer, omega (arith, glyph.0, value, before.1))

pub hex_back : (w : List ℕ) (n : ℕ) → hex w ≡ Some n → (w ≡ hex_word 16 n) × (n < 2 ^ 64)
unfolding hex
hex_back w n e =
    let read = chosen_yes (eqb (length w) 16 && list_all is_hex_digit w) (Some (digits_value 16 w)) n e in
    let both = and_parts (eqb (length w) 16) (list_all is_hex_digit w) read.0 in
    let sixteen : length w ≡ 16 = eqb-true _ _ both.0 in
    let whole : take 16 w ≡ w = take_all 16 w (omega arith) in
    let value : digits_value 16 w ≡ n = some_same read.1 in
    let front = hex_word_front w 16 (omega arith) (ap (list_all is_hex_digit) whole ∙ both.1) in
    let same : digits_value 16 (take 16 w) ≡ n = ap (digits_value 16) whole ∙ value in
    (sym (sym (ap (hex_word 16) same) ∙ front.0 ∙ whole), omega (arith, front.1, same))
