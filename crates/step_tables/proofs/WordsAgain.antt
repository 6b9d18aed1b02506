-- From values to words, and back to the same values.
use Rattle.std.proofs.Common.{◌≡◌, ℕ, suc, ◌^◌, ◌<◌, Bool, true, false, cond, List, [], ◌∷◌, ◌++◌, length, refl, ap, ◌∙◌, arith, lit<}
use Rattle.std.specs.Prelude.{Option, Some, option_map, is_none, unwrap_or, not, ◌&&◌, ◌||◌, ◌==◌, nat_lt, nat_le, decimal, ℤ, pos, negsuc}
use Rattle.std.specs.List.{list_all, list_any, join_with_byte}
use Rattle.std.specs.Char.{is_ascii_digit, is_ascii_lowercase}
use Rattle.std.specs.Fmt.{signed_decimal}
use Rattle.std.proofs.lemmas.Bool.Decides.{nat_tests}
use Rattle.std.proofs.lemmas.List.Folds.{list_all-append}
use Rattle.std.proofs.lemmas.Fmt.{decimal_nonempty}
use Rattle.step_tables.specs.Types.{Class, Urgent, Normal, Bulk, Heavy}
use Rattle.step_tables.specs.Words.{Word, ◌>>=◌, only_if, pieces, is_empty, words_of, number_of, signed_of, is_name_byte, is_name}
use Rattle.text_lines.specs.Numbers.{below_zero, signed}
use Rattle.text_lines.proofs.NumbersAgain as numbers
use Rattle.std.proofs.lemmas.Bool.{agree_below_at, and_from}
use Rattle.text_lines.specs.Added.{spelled}
use Rattle.text_lines.specs.Names.{plain}
use Rattle.text_lines.proofs.Plain.{pieces_joined, pieces_spelled}
use Rattle.step_tables.specs.Text.{class_name, reasons_text, line_text}
use Rattle.step_tables.specs.Judging.{value, signed_value, no_number, no_signed}
use Rattle.step_tables.proofs.RowsOf.{first_of_both, second_of_both}

-- a byte of a word that is written: ASCII, and above a space
abbrev pub is_word_byte : ℕ → Bool
is_word_byte b = nat_lt 32 b && nat_lt b 128

-- a word that a line can have
abbrev pub is_word : Word → Bool
is_word w = not (is_empty w) && list_all is_word_byte w

-- each element of a list passes a test that is implied
pub all_implied : (p q : ℕ → Bool) (xs : List ℕ) → ((x : ℕ) → p x ≡ true → q x ≡ true) → list_all p xs ≡ true → list_all q xs ≡ true
all_implied p q [] h e = refl
all_implied p q (x ∷ xs) h e = and_from _ _ (h x (first_of_both _ _ e)) (all_implied p q xs h (second_of_both _ _ e))

-- digits
own_digits : (n : ℕ) → n < 10 ^ 10 → list_all is_ascii_digit (decimal n) ≡ true
own_digits n h = numbers.decimal_digits n (omega arith)

-- a number of at most ten digits is read as it was written
pub number_again : (n : ℕ) → n < 10 ^ 10 → number_of (decimal n) ≡ Some n
number_again n h = numbers.number_again 9999999999 n (omega arith) (lit< tt)

pub value_again : (n : ℕ) → n < 10 ^ 10 → value (decimal n) ≡ n
unfolding value
value_again n h = ap (λ o. unwrap_or o 0) (number_again n h)

pub is_number : (n : ℕ) → n < 10 ^ 10 → no_number (decimal n) ≡ false
unfolding no_number
is_number n h = ap (λ o. is_none o) (number_again n h)

digit_not_minus : (ds : List ℕ) → 0 < length ds → list_all is_ascii_digit ds ≡ true → (o : Option ℕ) → number_of ds ≡ o → signed_of ds ≡ option_map pos o
unfolding signed
digit_not_minus [] some e o is = absurd (omega arith)
digit_not_minus (c ∷ ds) some e o is = go (c == 45) (not_minus c (first_of_both _ _ e))
  where
    not_minus : (k : ℕ) → is_ascii_digit k ≡ true → (k == 45) ≡ false
    not_minus k h = grind (arith, nat_tests)

    go : (b : Bool) → b ≡ false → cond b (number_of ds >>= below_zero) (option_map pos (number_of (c ∷ ds))) ≡ option_map pos o
    go true h = absurd (cc)
    go false h = ap (option_map pos) is

-- how far a signed number is from 0
abbrev pub size : ℤ → ℕ
size (pos n) = n
size (negsuc n) = suc n

-- a signed number is read as it was written
pub signed_again : (z : ℤ) → size z < 10 ^ 10 → signed_of (signed_decimal z) ≡ Some z
unfolding signed
signed_again (pos n) h = digit_not_minus (decimal n) (decimal_nonempty n (omega arith)) (own_digits n h) (Some n) (number_again n h)
signed_again (negsuc n) h = ap (λ o. o >>= below_zero) (number_again (suc n) h)

pub signed_value_again : (z : ℤ) → size z < 10 ^ 10 → signed_value (signed_decimal z) ≡ z
unfolding signed_value
signed_value_again z h = ap (λ o. unwrap_or o (pos 0)) (signed_again z h)

pub is_signed : (z : ℤ) → size z < 10 ^ 10 → no_signed (signed_decimal z) ≡ false
unfolding no_signed
is_signed z h = ap (λ o. is_none o) (signed_again z h)

-- numbers are words
digit_is_word : (b : ℕ) → is_ascii_digit b ≡ true → is_word_byte b ≡ true
digit_is_word b e = grind (arith, nat_tests)

some_bytes : (w : Word) → 0 < length w → not (is_empty w) ≡ true
some_bytes [] h = absurd (omega arith)
some_bytes (b ∷ w) h = refl

pub number_is_word : (n : ℕ) → n < 10 ^ 10 → is_word (decimal n) ≡ true
number_is_word n h = and_from _ _ (some_bytes (decimal n) (decimal_nonempty n (omega arith))) (all_implied is_ascii_digit is_word_byte (decimal n) digit_is_word (own_digits n h))

-- names are words
name_byte_is_word : (b : ℕ) → is_name_byte b ≡ true → is_word_byte b ≡ true
name_byte_is_word b e = grind (arith, nat_tests)

letter_is_word : (b : ℕ) → is_ascii_lowercase b ≡ true → is_word_byte b ≡ true
letter_is_word b e = grind (arith, nat_tests)

pub name_is_word : (w : Word) → is_name w ≡ true → is_word w ≡ true
unfolding is_name
name_is_word [] e = absurd (cc)
name_is_word (c ∷ cs) e =
    and_from (is_word_byte c) _ (letter_is_word c (first_of_both _ _ e)) (all_implied is_name_byte is_word_byte cs name_byte_is_word (second_of_both (nat_le (length cs) 15) _ (second_of_both (is_ascii_lowercase c) _ e)))

-- reason lists are words
reasons_words : (k : ℕ) → k < 128 → (k == 0 || is_word (reasons_text k)) ≡ true
unfolding reasons_text
reasons_words k few = agree_below_at (λ k. k == 0 || is_word (reasons_text k)) (λ k. true) 128 k refl few

pub reasons_is_word : (k : ℕ) → 0 < k → k < 128 → is_word (reasons_text k) ≡ true
reasons_is_word k some few = go (k == 0) refl (reasons_words k few)
  where
    none : (a : ℕ) → (a == 0) ≡ true → 0 < a → ⊥
    none a e h = grind (arith, nat_tests)

    go : (b : Bool) → (k == 0) ≡ b → (b || is_word (reasons_text k)) ≡ true → is_word (reasons_text k) ≡ true
    go true f g = absurd (none k f some)
    go false f g = g

pub class_is_word : (c : Class) → is_word (class_name c) ≡ true
class_is_word Urgent = refl
class_is_word Normal = refl
class_is_word Bulk = refl
class_is_word Heavy = refl

-- words that a line can have
abbrev pub are_words : List Word → Bool
are_words ws = list_all is_word ws

word_bytes : (w : Word) → is_word w ≡ true → list_all is_word_byte w ≡ true
word_bytes w e = second_of_both (not (is_empty w)) _ e

word_plain : (w : Word) → is_word w ≡ true → plain w ≡ true
word_plain w e = all_implied is_word_byte (nat_lt 32) w (λ b h. first_of_both _ _ h) (word_bytes w e)

words_plain : (ws : List Word) → are_words ws ≡ true → list_all plain ws ≡ true
words_plain [] e = refl
words_plain (w ∷ ws) e = and_from _ _ (word_plain w (first_of_both _ _ e)) (words_plain ws (second_of_both (is_word w) _ e))

-- a test that words pass, and the spaces between them
words_pass : (test : ℕ → Bool) (ws : List Word) → test 32 ≡ true → ((b : ℕ) → is_word_byte b ≡ true → test b ≡ true) → are_words ws ≡ true → list_all test (join_with_byte 32 ws) ≡ true
words_pass test [] space implied e = refl
words_pass test (w ∷ []) space implied e = all_implied is_word_byte test w implied (word_bytes w (first_of_both _ _ e))
words_pass test (w ∷ v ∷ ws) space implied e =
    list_all-append test w (32 ∷ join_with_byte 32 (v ∷ ws))
    ∙ and_from _ _ (all_implied is_word_byte test w implied (word_bytes w (first_of_both _ _ e))) (and_from (test 32) _ space (words_pass test (v ∷ ws) space implied (second_of_both (is_word w) _ e)))

none_empty : (ws : List Word) → are_words ws ≡ true → list_any is_empty ws ≡ false
none_empty [] e = refl
none_empty (w ∷ ws) e = step (is_empty w) (list_any is_empty ws) (first_of_both (not (is_empty w)) _ (first_of_both (is_word w) _ e)) (none_empty ws (second_of_both (is_word w) _ e))
  where
    step : (a b : Bool) → not a ≡ true → b ≡ false → (a || b) ≡ false
    step true b h f = absurd (cc)
    step false b h f = f

-- words are read as they were written
pub words_again : (w : Word) (ws : List Word) → are_words (w ∷ ws) ≡ true → words_of (join_with_byte 32 (w ∷ ws)) ≡ Some (w ∷ ws)
unfolding words_of
words_again w ws e =
    let cut = pieces_joined w ws (word_plain w (first_of_both _ _ e)) (words_plain ws (second_of_both (is_word w) _ e)) in
    let ascii = words_pass (λ b. nat_lt b 128) (w ∷ ws) refl (λ b h. second_of_both _ _ h) e in
    let whole : not (list_any is_empty (pieces 32 (join_with_byte 32 (w ∷ ws)))) ≡ true = ap (λ ps. not (list_any is_empty ps)) cut ∙ ap not (none_empty (w ∷ ws) e) in
    λ i. only_if (and_from _ _ ascii whole i) (cut i)

-- and their line is cut off the text behind it
pub line_cut : (w : Word) (ws : List Word) (rest : List ℕ) → are_words (w ∷ ws) ≡ true → pieces 10 (line_text (w ∷ ws) ++ rest) ≡ join_with_byte 32 (w ∷ ws) ∷ pieces 10 rest
unfolding spelled
line_cut w ws rest e = pieces_spelled w ws rest (word_plain w (first_of_both _ _ e)) (words_plain ws (second_of_both (is_word w) _ e))
