-- Numbers, digit by digit.
use Rattle.std.proofs.Common.{◌≡◌, ℕ, suc, zero, ◌+◌, ◌*◌, ◌-◌, ◌<◌, ◌≤◌, true, false, leb, List, [], ◌∷◌, ◌++◌, length, take, get_or, Some, None, refl, ap, ◌∙◌, sym, arith}
use Rattle.std.specs.Str.{all_ascii_digits}
use Rattle.std.specs.Char.{is_ascii_digit, digit_value}
use Rattle.std.specs.Str.Parse.{digits_value}
use Rattle.std.proofs.lemmas.Int.Digits.{digits_value_more}
use Rattle.std.proofs.lemmas.Str.Parse.{digits_value-take-le}
use Rattle.std.proofs.lemmas.List.{take_all, take_more}
use Rattle.std.proofs.lemmas.Bool.{cond-true, cond-false, and_parts, leb-true, and_left, and_right, and_from, lt-leb, le-leb}
use Rattle.std.proofs.lemmas.Str.{digit_value_digit}
use Rattle.text_lines.specs.Numbers.{plain_number}

all_push : (xs : List ℕ) (c : ℕ) → all_ascii_digits xs ≡ true → is_ascii_digit c ≡ true → all_ascii_digits (xs ++ c ∷ []) ≡ true
all_push [] c all here = and_from _ _ here refl
all_push (x ∷ xs) c all here = let p = and_parts _ _ all in and_from _ _ p.0 (all_push xs c p.1 here)

-- one more digit
pub digits_more : (w : List ℕ) (i : ℕ) → i < length w → all_ascii_digits (take i w) ≡ true → is_ascii_digit (get_or w i 0) ≡ true → all_ascii_digits (take (i + 1) w) ≡ true
digits_more w i below so_far here = rw (take_more w i 0 below) (all_push (take i w) (get_or w i 0) so_far here)

-- a byte that is no digit
pub no_digit : (w : List ℕ) (i : ℕ) → i < length w → is_ascii_digit (get_or w i 0) ≡ false → all_ascii_digits w ≡ false
no_digit [] i below e = absurd (omega arith)
no_digit (x ∷ xs) zero below e = and_left _ _ e
no_digit (x ∷ xs) (suc i) below e = and_right _ _ (no_digit xs i (omega arith) e)

digit_is : (c : ℕ) → is_ascii_digit c ≡ true → digit_value c ≡ c - 48
digit_is c e =
    let p : (leb 48 c ≡ true) × (leb c 57 ≡ true) = and_parts _ _ e in
    omega (arith, digit_value_digit c (leb-true 48 c p.0, leb-true c 57 p.1))

-- the number with one more digit
pub value_more : (w : List ℕ) (i : ℕ) → i < length w → is_ascii_digit (get_or w i 0) ≡ true → digits_value 10 (take i w) * 10 + (get_or w i 0 - 48) ≡ digits_value 10 (take (i + 1) w)
value_more w i below e = ap (λ d. digits_value 10 (take i w) * 10 + d) (sym (digit_is _ e)) ∙ sym (digits_value_more 10 w i below)

-- what the digits so far show of the whole word
pub plain_no_digit : (most : ℕ) (w : List ℕ) (i : ℕ) → i < length w → is_ascii_digit (get_or w i 0) ≡ false → None ≡ plain_number most w
unfolding plain_number
plain_no_digit most w i below e = sym (cond-false _ _ _ (and_left _ _ (no_digit w i below e)))

pub plain_too_large : (most : ℕ) (w : List ℕ) (i : ℕ) → most < digits_value 10 (take i w) → None ≡ plain_number most w
unfolding plain_number
plain_too_large most w i above = sym (cond-false _ _ _ (and_right _ _ (lt-leb (digits_value 10 w) most (omega (arith, digits_value-take-le 10 w i (omega arith))))))

pub plain_all : (most value : ℕ) (w : List ℕ) (i : ℕ) → length w ≤ i → all_ascii_digits (take i w) ≡ true → value ≡ digits_value 10 (take i w) → value ≤ most → Some value ≡ plain_number most w
unfolding plain_number
plain_all most value w i whole digits e below =
    let all = take_all i w whole in
    let v : value ≡ digits_value 10 w = e ∙ ap (digits_value 10) all in
    sym (cond-true _ _ _ (and_from _ _ (ap all_ascii_digits (sym all) ∙ digits) (le-leb _ _ (omega arith))) ∙ ap Some (sym v))
