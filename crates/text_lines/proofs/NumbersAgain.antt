-- Numbers are read as they are written, and written as they were read.
use Rattle.std.proofs.Common.{◌≡◌, ℕ, ◌^◌, ◌<◌, ◌≤◌, Bool, true, false, ◌&&◌, cond, ltb, leb, List, length, get_or, Option, Some, None, decimal, refl, ap, ◌∙◌, sym, arith, ⊎_elim}
use Rattle.std.specs.Str.{all_ascii_digits}
use Rattle.std.specs.Str.Parse.{digits_value}
use Rattle.std.proofs.lemmas.Str.Parse.{IsNumeralModel, numerals_by_value, tells_all_ascii_digits}
use Rattle.std.proofs.lemmas.Fmt.{digits_decimal, digits_value-decimal, decimal-digits_value, decimal_nonempty, length-decimal-le, first_decimal, decimal_digit}
use Rattle.std.proofs.lemmas.Bool.{cond-true, and_parts, and_from, leb-true, ltb-true, lt-ltb, le-leb, eqb-false, ltb-false, and_cases, cases_eq, ne_eqb, and_right, not-true, not_from_false}
use Rattle.text_lines.specs.Numbers.{plain_number, number, is_plain, has_leading_zero}

-- the digits and the number that they write
own : IsNumeralModel (λ ds. all_ascii_digits ds ≡ true) (digits_value 10)
own = numerals_by_value (λ ds. all_ascii_digits ds ≡ true) tells_all_ascii_digits

-- a choice that gave something took its first branch
pub chosen_yes : {A : Type 0} (b : Bool) (x : Option A) (y : A) → cond b x None ≡ Some y → (b ≡ true) × (x ≡ Some y)
chosen_yes true x y e = (refl, e)
chosen_yes false x y e = cc

pub some_same : {A : Type 0} {x y : A} → Some x ≡ Some y → x ≡ y
some_same e = cc

pub decimal_digits : (n : ℕ) → n < 2 ^ 64 → all_ascii_digits (decimal n) ≡ true
decimal_digits n small = digits_decimal own n small

no_leading_zero : (n : ℕ) → n < 2 ^ 64 → has_leading_zero (decimal n) ≡ false
no_leading_zero n small = ⊎_elim zero_first larger (cases_eq n 0) where
  zero_first : n ≡ 0 → has_leading_zero (decimal n) ≡ false
  zero_first e = rw (e, decimal_digit 0 (omega arith)) refl

  larger : (n ≡ 0 → ⊥) → has_leading_zero (decimal n) ≡ false
  larger ne = and_right _ _ (ne_eqb (get_or (decimal n) 0 0) 48 (λ (same : get_or (decimal n) 0 0 ≡ 48). absurd (omega (arith, first_decimal n (omega arith) small))))

decimal_plain : (n : ℕ) → n < 2 ^ 64 → is_plain (decimal n) ≡ true
decimal_plain n small =
    and_from _ _ (lt-ltb _ _ (decimal_nonempty n small)) (and_from _ _ (le-leb _ _ (length-decimal-le 20 n (omega arith) (omega arith) small)) (not_from_false _ (no_leading_zero n small)))

pub number_again : (most n : ℕ) → n ≤ most → most < 2 ^ 64 → number most (decimal n) ≡ Some n
unfolding number plain_number
number_again most n below small =
    let fits : n < 2 ^ 64 = omega arith in
    let value = digits_value-decimal own n fits in
    cond-true _ _ _ (decimal_plain n fits) ∙ cond-true _ _ _ (and_from _ _ (decimal_digits n fits) (le-leb _ _ (omega (arith, value)))) ∙ ap Some value

pub number_back : (most n : ℕ) (w : List ℕ) → most < 2 ^ 64 → number most w ≡ Some n → (w ≡ decimal n) × (n ≤ most)
unfolding number plain_number
number_back most n w small e =
    let outer = chosen_yes (is_plain w) (plain_number most w) n e in
    let inner = chosen_yes (all_ascii_digits w && leb (digits_value 10 w) most) (Some (digits_value 10 w)) n outer.1 in
    let digits = and_parts _ _ inner.0 in
    let value : digits_value 10 w ≡ n = some_same inner.1 in
    let shape = and_parts _ _ outer.0 in
    let rest = and_parts _ _ shape.1 in
    let below : digits_value 10 w ≤ most = leb-true _ _ digits.1 in
    (sym (decimal-digits_value own w digits.0 (ltb-true _ _ shape.0) (alone w (ltb-true _ _ shape.0) (not-true _ rest.1)) (omega arith)) ∙ ap decimal value, omega arith) where
      alone : (w : List ℕ) → 0 < length w → has_leading_zero w ≡ false → get_or w 0 0 ≡ 48 → length w ≡ 1
      alone w some none first =
          let few : ltb 1 (length w) ≡ false → length w ≡ 1 = λ f. omega (arith, ltb-false 1 (length w) f) in
          ⊎_elim few (λ f. absurd (eqb-false _ _ f first)) (and_cases _ _ none)
