-- The hexadecimal digits of a number, from the last one on.
use Rattle.std.proofs.Common.{◌≡◌, ℕ, suc, ◌+◌, ◌/◌, ◌%◌, ◌<◌, false, List, [], ◌∷◌, ◌++◌, length, drop, set, refl, ap, ◌∙◌, sym, arith, append_assoc, add-one, ◌*◌, ◌^◌, ◌≤◌}
use Rattle.std.proofs.Math.Nat.{pow-suc, pow-le-pow_right}
use Rattle.std.specs.Fmt.{digit_glyph}
use Rattle.std.proofs.lemmas.List.{drop-set}
use Rattle.text_lines.specs.Masks.{hex_word}

-- the last digit, put in its place
pub hex_back : (digits : List ℕ) (before place rest : ℕ) → place ≡ before + 1 → before < length digits → hex_word before (rest / 16) ++ drop before (set digits before (digit_glyph false (rest % 16))) ≡ hex_word place rest ++ drop place digits
unfolding hex_word
hex_back digits before place rest e below =
    ap (λ t. hex_word before (rest / 16) ++ t) (drop-set digits before _ below) ∙ sym (append_assoc (hex_word before (rest / 16)) (digit_glyph false (rest % 16) ∷ []) (drop (before + 1) digits)) ∙ ap (λ n. hex_word (suc before) rest ++ drop n digits) (add-one before) ∙ ap (λ n. hex_word n rest ++ drop n digits) (let same : suc before ≡ place = omega arith in same)

pub hex_none : (rest : ℕ) (digits : List ℕ) → hex_word 0 rest ++ drop 0 digits ≡ digits
unfolding hex_word
hex_none rest digits = refl

-- a number below a power of 16, and one more digit
pub hex_below : (value digit i : ℕ) → value < 16 ^ i → digit < 16 → value * 16 + digit < 16 ^ (i + 1)
hex_below value digit i below small = rw (add-one, pow-suc) (omega arith)

pub hex_fits : (value i : ℕ) → value < 16 ^ i → i ≤ 16 → value < 2 ^ 64
hex_fits value i below few =
    let most : 16 ^ i ≤ 16 ^ 16 = pow-le-pow_right (omega arith) few in
    omega arith
