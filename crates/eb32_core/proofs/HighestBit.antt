-- The highest bit in which two keys differ.
use Rattle.std.proofs.Common.{◌≡◌, ◌≢◌, ℕ, zero, suc, ◌+◌, ◌/◌, ◌^◌, ◌<◌, ◌≤◌, ◌⊎◌, inl, inr, refl, sym, ap, ◌∙◌, subst, arith}
use Rattle.std.specs.Int.Bits.{bit_xor, xor_self, xor_assoc, xor_zero_l, xor_zero_r}
use Rattle.std.specs.Int.Count.{count_leading_zeros}
use Rattle.std.proofs.lemmas.Nat.{pow_pos, xor_shr, xor_of_32, leading_top, shr-shr}
use Rattle.eb32_core.specs.Landing.{IsTopBit}

zero_or_more : (x : ℕ) → (x ≡ zero) ⊎ (0 < x)
zero_or_more zero = inl refl
zero_or_more (suc x) = inr (omega arith)

add_one : (r : ℕ) → r + 1 ≡ suc r
add_one r = omega arith

xor_same : (a b : ℕ) → bit_xor a b ≡ zero → a ≡ b
xor_same a b h = sym (xor_zero_r a) ∙ (ap (bit_xor a) (sym h) ∙ (sym (xor_assoc a a b) ∙ (ap (λ x. bit_xor x b) (xor_self a) ∙ xor_zero_l b)))

small_quotient : (x n : ℕ) → x < n → x / n ≡ zero
small_quotient x n h = grind arith

some_quotient : (x n : ℕ) → 0 < n → n ≤ x → x / n ≡ zero → ⊥
some_quotient x n p h e = grind arith

pub highest_bit : (own key r : ℕ) → own < 2 ^ 32 → key < 2 ^ 32 → own ≢ key → r + count_leading_zeros 32 (bit_xor own key) ≡ 31 → IsTopBit own key r
highest_bit own key r fo fk n e =
    let x : ℕ = bit_xor own key in
    let some : 0 < x = elim (zero_or_more x) [ inl z ↦ absurd (n (xor_same own key z)) | inr m ↦ m ] in
    let t : (j : ℕ) × (count_leading_zeros 32 x + suc j ≡ 32) × (2 ^ j ≤ x) × (x < 2 ^ suc j) = leading_top 32 x some (xor_of_32 own key fo fk) in
    let is : t.0 ≡ r = let a : count_leading_zeros 32 x + suc t.0 ≡ 32 = t.1 in omega (arith, a, e) in
    let low : 2 ^ r ≤ x = subst (λ j. 2 ^ j ≤ x) is t.2 in
    let high : x < 2 ^ suc r = subst (λ j. x < 2 ^ suc j) is t.3 in
    record {
      small = let a : count_leading_zeros 32 x + suc t.0 ≡ 32 = t.1 in omega (arith, a, is);
      differ = λ h. some_quotient x (2 ^ r) (pow_pos r) low (xor_shr own key r ∙ (ap (λ y. bit_xor y (key / 2 ^ r)) h ∙ xor_self (key / 2 ^ r)));
      above = shr-shr own r 1 ∙ (ap (λ y. own / 2 ^ y) (add_one r) ∙ (xor_same (own / 2 ^ suc r) (key / 2 ^ suc r) (sym (xor_shr own key (suc r)) ∙ small_quotient x (2 ^ suc r) high) ∙ sym (shr-shr key r 1 ∙ ap (λ y. key / 2 ^ y) (add_one r))));
    }

pub zeros_before : (own key : ℕ) → own < 2 ^ 32 → key < 2 ^ 32 → own ≢ key → count_leading_zeros 32 (bit_xor own key) ≤ 31
zeros_before own key fo fk n =
    let x : ℕ = bit_xor own key in
    let some : 0 < x = elim (zero_or_more x) [ inl z ↦ absurd (n (xor_same own key z)) | inr m ↦ m ] in
    let t : (j : ℕ) × (count_leading_zeros 32 x + suc j ≡ 32) × (2 ^ j ≤ x) × (x < 2 ^ suc j) = leading_top 32 x some (xor_of_32 own key fo fk) in
    let a : count_leading_zeros 32 x + suc t.0 ≡ 32 = t.1 in
    omega (arith, a)
