-- Trees by themselves: their keys, and that bits fall on the way down.
use Rattle.std.proofs.Common.{◌≡◌, ℕ, zero, ◌+◌, ◌-◌, ◌*◌, ◌/◌, ◌^◌, ◌<◌, ◌≤◌, ◌⊎◌, inl, inr, refl, sym, ap, ◌∙◌, subst, arith}
use Rattle.std.specs.Prelude.{ℤ, pos, negsuc}
use Rattle.std.proofs.lemmas.Bool.{cases_lt}
use Rattle.std.proofs.lemmas.Nat.{pow-add, le-div}
use Rattle.std.proofs.Math.Nat.{div-div-eq-div-mul, mul-div-le, div-mul-le_self}
use Rattle.eb_arena.specs.Shape.{Tree, tip, fork, Keys, IsBelow, DividesAt, Split}

-- the key stands in the tree
abbrev pub Has : ℕ → Tree → Type 0
Has k (tip e x) = x ≡ k
Has k (fork i b l r) = Has k l ⊎ Has k r

-- a bit as a number that falls on the way down
abbrev pub bit_rank : ℤ → ℕ
bit_rank (pos b) = b + 32769
bit_rank (negsuc n) = n + 1

-- the rank of a tree's upper bit; 0 at a leaf
abbrev pub tree_rank : Tree → ℕ
tree_rank (tip e k) = 0
tree_rank (fork i b l r) = bit_rank b

pub keys_at : (P : ℕ → Type 0) (t : Tree) (k : ℕ) → Keys P t → Has k t → P k
keys_at P (tip e x) k h g = subst P g h
keys_at P (fork i b l r) k h g = elim g [ inl g ↦ keys_at P l k h.0 g | inr g ↦ keys_at P r k h.1 g ]

pub keys_map : (P Q : ℕ → Type 0) (t : Tree) → ((k : ℕ) → P k → Q k) → Keys P t → Keys Q t
keys_map P Q (tip e x) f h = f x h
keys_map P Q (fork i b l r) f h = (keys_map P Q l f h.0, keys_map P Q r f h.1)

pub some_key : (t : Tree) → (k : ℕ) × Has k t
some_key (tip e x) = (x, refl)
some_key (fork i b l r) = let s : (k : ℕ) × Has k l = some_key l in (s.0, inl s.1)

-- numbers that agree from bit b on agree from a higher bit on
pub div_level : (b c x y : ℕ) → b ≤ c → x / 2 ^ b ≡ y / 2 ^ b → x / 2 ^ c ≡ y / 2 ^ c
div_level b c x y h e =
    let s : c ≡ b + (c - b) = omega arith in
    let p : 2 ^ c ≡ 2 ^ b * 2 ^ (c - b) = ap (λ n. 2 ^ n) s ∙ pow-add 2 b (c - b) in
    let at : (z : ℕ) → z / 2 ^ c ≡ z / 2 ^ b / 2 ^ (c - b) = λ z. ap (λ n. z / n) p ∙ sym (div-div-eq-div-mul z (2 ^ b) (2 ^ (c - b))) in
    at x ∙ (ap (λ n. n / 2 ^ (c - b)) e ∙ sym (at y))

not_both : (b d c q x y : ℕ) → b ≤ d → x / 2 ^ b ≡ c → y / 2 ^ b ≡ c → x / 2 ^ d ≡ 2 * q → y / 2 ^ d ≡ 2 * q + 1 → ⊥
not_both b d c q x y h e f g k =
    let s : x / 2 ^ d ≡ y / 2 ^ d = div_level b d x y h (e ∙ sym f) in
    let m : 2 * q ≡ 2 * q + 1 = sym g ∙ (s ∙ k) in
    omega arith

falls_pos : (b c : ℕ) (t : Tree) → Keys (λ k. k / 2 ^ b ≡ c) t → Split t → tree_rank t < b + 32769
falls_pos b c (tip e x) h s = omega arith
falls_pos b c (fork i (negsuc n) l r) h s = let f : n < 32768 = s.1 in omega arith
falls_pos b c (fork i (pos d) l r) h s =
    elim (cases_lt d b) [
      | inl lt ↦ omega arith
      | inr le ↦
          let v : DividesAt d l r = s.2 in
          let x : (k : ℕ) × Has k l = some_key l in
          let y : (k : ℕ) × Has k r = some_key r in
          absurd (not_both b d c v.q x.0 y.0 le (keys_at (λ k. k / 2 ^ b ≡ c) l x.0 h.0 x.1) (keys_at (λ k. k / 2 ^ b ≡ c) r y.0 h.1 y.1) (keys_at (λ k. k / 2 ^ d ≡ 2 * v.q) l x.0 v.left x.1) (keys_at (λ k. k / 2 ^ d ≡ 2 * v.q + 1) r y.0 v.right y.1))
    ]

falls_neg : (n : ℕ) (t : Tree) → IsBelow n t → tree_rank t < n + 1
falls_neg n (tip e x) h = omega arith
falls_neg n (fork i (pos d) l r) h = absurd h
falls_neg n (fork i (negsuc m) l r) h = omega (arith, h)

-- the left side's bit is lower than the node's
pub falls_left : (i : ℕ) (b : ℤ) (l r : Tree) → Split (fork i b l r) → tree_rank l < bit_rank b
falls_left i (pos b) l r s = falls_pos b (2 * s.2.q) l s.2.left s.3
falls_left i (negsuc n) l r s = falls_neg n l s.2.left_below

-- and so is the right side's
pub falls_right : (i : ℕ) (b : ℤ) (l r : Tree) → Split (fork i b l r) → tree_rank r < bit_rank b
falls_right i (pos b) l r s = falls_pos b (2 * s.2.q + 1) r s.2.right s.4
falls_right i (negsuc n) l r s = falls_neg n r s.2.right_below

-- every tree has fewer levels than those that are read
pub rank_fits : (t : Tree) → Split t → tree_rank t < 32801
rank_fits (tip e x) s = omega arith
rank_fits (fork i (pos b) l r) s = let f : b < 32 = s.1 in omega arith
rank_fits (fork i (negsuc n) l r) s = let f : n < 32768 = s.1 in omega arith

-- the greater quotient has the greater number
pub lt_by_div : (x y d : ℕ) → zero < d → x / d < y / d → x < y
lt_by_div x y d p h =
    let e : d * (y / d) ≤ y = mul-div-le y d in
    elim (cases_lt x y) [
      | inl lt ↦ lt
      | inr le ↦ let f : y / d ≤ x / d = le-div (y / d) x d p (let g : y / d * d ≤ y = div-mul-le_self y d in omega arith) in absurd (omega arith)
    ]

-- the greater number has no smaller quotient
pub div_le_div : (x y d : ℕ) → zero < d → x ≤ y → x / d ≤ y / d
div_le_div x y d p h = le-div (x / d) y d p (let g : x / d * d ≤ x = div-mul-le_self x d in omega arith)
