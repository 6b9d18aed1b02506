-- The members of a group by their lowest bit.
use Rattle.std.proofs.Common.{◌≡◌, ◌≢◌, ℕ, zero, suc, ◌+◌, ◌*◌, ◌%◌, ◌^◌, ◌≤◌, ◌<◌, ◌==◌, Bool, true, false, List, [], ◌∷◌, map, filter, length, refl, sym, ap, subst, ◌∙◌, arith, inl, inr, eq-eqb, ne_eqb, w64}
use mir.Val.{Fits}
use Rattle.std.specs.List.{range_with_len}
use Rattle.std.proofs.lemmas.List.{length-map}
use Rattle.std.proofs.lemmas.List.FromFn.{length-range_with_len}
use Rattle.std.specs.Int.{bit_at, bit_not, trailing_zeros}
use Rattle.std.specs.Prelude.{bit_and}
use Rattle.std.proofs.lemmas.Bool.{cases_eq, cases_Bool}
use Rattle.std.proofs.lemmas.Nat.Bits.{bit_at-zero, bit_at-trailing_zeros, bit_at_clear_same, bit_at_clear_other}
use Rattle.task_machine.specs.declared.calls.Reply.TheVariants as replies
use Rattle.run_model.specs.Replies.{members}

-- the places of a mask's bits among n from a on
abbrev pub bits_from : ℕ → ℕ → ℕ → List ℕ
bits_from m a n = filter (λ b. bit_at m b == 1) (range_with_len a n)

same-bits : (m r a n k : ℕ) → a + n ≤ 64 → k < a → ((i : ℕ) → i < 64 → i ≢ k → bit_at r i ≡ bit_at m i) → bits_from m a n ≡ bits_from r a n
same-bits m r a zero k within lt same = refl
same-bits m r a (suc n) k within lt same =
    let here : bit_at r a ≡ bit_at m a = same a (omega arith) (λ e. omega arith) in
    let more : bits_from m (a + 1) n ≡ bits_from r (a + 1) n = same-bits m r (a + 1) n k (omega arith) (omega arith) same in
    elim (cases_Bool (bit_at m a == 1)) [
      | inl e ↦ rw (here, e) (ap (λ bs. a ∷ bs) more)
      | inr e ↦ rw (here, e) more
    ]

-- the lowest bit comes first, and the others are those of the mask without it
lowest-first : (m r a n k : ℕ) → a + n ≤ 64 → a ≤ k → k < a + n → bit_at m k ≡ 1 → ((i : ℕ) → i < k → bit_at m i ≡ 0) → bit_at r k ≡ 0 → ((i : ℕ) → i < 64 → i ≢ k → bit_at r i ≡ bit_at m i) → bits_from m a n ≡ k ∷ bits_from r a n
lowest-first m r a zero k within ge lt one none gone same = absurd (omega arith)
lowest-first m r a (suc n) k within ge lt one none gone same =
    elim (cases_eq a k) [
      | inl e ↦
          let hit : (bit_at m a == 1) ≡ true = eq-eqb (bit_at m a) 1 (ap (bit_at m) e ∙ one) in
          let miss : (bit_at r a == 1) ≡ false = ne_eqb (bit_at r a) 1 (let z : bit_at r a ≡ 0 = ap (bit_at r) e ∙ gone in λ h. omega arith) in
          let more : bits_from m (a + 1) n ≡ bits_from r (a + 1) n = same-bits m r (a + 1) n k (omega arith) (omega arith) same in
          rw (hit, miss) (rw (more, e) refl)
      | inr ne ↦
          let z : bit_at m a ≡ 0 = none a (omega arith) in
          let y : bit_at r a ≡ 0 = same a (omega arith) ne ∙ z in
          let off : (bit_at m a == 1) ≡ false = ne_eqb (bit_at m a) 1 (λ h. omega arith) in
          let off' : (bit_at r a == 1) ≡ false = ne_eqb (bit_at r a) 1 (λ h. omega arith) in
          rw (off, off') (lowest-first m r (a + 1) n k (omega arith) (omega arith) (omega arith) one none gone same)
    ]

-- a mask without its lowest bit
abbrev pub cleared : ℕ → ℕ
cleared m = bit_and m (bit_not w64 (1 * 2 ^ trailing_zeros w64 m % 2 ^ 64))

-- the members of a group by their mask
unfoldable pub in_group : ℕ → ℕ → List ℕ
in_group g m = members g (replies.Group m)

pub in_group-is : (g m : ℕ) → in_group g m ≡ members g (replies.Group m)
unfolding in_group
in_group-is g m = refl

by_bits : (g m : ℕ) → in_group g m ≡ map (λ b. 64 * g + b) (bits_from m 0 64)
unfolding in_group
by_bits g m = refl

first_bit : (m : ℕ) → 0 < m → m < 2 ^ 64 → bits_from m 0 64 ≡ trailing_zeros w64 m ∷ bits_from (cleared m) 0 64
first_bit m some lt =
    let low = bit_at-trailing_zeros w64 m some lt in
    let k : ℕ = trailing_zeros w64 m in
    lowest-first m (cleared m) 0 64 k (omega arith) (omega arith) low.0 low.1 low.2 (bit_at_clear_same w64 m k low.0) (λ i h ne. bit_at_clear_other w64 m k low.0 i h ne)

-- the members of a mask that has a bit: the one of the lowest, and those of the mask without it
pub group-first : (g m : ℕ) → m ≢ 0 → Fits w64 m → in_group g m ≡ (64 * g + trailing_zeros w64 m) ∷ in_group g (cleared m)
group-first g m ne fits =
    let some : 0 < m = omega arith in
    let lt : m < 2 ^ 64 = omega arith in
    by_bits g m ∙ ap (map (λ b. 64 * g + b)) (first_bit m some lt) ∙ ap (λ is. (64 * g + trailing_zeros w64 m) ∷ is) (sym (by_bits g (cleared m)))

-- a group has at most 64 tasks
fewer : (p : ℕ → Bool) (xs : List ℕ) → length (filter p xs) ≤ length xs
fewer p [] = omega arith
fewer p (x ∷ xs) =
    let rest : length (filter p xs) ≤ length xs = fewer p xs in
    elim (cases_Bool (p x)) [ inl k ↦ rw k (omega arith) | inr k ↦ rw k (omega arith) ]

few-bits : (g m n : ℕ) → length (map (λ b. 64 * g + b) (bits_from m 0 n)) ≤ n
few-bits g m n = omega (arith, length-map (bits_from m 0 n) (λ b. 64 * g + b), fewer (λ b. bit_at m b == 1) (range_with_len 0 n), length-range_with_len 0 n)

pub group-few : (g m : ℕ) → length (in_group g m) ≤ 64
group-few g m = let P : List ℕ → Type 0 = λ is. length is ≤ 64 in subst P (sym (by_bits g m)) (few-bits g m 64)

none-filtered : (a n : ℕ) → bits_from 0 a n ≡ []
none-filtered a zero = refl
none-filtered a (suc n) = rw (ne_eqb (bit_at 0 a) 1 (let z : bit_at 0 a ≡ 0 = bit_at-zero a in λ h. omega arith)) (none-filtered (a + 1) n)

pub group-none : (g : ℕ) → in_group g 0 ≡ []
group-none g = by_bits g 0 ∙ ap (map (λ b. 64 * g + b)) (none-filtered 0 64)
