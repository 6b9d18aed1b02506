-- The quotas of a turn are at most depth + 3 in all.
use Rattle.std.proofs.Common.{◌≡◌, ℕ, ◌+◌, ◌*◌, ◌<◌, ◌≤◌, nat_lt, min, List, length, refl, ap, ◌∙◌, arith, inl, inr, zero-mul}
use Rattle.std.proofs.Math.Nat.{mul-le-mul_right, mul-add, add-mul}
use Rattle.std.proofs.lemmas.Bool.{cases_Bool, cases_lt}
use Rattle.std.proofs.lemmas.Grind.{div_ceil_times}
use Rattle.sched_base.specs.declared.names.Class.{Class}
use Rattle.sched_base.specs.declared.names.Class.TheVariants.{Urgent, Normal, Bulk, Heavy}
use Rattle.queue_model.specs.Classes.{Classes, of_class, weights, weight_in, total, share, quotas}
use Rattle.run_model.specs.TurnReader.{runs_left}

sum_times : (a b c e t : ℕ) → (a + b + c + e) * t ≡ a * t + b * t + c * t + e * t
sum_times a b c e t = simp add-mul

times_sum : (d a b c e : ℕ) → d * (a + b + c + e) ≡ d * a + d * b + d * c + d * e
times_sum d a b c e = simp mul-add

-- shares that are less than one above their parts are less than four above the whole
shares-below : (d a b c e m n o p t : ℕ) → t ≡ a + b + c + e → m * t < d * a + t → n * t < d * b + t → o * t < d * c + t → p * t < d * e + t → m + n + o + p < d + 4
shares-below d a b c e m n o p t is hm hn ho hp =
    elim (cases_lt (m + n + o + p) (d + 4)) [
      | inl lt ↦ lt
      | inr ge ↦
          let le : (d + 4) * t ≤ (m + n + o + p) * t = mul-le-mul_right t ge in
          let left : (d + 4) * t ≡ d * t + 4 * t = simp add-mul in
          let right = sum_times m n o p t in
          let whole : d * t ≡ d * a + d * b + d * c + d * e = ap (λ x. d * x) is ∙ times_sum d a b c e in
          absurd (omega arith)
    ]

share-below : (d : ℕ) (c : Classes (List ℕ)) (k : Class) → 0 < total c → share d c k * total c < d * weight_in c k + total c
share-below d c k some =
    elim (cases_Bool (nat_lt 0 (length (of_class k c)))) [
      | inl h ↦ let p = (div_ceil_times (d * of_class k weights) (total c) some).1 in rw h p
      | inr h ↦ rw h (omega (arith, zero-mul (total c)))
    ]

-- a class with an item has a weight
weight-some : (k : Class) → 0 < of_class k weights
weight-some Urgent = omega arith
weight-some Normal = omega arith
weight-some Bulk = omega arith
weight-some Heavy = omega arith

share-none : (d : ℕ) (c : Classes (List ℕ)) (k : Class) → weight_in c k ≡ 0 → share d c k ≡ 0
share-none d c k none =
    elim (cases_Bool (nat_lt 0 (length (of_class k c)))) [
      | inl h ↦ let zero' : of_class k weights ≡ 0 = rw h at none in let some = weight-some k in absurd (omega arith)
      | inr h ↦ rw h refl
    ]

shares-le : (d : ℕ) (c : Classes (List ℕ)) → share d c Urgent + share d c Normal + share d c Bulk + share d c Heavy ≤ d + 3
shares-le d c =
    elim (cases_lt 0 (total c)) [
      | inl some ↦
          let below = shares-below d (weight_in c Urgent) (weight_in c Normal) (weight_in c Bulk) (weight_in c Heavy) (share d c Urgent) (share d c Normal) (share d c Bulk) (share d c Heavy) (total c) refl (share-below d c Urgent some) (share-below d c Normal some) (share-below d c Bulk some) (share-below d c Heavy some) in
          less _ _ below
      | inr none ↦
          let u = share-none d c Urgent (first_zero _ _ _ _ none).0 in
          let n = share-none d c Normal (first_zero _ _ _ _ none).1 in
          let b = share-none d c Bulk (first_zero _ _ _ _ none).2 in
          let h = share-none d c Heavy (first_zero _ _ _ _ none).3 in
          all_zero _ _ _ _ d u n b h
    ]
  where
    less : (m d : ℕ) → m < d + 4 → m ≤ d + 3
    less m d h = omega arith

    first_zero : (a b c e : ℕ) → a + b + c + e ≤ 0 → (a ≡ 0) × (b ≡ 0) × (c ≡ 0) × (e ≡ 0)
    first_zero a b c e h = (omega arith, omega arith, omega arith, omega arith)

    all_zero : (a b c e d : ℕ) → a ≡ 0 → b ≡ 0 → c ≡ 0 → e ≡ 0 → a + b + c + e ≤ d + 3
    all_zero a b c e d ha hb hc he = omega arith

pub quotas-le : (d : ℕ) (c : Classes (List ℕ)) → runs_left (quotas d c) ≤ d + 3
quotas-le d c = with_heavy _ _ _ (share d c Heavy) d (shares-le d c)
  where
    with_heavy : (a b c e d : ℕ) → a + b + c + e ≤ d + 3 → a + b + c + min 1 e ≤ d + 3
    with_heavy a b c e d h = omega arith
