-- Keys that wrap, seen from a count that rises.
use Rattle.std.proofs.Math.Nat.{mul-le-mul_left}
use Rattle.std.proofs.Math.IntN.{neg_ℤ}
use Rattle.std.proofs.Common.{◌≡◌, ℕ, zero, suc, ◌+◌, ◌*◌, ◌%◌, ◌^◌, ◌≤◌, ◌<◌, Bool, true, false, leb, ltb, List, [], ◌∷◌, length, refl, sym, ◌∙◌, arith, inl, inr, append-nil, ◌≤ℤ◌, ◌<ℤ◌, pos, negsuc, ◌+ℤ◌, ◌*ℤ◌}
use Rattle.std.specs.Prelude.{ℤ, int_le}
use Rattle.std.specs.List.{AllByRecursion}
use Rattle.std.proofs.lemmas.Int.{ints, by_lt_z}
use Rattle.std.proofs.lemmas.Bool.{cases_Bool, cases_lt, cases_eq, lt-ltb, le-ltb, lt-leb, le-leb}
use Rattle.sched_base.specs.KeyedList.{KeyedItem, inserted}
use Rattle.sched_base.proofs.Inserted.{filter-all, filter-none, all-weaker, all-both}
use Rattle.queue_model.specs.Ticks.{distance}
use Rattle.queue_model.specs.Walk.{half_back, walked, HasTicks, IsByDistance}
use Rattle.queue_model.proofs.Walk.{gone, distance_is, int_le-true, int_le-false}
use Rattle.queue_model.proofs.SweepSteps.{int_le-fails}
use Rattle.queue_model.proofs.Window.{filter-agree}
use Rattle.run_queue.specs.Runners.{IsFresh}

pub int_le_plus : (z a b : ℤ) → int_le (z +ℤ a) (z +ℤ b) ≡ int_le a b
int_le_plus z a b =
    by_lt_z b a
    (λ lt. let l : (z +ℤ b) <ℤ (z +ℤ a) = omega (arith, ints) in int_le-false _ _ l ∙ sym (int_le-false a b lt))
    (λ le. let l : (z +ℤ a) ≤ℤ (z +ℤ b) = omega (arith, ints) in int_le-true _ _ l ∙ sym (int_le-true a b le))

pub gone_next : (p p' k : ℕ) → p < 2 ^ 32 → k < 2 ^ 32 → p' ≡ (p + 1) % 2 ^ 32 → (k ≡ p → ⊥) → gone p' k + 1 ≡ gone p k
gone_next p p' k hp hk e ne =
    elim (cases_lt k p) [
      | inl lt ↦ elim (cases_eq (p + 1) (2 ^ 32)) [
        | inl wrap ↦ let z : p' ≡ 0 = omega arith in rw (lt-leb p k lt, le-leb p' k (omega arith)) (omega arith)
        | inr stay ↦ let z : p' ≡ p + 1 = omega arith in rw (lt-leb p k lt, lt-leb p' k (omega arith)) (omega arith)
      ]
      | inr le ↦ let z : p' ≡ p + 1 = omega arith in rw (le-leb p k le, le-leb p' k (omega arith)) (omega arith)
    ]

pub half_next : (c c' : ℕ) → c < 2 ^ 32 → c' ≡ (c + 1) % 2 ^ 32 → half_back c' ≡ (half_back c + 1) % 2 ^ 32
half_next c c' h e = omega arith

-- a key that is not half the circle back is one nearer once the count has risen
pub distance_next : (c c' k : ℕ) → c < 2 ^ 32 → k < 2 ^ 32 → c' ≡ (c + 1) % 2 ^ 32 → (k ≡ half_back c → ⊥) → distance k c' +ℤ pos 1 ≡ distance k c
distance_next c c' k hc hk e ne =
    let hc' : c' < 2 ^ 32 = omega arith in
    let a = distance_is c k hc hk in
    let b = distance_is c' k hc' hk in
    let n : gone (half_back c') k + 1 ≡ gone (half_back c) k = gone_next (half_back c) (half_back c') k (omega arith) hk (half_next c c' hc e) ne in
    omega (arith, ints)

pub not_half : (c k : ℕ) → c < 2 ^ 32 → k < 2 ^ 32 → negsuc (2 ^ 22) ≤ℤ distance k c → k ≡ half_back c → ⊥
not_half c k hc hk near e =
    let a = distance_is c k hc hk in
    let z : gone (half_back c) k ≡ 0 = rw (le-leb (half_back c) k (omega arith)) (omega arith) in
    omega (arith, ints)

pub walk_next : (c c' : ℕ) (xs : List KeyedItem) → c < 2 ^ 32 → c' ≡ (c + 1) % 2 ^ 32 → HasTicks xs → AllByRecursion (λ (y : KeyedItem). y.key ≡ half_back c → ⊥) xs → walked c' xs ≡ walked c xs
walk_next c c' xs hc e ticks apart =
    let p : ℕ = half_back c in
    let p' : ℕ = half_back c' in
    let n : p' ≡ (p + 1) % 2 ^ 32 = half_next c c' hc e in
    let T : KeyedItem → Type 0 = λ y. (y.key < 2 ^ 32) × (y.key ≡ p → ⊥) in
    let all : AllByRecursion T xs = all-both (λ (y : KeyedItem). y.key < 2 ^ 32) (λ (y : KeyedItem). y.key ≡ p → ⊥) xs ticks apart in
    elim (cases_eq (p + 1) (2 ^ 32)) [
      | inl wrap ↦
          rw (
            filter-all (λ (y : KeyedItem). leb p' y.key) xs (all-weaker T (λ (y : KeyedItem). leb p' y.key ≡ true) xs (λ y h. le-leb _ _ (omega arith)) all),
            filter-none (λ (y : KeyedItem). ltb y.key p') xs (all-weaker T (λ (y : KeyedItem). ltb y.key p' ≡ false) xs (λ y h. le-ltb _ _ (omega arith)) all),
            filter-none (λ (y : KeyedItem). leb p y.key) xs (all-weaker T (λ (y : KeyedItem). leb p y.key ≡ false) xs (λ y h. lt-leb _ _ (let k : y.key < 2 ^ 32 = h.0 in below y.key p (omega arith) h.1)) all),
            filter-all (λ (y : KeyedItem). ltb y.key p) xs (all-weaker T (λ (y : KeyedItem). ltb y.key p ≡ true) xs (λ y h. lt-ltb _ _ (let k : y.key < 2 ^ 32 = h.0 in below y.key p (omega arith) h.1)) all),
          ) (append-nil xs)
      | inr stay ↦
          let one : p' ≡ p + 1 = omega arith in
          rw (
            filter-agree (λ (y : KeyedItem). leb p' y.key) (λ (y : KeyedItem). leb p y.key) xs (all-weaker T (λ (y : KeyedItem). leb p' y.key ≡ leb p y.key) xs (λ y h. same_leb p p' y.key one h.1) all),
            filter-agree (λ (y : KeyedItem). ltb y.key p') (λ (y : KeyedItem). ltb y.key p) xs (all-weaker T (λ (y : KeyedItem). ltb y.key p' ≡ ltb y.key p) xs (λ y h. same_ltb p p' y.key one h.1) all),
          ) refl
    ]
  where
    below : (k p : ℕ) → k ≤ p → (k ≡ p → ⊥) → k < p
    below k p le ne = elim (cases_lt k p) [ inl lt ↦ lt | inr ge ↦ absurd (ne (omega arith)) ]

    same_leb : (p p' k : ℕ) → p' ≡ p + 1 → (k ≡ p → ⊥) → leb p' k ≡ leb p k
    same_leb p p' k e ne =
        elim (cases_lt k p) [
          | inl lt ↦ lt-leb p' k (omega arith) ∙ sym (lt-leb p k lt)
          | inr le ↦ le-leb p' k (let l = below p k le (λ z. ne (sym z)) in omega arith) ∙ sym (le-leb p k le)
        ]

    same_ltb : (p p' k : ℕ) → p' ≡ p + 1 → (k ≡ p → ⊥) → ltb k p' ≡ ltb k p
    same_ltb p p' k e ne =
        elim (cases_lt k p) [
          | inl lt ↦ lt-ltb k p' (omega arith) ∙ sym (lt-ltb k p lt)
          | inr le ↦ le-ltb k p' (let l = below p k le (λ z. ne (sym z)) in omega arith) ∙ sym (le-ltb k p le)
        ]

-- ---- fresh items

pub fresh_near : (depth now : ℕ) (xs : List KeyedItem) → depth ≤ 1000 → length xs ≤ 2 ^ 20 → IsFresh depth now xs → AllByRecursion (λ (y : KeyedItem). negsuc (2 ^ 22) ≤ℤ distance y.key now) xs
fresh_near depth now [] d l fresh = tt
fresh_near depth now (y ∷ ys) d l fresh =
    let low = fresh.0 in
    (omega (arith, ints), fresh_near depth now ys d (omega arith) fresh.2)

pub fresh_high : (depth now : ℕ) (xs : List KeyedItem) → IsFresh depth now xs → AllByRecursion (λ (y : KeyedItem). distance y.key now ≤ℤ pos (1024 * depth)) xs
fresh_high depth now [] fresh = tt
fresh_high depth now (y ∷ ys) fresh = (fresh.1, fresh_high depth now ys fresh.2)

-- an item within 1024 times the depth on both sides
abbrev pub IsClose : ℕ → ℕ → ℕ → Type 0
IsClose depth now key = (pos 0 ≤ℤ (distance key now +ℤ pos (1024 * depth))) × (distance key now ≤ℤ pos (1024 * depth))

pub fresh_close : (depth now : ℕ) (xs : List KeyedItem) → AllByRecursion (λ (y : KeyedItem). IsClose depth now y.key) xs → IsFresh depth now xs
fresh_close depth now [] all = tt
fresh_close depth now (y ∷ ys) all =
    let low = all.0.0 in
    (omega (arith, ints), all.0.1, fresh_close depth now ys all.1)

pub length-inserted : {X : Type 0} (s : X → Bool) (x : X) (xs : List X) → length (inserted s x xs) ≡ length xs + 1
length-inserted s x [] = refl
length-inserted s x (y ∷ ys) =
    let rest : length (inserted s x ys) ≡ length ys + 1 = length-inserted s x ys in
    elim (cases_Bool (s y)) [ inl k ↦ rw k (omega arith) | inr k ↦ rw k (omega arith) ]

-- items stay fresh as the count rises and another one comes in
pub fresh_inserted : (depth now next key : ℕ) (x : KeyedItem) (xs : List KeyedItem) → x.key ≡ key → IsClose depth next key → IsFresh depth now xs → AllByRecursion (λ (y : KeyedItem). distance y.key next +ℤ pos 1 ≡ distance y.key now) xs → IsByDistance next xs → IsFresh depth next (inserted (λ (y : KeyedItem). int_le (distance y.key next) (distance key next)) x xs)
fresh_inserted depth now next key x [] own close fresh shift ordered = rw own (close_alone depth next key 0 close)
  where
    close_alone : (depth next key n : ℕ) → IsClose depth next key → (pos 0 ≤ℤ (distance key next +ℤ pos (1024 * depth + n))) × (distance key next ≤ℤ pos (1024 * depth)) × Unit {0}
    close_alone depth next key n close = let low = close.0 in (omega (arith, ints), close.1, tt)
fresh_inserted depth now next key x (y ∷ ys) own close fresh shift ordered =
    let s : KeyedItem → Bool = λ z. int_le (distance z.key next) (distance key next) in
    let low = fresh.0 in
    let high = fresh.1 in
    let step = shift.0 in
    let long : length (inserted s x ys) ≡ length ys + 1 = length-inserted s x ys in
    elim (cases_Bool (int_le (distance y.key next) (distance key next))) [
      | inl k ↦ rw k (omega (arith, ints), omega (arith, ints), fresh_inserted depth now next key x ys own close fresh.2 shift.1 ordered.1)
      | inr k ↦
          let above : distance key next <ℤ distance y.key next = int_le-fails _ _ k in
          let c0 = close.0 in
          let own_close : IsClose depth next y.key = (omega (arith, ints), omega (arith, ints)) in
          let rest : AllByRecursion (λ (z : KeyedItem). IsClose depth next z.key) ys = all-weaker (λ (z : KeyedItem). (distance y.key next ≤ℤ distance z.key next) × ((distance z.key now ≤ℤ pos (1024 * depth)) × (distance z.key next +ℤ pos 1 ≡ distance z.key now))) (λ (z : KeyedItem). IsClose depth next z.key) ys (λ z h.
          let a = h.0 in
          let b = h.1.0 in
          let e = h.1.1 in
          (omega (arith, ints), omega (arith, ints))) (all-both _ _ ys ordered.0 (all-both _ _ ys (fresh_high depth now ys fresh.2) shift.1)) in
          let first : pos 0 ≤ℤ (distance key next +ℤ pos (1024 * depth + length (y ∷ ys))) = omega (arith, ints) in
          rw (k, own) (first, close.1, fresh_close depth next (y ∷ ys) (own_close, rest))
    ]

pub negated : (n m : ℕ) → n ≤ m → (pos 0 ≤ℤ (neg_ℤ (pos n) +ℤ pos m)) × (neg_ℤ (pos n) ≤ℤ pos m)
negated zero m h = (omega (arith, ints), omega (arith, ints))
negated (suc n) m h = (omega (arith, ints), omega (arith, ints))

-- nice times the depth is within 1024 times the depth on both sides
pub scaled : (z : ℤ) (d : ℕ) → negsuc 1023 ≤ℤ z → z ≤ℤ pos 1024 → (pos 0 ≤ℤ ((z *ℤ pos d) +ℤ pos (1024 * d))) × ((z *ℤ pos d) ≤ℤ pos (1024 * d))
scaled (pos a) d low high =
    let b : a ≤ 1024 = omega (arith, ints) in
    let m : d * a ≤ d * 1024 = mul-le-mul_left d b in
    let m' : a * d ≤ 1024 * d = omega arith in
    (omega (arith, ints), omega (arith, ints))
scaled (negsuc a) d low high =
    let b : suc a ≤ 1024 = omega (arith, ints) in
    let m : d * suc a ≤ d * 1024 = mul-le-mul_left d b in
    let m' : suc a * d ≤ 1024 * d = omega arith in
    negated (suc a * d) (1024 * d) m'
