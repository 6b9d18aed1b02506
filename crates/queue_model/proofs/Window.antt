-- While all keys are near, walks from different ticks are the same.
use Rattle.std.proofs.Common.{◌≡◌, ℕ, ◌+◌, ◌^◌, ◌≤◌, ◌<◌, Bool, true, false, ◌&&◌, leb, ltb, List, [], ◌∷◌, refl, sym, ap, ◌∙◌, arith, inl, inr, append-nil}
use Rattle.std.specs.Prelude.{int_le}
use Rattle.std.specs.List.{filter, list_any, AllByRecursion}
use Rattle.std.proofs.lemmas.Int.{ints}
use Rattle.std.proofs.lemmas.Bool.{cases_Bool, cases_lt, false≢true, and_from, and_parts, lt-ltb, le-ltb, lt-leb, le-leb, leb-true, ltb-true}
use Rattle.sched_base.specs.KeyedList.{KeyedItem, inserted, IsRising}
use Rattle.sched_base.proofs.Inserted.{Answers, filter-all, filter-none, all-weaker}
use Rattle.sched_base.proofs.Once.{In, in_all, all_in, none_held}
use Rattle.queue_model.specs.Ticks.{distance}
use Rattle.queue_model.specs.Walk.{half_back, turned, walked, HasTicks}
use Rattle.queue_model.specs.Window.{IsNear, AreNear}
use Rattle.queue_model.proofs.Walk.{gone, distance_is, walked-inserted}

pub filter-agree : (p q : KeyedItem → Bool) (xs : List KeyedItem) → AllByRecursion (λ (y : KeyedItem). p y ≡ q y) xs → filter p xs ≡ filter q xs
filter-agree p q [] h = refl
filter-agree p q (x ∷ xs) h =
    elim (cases_Bool (q x)) [ inl k ↦ rw (h.0, k) (ap (λ (zs : List KeyedItem). x ∷ zs) (filter-agree p q xs h.1)) | inr k ↦ rw (h.0, k) (filter-agree p q xs h.1) ]

-- whether a key lies between two starts
abbrev pub between : ℕ → ℕ → KeyedItem → Bool
between p q y = leb p y.key && ltb y.key q

pub passing : (t : KeyedItem → Bool) (xs : List KeyedItem) → list_any t xs ≡ true → (y : KeyedItem) × In y xs × (t y ≡ true)
passing t [] h = absurd (false≢true h)
passing t (x ∷ xs) h =
    elim (cases_Bool (t x)) [
      | inl k ↦ (x, inl refl, k)
      | inr k ↦ let w = passing t xs (rw k at h) in (w.0, inr w.1, w.2)
    ]

pub not_between : (p q k : ℕ) → (leb p k && ltb k q) ≡ false → p ≤ k → q ≤ k
not_between p q k h le =
    elim (cases_lt k q) [
      | inl lt ↦ absurd (false≢true (sym h ∙ and_from _ _ (le-leb p k le) (lt-ltb k q lt)))
      | inr ge ↦ ge
    ]

pub far : (p q k : ℕ) → p ≤ q → (leb p k && ltb k q) ≡ false → leb p k ≡ leb q k
far p q k le h =
    elim (cases_lt k p) [
      | inl lt ↦ lt-leb p k lt ∙ sym (lt-leb q k (omega arith))
      | inr ge ↦ le-leb p k ge ∙ sym (le-leb q k (not_between p q k h ge))
    ]

pub near : (p q k : ℕ) → p ≤ q → (leb p k && ltb k q) ≡ false → ltb k p ≡ ltb k q
near p q k le h =
    elim (cases_lt k p) [
      | inl lt ↦ lt-ltb k p lt ∙ sym (lt-ltb k q (omega arith))
      | inr ge ↦ le-ltb k p ge ∙ sym (le-ltb k q (not_between p q k h ge))
    ]

-- two starts with all items between them, or with none
pub turned_same : (p q : ℕ) (xs : List KeyedItem) → p ≤ q → ((a b : KeyedItem) → In a xs → In b xs → between p q a ≡ true → between p q b ≡ true) → turned p xs ≡ turned q xs
turned_same p q xs le alike =
    elim (cases_Bool (list_any (between p q) xs)) [
      | inl some ↦
          let w = passing (between p q) xs some in
          let all : Answers true (between p q) xs = all_in (λ (y : KeyedItem). between p q y ≡ true) xs (λ y h. alike w.0 y w.1 h w.2) in
          let at : (t : KeyedItem → Bool) (b : Bool) → ((y : KeyedItem) → p ≤ y.key → y.key < q → t y ≡ b) → Answers b t xs = λ t b f. all-weaker (λ (y : KeyedItem). between p q y ≡ true) (λ (y : KeyedItem). t y ≡ b) xs (λ y h. let r = and_parts _ _ h in f y (leb-true _ _ r.0) (ltb-true _ _ r.1)) all in
          rw (
            filter-all (λ (y : KeyedItem). leb p y.key) xs (at (λ (y : KeyedItem). leb p y.key) true (λ y l r. le-leb _ _ l)),
            filter-none (λ (y : KeyedItem). ltb y.key p) xs (at (λ (y : KeyedItem). ltb y.key p) false (λ y l r. le-ltb _ _ l)),
            filter-none (λ (y : KeyedItem). leb q y.key) xs (at (λ (y : KeyedItem). leb q y.key) false (λ y l r. lt-leb _ _ r)),
            filter-all (λ (y : KeyedItem). ltb y.key q) xs (at (λ (y : KeyedItem). ltb y.key q) true (λ y l r. lt-ltb _ _ r)),
          ) (append-nil xs)
      | inr none ↦
          let out : Answers false (between p q) xs = none_held (between p q) xs none in
          rw (
            filter-agree (λ (y : KeyedItem). leb p y.key) (λ (y : KeyedItem). leb q y.key) xs (all-weaker (λ (y : KeyedItem). between p q y ≡ false) (λ (y : KeyedItem). leb p y.key ≡ leb q y.key) xs (λ y h. far p q y.key le h) out),
            filter-agree (λ (y : KeyedItem). ltb y.key p) (λ (y : KeyedItem). ltb y.key q) xs (all-weaker (λ (y : KeyedItem). between p q y ≡ false) (λ (y : KeyedItem). ltb y.key p ≡ ltb y.key q) xs (λ y h. near p q y.key le h) out),
          ) refl
    ]

-- how far a walk has gone when it comes to a near key
pub near_gone : (now k : ℕ) → now < 2 ^ 32 → k < 2 ^ 32 → IsNear now k → (2 ^ 31 ≤ gone (half_back now) k + 2 ^ 20) × (gone (half_back now) k ≤ 2 ^ 31 + 2 ^ 30 + 1)
near_gone now k n h is =
    let e = distance_is now k n h in
    let low = is.0 in
    let high = is.1 in
    (omega (arith, ints), omega (arith, ints))

-- near keys are on one side of both starts
pub one_side : (p q a b : ℕ) → p < 2 ^ 32 → q < 2 ^ 32 → p ≤ q → a < 2 ^ 32 → b < 2 ^ 32 → p ≤ a → a < q → (2 ^ 31 ≤ gone p a + 2 ^ 20) × (gone p a ≤ 2 ^ 31 + 2 ^ 30 + 1) → (2 ^ 31 ≤ gone q a + 2 ^ 20) × (gone q a ≤ 2 ^ 31 + 2 ^ 30 + 1) → (2 ^ 31 ≤ gone p b + 2 ^ 20) × (gone p b ≤ 2 ^ 31 + 2 ^ 30 + 1) → (2 ^ 31 ≤ gone q b + 2 ^ 20) × (gone q b ≤ 2 ^ 31 + 2 ^ 30 + 1) → (leb p b && ltb b q) ≡ true
one_side p q a b hp hq le ha hb l r pa qa pb qb =
    let pa' = rw (le-leb p a l) at pa in
    let qa' = rw (lt-leb q a r) at qa in
    elim (cases_lt b p) [
      | inl lt ↦
          let pb' = rw (lt-leb p b lt) at pb in
          let before : b < q = omega arith in
          let qb' = rw (lt-leb q b before) at qb in
          absurd (omega (arith, pa'.0, pa'.1, qa'.0, qa'.1, pb'.0, pb'.1, qb'.0, qb'.1))
      | inr ge ↦ elim (cases_lt b q) [
        | inl lt ↦ and_from _ _ (le-leb p b ge) (lt-ltb b q lt)
        | inr far' ↦
            let pb' = rw (le-leb p b ge) at pb in
            let qb' = rw (le-leb q b far') at qb in
            absurd (omega (arith, pa'.0, pa'.1, qa'.0, qa'.1, pb'.0, pb'.1, qb'.0, qb'.1))
      ]
    ]

pub window_walks : (now later : ℕ) (xs : List KeyedItem) → now < 2 ^ 32 → later < 2 ^ 32 → HasTicks xs → AreNear now xs → AreNear later xs → half_back now ≤ half_back later → walked now xs ≡ walked later xs
window_walks now later xs n m ticks near_now near_later le =
    turned_same (half_back now) (half_back later) xs le (λ a b ia ib h.
    let tick = λ (y : KeyedItem) (i : In y xs). in_all (λ (z : KeyedItem). z.key < 2 ^ 32) y xs ticks i in
    let one = λ (y : KeyedItem) (i : In y xs). near_gone now y.key n (tick y i) (in_all (λ (z : KeyedItem). IsNear now z.key) y xs near_now i) in
    let two = λ (y : KeyedItem) (i : In y xs). near_gone later y.key m (tick y i) (in_all (λ (z : KeyedItem). IsNear later z.key) y xs near_later i) in
    let r = and_parts _ _ h in
    one_side (half_back now) (half_back later) a.key b.key (omega arith) (omega arith) le (tick a ia) (tick b ib) (leb-true _ _ r.0) (ltb-true _ _ r.1) (one a ia) (two a ia) (one b ib) (two b ib))

pub walks_stay : (now later : ℕ) (xs : List KeyedItem) → now < 2 ^ 32 → later < 2 ^ 32 → HasTicks xs → AreNear now xs → AreNear later xs → walked now xs ≡ walked later xs
walks_stay now later xs n m ticks near_now near_later =
    elim (cases_lt (half_back later) (half_back now)) [
      | inl lt ↦ sym (window_walks later now xs m n ticks near_later near_now (omega arith))
      | inr le ↦ window_walks now later xs n m ticks near_now near_later le
    ]

pub walks_take : (now : ℕ) (x : KeyedItem) (items : List KeyedItem) → now < 2 ^ 32 → x.key < 2 ^ 32 → HasTicks items → IsRising items → walked now (inserted (λ (y : KeyedItem). leb y.key x.key) x items) ≡ inserted (λ (y : KeyedItem). int_le (distance y.key now) (distance x.key now)) x (walked now items)
walks_take now x items n k ticks rising = walked-inserted now x.key x items n k refl ticks rising
