-- A walk that begins half the circle back comes to the items in the order of their distance.
use Rattle.std.proofs.Common.{◌≡◌, ℕ, ◌+◌, ◌-◌, ◌%◌, ◌^◌, ◌≤◌, ◌<◌, Bool, true, false, cond, leb, ltb, List, [], ◌∷◌, ◌++◌, Option, None, refl, sym, ap, ◌∙◌, arith, inl, inr, ◌≤ℤ◌, ◌<ℤ◌, pos, ◌+ℤ◌}
use Rattle.std.specs.Prelude.{ℤ, int_le}
use Rattle.std.specs.List.{filter, find, list_any, AllByRecursion}
use Rattle.std.specs.Int.{w32, cast_signed}
use Rattle.std.proofs.lemmas.Int.{ints, to_z_pos}
use Rattle.std.proofs.lemmas.Bool.{cases_Bool, or_parts, false≢true, cases_lt, lt-ltb, le-ltb, lt-leb, le-leb, leb-true, leb-false, ltb-true}
use Rattle.std.proofs.lemmas.List.Elements.{filter-append}
use Rattle.sched_base.specs.KeyedList.{KeyedItem, inserted, IsRising, first_entry, entry_from}
use Rattle.sched_base.proofs.Inserted.{Answers, inserted-append_left, inserted-append_right, inserted-agree, filter-inserted_in, filter-inserted_out, filter-passes, filter-all, filter-none, filter_comm, all-filter, all-append, all-weaker, all-both, rising-filter}
use Rattle.queue_model.specs.Ticks.{distance}
use Rattle.queue_model.specs.Walk.{half_back, turned, walked, either_entry, HasTicks, IsByDistance}

-- how far the walk has gone when it comes to a key
abbrev pub gone : ℕ → ℕ → ℕ
gone start key = cond (leb start key) (key - start) (key + 2 ^ 32 - start)

pub half_circle : (m : ℕ) → m < 2 ^ 32 → cast_signed w32 m +ℤ pos (2 ^ 31) ≡ pos ((m + 2 ^ 31) % 2 ^ 32)
half_circle m h =
    elim (cases_lt m (2 ^ 31)) [
      | inl lt ↦ let e : cast_signed w32 m ≡ pos m = to_z_pos w32 m lt in let r : (m + 2 ^ 31) % 2 ^ 32 ≡ m + 2 ^ 31 = omega arith in rw (e, r) refl
      | inr le ↦ rw (le-ltb m (2 ^ 31) le) (omega (arith, ints))
    ]

-- the distance from now is half the circle less
pub distance_is : (now key : ℕ) → now < 2 ^ 32 → key < 2 ^ 32 → distance key now +ℤ pos (2 ^ 31) ≡ pos (gone (half_back now) key)
distance_is now key n k =
    half_circle ((key + (2 ^ 32 - now)) % 2 ^ 32) (omega arith) ∙ ap (λ m. pos m) (elim (cases_lt key (half_back now)) [
      | inl lt ↦ rw (lt-leb (half_back now) key lt) (omega arith)
      | inr le ↦ rw (le-leb (half_back now) key le) (omega arith)
    ])

pub int_le-true : (x y : ℤ) → x ≤ℤ y → int_le x y ≡ true
int_le-true x y h = grind (arith, ints)

pub int_le-false : (x y : ℤ) → y <ℤ x → int_le x y ≡ false
int_le-false x y h = grind (arith, ints)

pub int_le-holds : (x y : ℤ) → int_le x y ≡ true → x ≤ℤ y
int_le-holds x y h = grind (arith, ints)

-- the walk comes to keys in the order of their distances
pub order_is : (now a b : ℕ) → now < 2 ^ 32 → a < 2 ^ 32 → b < 2 ^ 32 → int_le (distance a now) (distance b now) ≡ leb (gone (half_back now) a) (gone (half_back now) b)
order_is now a b n ha hb =
    let ea = distance_is now a n ha in
    let eb = distance_is now b n hb in
    elim (cases_lt (gone (half_back now) b) (gone (half_back now) a)) [
      | inl lt ↦ let l : distance b now <ℤ distance a now = omega (arith, ints) in int_le-false _ _ l ∙ sym (lt-leb _ _ lt)
      | inr le ↦ let l : distance a now ≤ℤ distance b now = omega (arith, ints) in int_le-true _ _ l ∙ sym (le-leb _ _ le)
    ]

-- two tests that go by the same order
pub leb_plus : (a b c d : ℕ) → (c ≤ d → a ≤ b) → (a ≤ b → c ≤ d) → leb c d ≡ leb a b
leb_plus a b c d f g =
    elim (cases_lt d c) [
      | inl lt ↦ elim (cases_lt b a) [ inl m ↦ lt-leb c d lt ∙ sym (lt-leb a b m) | inr m ↦ let le = g m in absurd (omega arith) ]
      | inr le ↦ le-leb c d le ∙ sym (le-leb a b (f le))
    ]

-- the walk's first item, by two look-ups
pub first_walked : (start : ℕ) (items : List KeyedItem) → first_entry (turned start items) ≡ either_entry (entry_from start items) (first_entry items)
first_walked start items =
    elim (cases_Bool (list_any (λ (y : KeyedItem). leb start y.key) items)) [
      | inl some ↦ here items some (filter (λ (y : KeyedItem). ltb y.key start) items) (first_entry items)
      | inr none ↦
          let all = no_item items none in
          rw (filter-none (λ (y : KeyedItem). leb start y.key) items all, filter-all (λ (y : KeyedItem). ltb y.key start) items (all-weaker (λ (y : KeyedItem). leb start y.key ≡ false) (λ (y : KeyedItem). ltb y.key start ≡ true) items (λ y h. lt-ltb _ _ (leb-false _ _ h)) all), not_found items none) refl
    ]
  where
    here : (xs : List KeyedItem) → list_any (λ (y : KeyedItem). leb start y.key) xs ≡ true → (low : List KeyedItem) (other : Option ℕ) → first_entry (filter (λ (y : KeyedItem). leb start y.key) xs ++ low) ≡ either_entry (entry_from start xs) other
    here [] h low other = absurd (false≢true h)
    here (y ∷ ys) h low other =
        elim (cases_Bool (leb start y.key)) [ inl k ↦ rw k refl | inr k ↦ rw k (here ys (rw k at h) low other) ]

    no_item : (xs : List KeyedItem) → list_any (λ (y : KeyedItem). leb start y.key) xs ≡ false → Answers false (λ (y : KeyedItem). leb start y.key) xs
    no_item [] h = tt
    no_item (y ∷ ys) h = let p = or_parts (leb start y.key) _ h in (p.0, no_item ys p.1)

    not_found : (xs : List KeyedItem) → list_any (λ (y : KeyedItem). leb start y.key) xs ≡ false → find (λ (y : KeyedItem). leb start y.key) xs ≡ None
    not_found [] h = refl
    not_found (y ∷ ys) h = let p = or_parts (leb start y.key) _ h in rw p.0 (not_found ys p.1)

-- an insertion by key is one by distance in the walk
pub walked-inserted : (now key : ℕ) (x : KeyedItem) (items : List KeyedItem) → now < 2 ^ 32 → key < 2 ^ 32 → x.key ≡ key → HasTicks items → IsRising items → walked now (inserted (λ (y : KeyedItem). leb y.key key) x items) ≡ inserted (λ (y : KeyedItem). int_le (distance y.key now) (distance key now)) x (walked now items)
walked-inserted now key x items n k own ticks rising =
    let p : ℕ = half_back now in
    let s : KeyedItem → Bool = λ y. int_le (distance y.key now) (distance key now) in
    let by_key : KeyedItem → Bool = λ y. leb y.key key in
    let hi : KeyedItem → Bool = λ y. leb p y.key in
    let lo : KeyedItem → Bool = λ y. ltb y.key p in
    let high : AllByRecursion (λ (y : KeyedItem). (y.key < 2 ^ 32) × (hi y ≡ true)) (filter hi items) = all-both (λ (y : KeyedItem). y.key < 2 ^ 32) (λ (y : KeyedItem). hi y ≡ true) (filter hi items) (all-filter (λ (y : KeyedItem). y.key < 2 ^ 32) hi items ticks) (filter-passes hi items) in
    let low : AllByRecursion (λ (y : KeyedItem). (y.key < 2 ^ 32) × (lo y ≡ true)) (filter lo items) = all-both (λ (y : KeyedItem). y.key < 2 ^ 32) (λ (y : KeyedItem). lo y ≡ true) (filter lo items) (all-filter (λ (y : KeyedItem). y.key < 2 ^ 32) lo items ticks) (filter-passes lo items) in
    elim (cases_lt key p) [
      | inl before ↦
          let out : filter hi (inserted by_key x items) ≡ filter hi items = filter-inserted_out hi by_key x items (rw own (lt-leb p key before)) in
          let in' : filter lo (inserted by_key x items) ≡ inserted by_key x (filter lo items) = filter-inserted_in lo key x items (rw own (lt-ltb key p before)) rising in
          let passed : Answers true s (filter hi items) = all-weaker (λ (y : KeyedItem). (y.key < 2 ^ 32) × (hi y ≡ true)) (λ (y : KeyedItem). s y ≡ true) (filter hi items) (λ y h. order_is now y.key key n h.0 k ∙ rw (h.1, lt-leb p key before) (le-leb _ _ (omega arith))) high in
          let same : AllByRecursion (λ (y : KeyedItem). by_key y ≡ s y) (filter lo items) = all-weaker (λ (y : KeyedItem). (y.key < 2 ^ 32) × (lo y ≡ true)) (λ (y : KeyedItem). by_key y ≡ s y) (filter lo items) (λ y h. let lt : y.key < p = ltb-true y.key p h.1 in sym (order_is now y.key key n h.0 k ∙ rw (lt-leb p key before, lt-leb p y.key lt) (leb_plus y.key key _ _ (λ h. omega arith) (λ h. omega arith)))) low in
          rw (out, in') (rw (inserted-append_right s x (filter hi items) (filter lo items) passed) (ap (λ (zs : List KeyedItem). filter hi items ++ zs) (inserted-agree by_key s x (filter lo items) same)))
      | inr after ↦
          let in' : filter hi (inserted by_key x items) ≡ inserted by_key x (filter hi items) = filter-inserted_in hi key x items (rw own (le-leb p key after)) rising in
          let out : filter lo (inserted by_key x items) ≡ filter lo items = filter-inserted_out lo by_key x items (rw own (le-ltb key p after)) in
          let stopped : Answers false s (filter lo items) = all-weaker (λ (y : KeyedItem). (y.key < 2 ^ 32) × (lo y ≡ true)) (λ (y : KeyedItem). s y ≡ false) (filter lo items) (λ y h. let lt : y.key < p = ltb-true y.key p h.1 in order_is now y.key key n h.0 k ∙ rw (le-leb p key after, lt-leb p y.key lt) (lt-leb _ _ (omega arith))) low in
          let same : AllByRecursion (λ (y : KeyedItem). by_key y ≡ s y) (filter hi items) = all-weaker (λ (y : KeyedItem). (y.key < 2 ^ 32) × (hi y ≡ true)) (λ (y : KeyedItem). by_key y ≡ s y) (filter hi items) (λ y h. let le : p ≤ y.key = leb-true p y.key h.1 in sym (order_is now y.key key n h.0 k ∙ rw (h.1, le-leb p key after) (leb_plus y.key key _ _ (λ h. omega arith) (λ h. omega arith)))) high in
          rw (out, in') (rw (inserted-append_left s x (filter hi items) (filter lo items) stopped) (ap (λ (zs : List KeyedItem). zs ++ filter lo items) (inserted-agree by_key s x (filter hi items) same)))
    ]

-- a deletion in the walk
pub walked-filter : (now : ℕ) (q : KeyedItem → Bool) (items : List KeyedItem) → walked now (filter q items) ≡ filter q (walked now items)
walked-filter now q items =
    let p : ℕ = half_back now in
    let hi : KeyedItem → Bool = λ y. leb p y.key in
    let lo : KeyedItem → Bool = λ y. ltb y.key p in
    rw (filter_comm hi q items, filter_comm lo q items) (sym (filter-append q (filter hi items) (filter lo items)))

-- what holds of all items holds along the walk
pub all-walked : (P : KeyedItem → Type 0) (now : ℕ) (items : List KeyedItem) → AllByRecursion P items → AllByRecursion P (walked now items)
all-walked P now items all = all-append P _ _ (all-filter P _ items all) (all-filter P _ items all)

pub distance_from_gone : (now a b : ℕ) → now < 2 ^ 32 → a < 2 ^ 32 → b < 2 ^ 32 → gone (half_back now) a ≤ gone (half_back now) b → distance a now ≤ℤ distance b now
distance_from_gone now a b n ha hb le =
    let ea = distance_is now a n ha in
    let eb = distance_is now b n hb in
    omega (arith, ints)

pub by_distance-append : (now : ℕ) (xs ys : List KeyedItem) → IsByDistance now xs → IsByDistance now ys → AllByRecursion (λ (x : KeyedItem). AllByRecursion (λ (y : KeyedItem). distance x.key now ≤ℤ distance y.key now) ys) xs → IsByDistance now (xs ++ ys)
by_distance-append now [] ys p q r = q
by_distance-append now (x ∷ xs) ys p q r = (all-append (λ (y : KeyedItem). distance x.key now ≤ℤ distance y.key now) xs ys p.0 r.0, by_distance-append now xs ys p.1 q r.1)

-- the items of one side of the walk's start, which have this answer to whether they are on the far side
pub side_by_distance : (now : ℕ) (b : Bool) (xs : List KeyedItem) → now < 2 ^ 32 → IsRising xs → AllByRecursion (λ (y : KeyedItem). (y.key < 2 ^ 32) × (leb (half_back now) y.key ≡ b)) xs → IsByDistance now xs
side_by_distance now b [] n rising side = tt
side_by_distance now b (x ∷ xs) n rising side =
    let R : KeyedItem → Type 0 = λ y. x.key ≤ y.key in
    let S : KeyedItem → Type 0 = λ y. (y.key < 2 ^ 32) × (leb (half_back now) y.key ≡ b) in (
      all-weaker (λ (y : KeyedItem). R y × S y) (λ (y : KeyedItem). distance x.key now ≤ℤ distance y.key now) xs (λ y h.
          distance_from_gone now x.key y.key n side.0.0 h.1.0 (same_side b (half_back now) x.key y.key side.0.1 h.1.1 h.0)) (all-both R S xs rising.0 side.1),
      side_by_distance now b xs n rising.1 side.1,
    )
  where
    same_side : (b : Bool) (p k m : ℕ) → leb p k ≡ b → leb p m ≡ b → k ≤ m → gone p k ≤ gone p m
    same_side true p k m hk hm le = rw (hk, hm) (omega arith)
    same_side false p k m hk hm le = rw (hk, hm) (omega arith)

-- the walk comes to the items in the order of their distance
pub walked_by_distance : (now : ℕ) (items : List KeyedItem) → now < 2 ^ 32 → HasTicks items → IsRising items → IsByDistance now (walked now items)
walked_by_distance now items n ticks rising =
    let p : ℕ = half_back now in
    let hi : KeyedItem → Bool = λ y. leb p y.key in
    let lo : KeyedItem → Bool = λ y. ltb y.key p in
    let tick : KeyedItem → Type 0 = λ y. y.key < 2 ^ 32 in
    let high : AllByRecursion (λ (y : KeyedItem). tick y × (hi y ≡ true)) (filter hi items) = all-both tick (λ (y : KeyedItem). hi y ≡ true) (filter hi items) (all-filter tick hi items ticks) (filter-passes hi items) in
    let low : AllByRecursion (λ (y : KeyedItem). tick y × (lo y ≡ true)) (filter lo items) = all-both tick (λ (y : KeyedItem). lo y ≡ true) (filter lo items) (all-filter tick lo items ticks) (filter-passes lo items) in
    let low' : AllByRecursion (λ (y : KeyedItem). tick y × (hi y ≡ false)) (filter lo items) = all-weaker (λ (y : KeyedItem). tick y × (lo y ≡ true)) (λ (y : KeyedItem). tick y × (hi y ≡ false)) (filter lo items) (λ y h. (h.0, lt-leb p y.key (ltb-true y.key p h.1))) low in
    by_distance-append now (filter hi items) (filter lo items)
    (side_by_distance now true (filter hi items) n (rising-filter hi items rising) high)
    (side_by_distance now false (filter lo items) n (rising-filter lo items rising) low')
    (all-weaker (λ (x : KeyedItem). tick x × (hi x ≡ true)) (λ (x : KeyedItem). AllByRecursion (λ (y : KeyedItem). distance x.key now ≤ℤ distance y.key now) (filter lo items)) (filter hi items) (λ x h.
    all-weaker (λ (y : KeyedItem). tick y × (hi y ≡ false)) (λ (y : KeyedItem). distance x.key now ≤ℤ distance y.key now) (filter lo items) (λ y g.
    distance_from_gone now x.key y.key n h.0 g.0 (rw (h.1, g.1) (let k : p ≤ x.key = leb-true p x.key h.1 in let k' : x.key < 2 ^ 32 = h.0 in omega arith))) low') high)
