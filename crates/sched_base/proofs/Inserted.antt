-- Insertions behind a front of a list, and what filters and joins make of them.
use Rattle.std.proofs.Common.{◌≡◌, ℕ, ◌≤◌, ◌<◌, Bool, true, false, leb, List, [], ◌∷◌, ◌++◌, map, refl, sym, ap, arith, inl, inr}
use Rattle.std.specs.List.{filter, AllByRecursion}
use Rattle.std.proofs.lemmas.Bool.{cases_Bool, lt-leb, leb-true, leb-false}
use Rattle.sched_base.specs.KeyedList.{KeyedItem, inserted, IsRising}

-- a test that all items of a list answer alike
abbrev pub Answers : {X : Type 0} → Bool → (X → Bool) → List X → Type 0
Answers b s xs = AllByRecursion (λ y. s y ≡ b) xs

-- what none stays before stands first
pub inserted-first : {X : Type 0} (s : X → Bool) (x : X) (xs : List X) → Answers false s xs → inserted s x xs ≡ x ∷ xs
inserted-first s x [] h = refl
inserted-first s x (y ∷ ys) h = rw h.0 refl

-- behind a front that all stay before
pub inserted-append_right : {X : Type 0} (s : X → Bool) (x : X) (xs ys : List X) → Answers true s xs → inserted s x (xs ++ ys) ≡ xs ++ inserted s x ys
inserted-append_right s x [] ys h = refl
inserted-append_right {X} s x (y ∷ xs) ys h = rw h.0 (ap (λ (zs : List X). y ∷ zs) (inserted-append_right s x xs ys h.1))

-- before a part that none stays before
pub inserted-append_left : {X : Type 0} (s : X → Bool) (x : X) (xs ys : List X) → Answers false s ys → inserted s x (xs ++ ys) ≡ inserted s x xs ++ ys
inserted-append_left s x [] ys h = inserted-first s x ys h
inserted-append_left {X} s x (y ∷ xs) ys h =
    elim (cases_Bool (s y)) [ inl k ↦ rw k (ap (λ (zs : List X). y ∷ zs) (inserted-append_left s x xs ys h)) | inr k ↦ rw k refl ]

-- two tests that answer alike
pub inserted-agree : {X : Type 0} (s t : X → Bool) (x : X) (xs : List X) → AllByRecursion (λ y. s y ≡ t y) xs → inserted s x xs ≡ inserted t x xs
inserted-agree s t x [] h = refl
inserted-agree {X} s t x (y ∷ ys) h =
    elim (cases_Bool (t y)) [ inl k ↦ rw (h.0, k) (ap (λ (zs : List X). y ∷ zs) (inserted-agree s t x ys h.1)) | inr k ↦ rw (h.0, k) refl ]

-- what a filter takes out leaves no trace
pub filter-inserted_out : {X : Type 0} (q s : X → Bool) (x : X) (xs : List X) → q x ≡ false → filter q (inserted s x xs) ≡ filter q xs
filter-inserted_out q s x [] h = rw h refl
filter-inserted_out {X} q s x (y ∷ ys) h =
    elim (cases_Bool (s y)) [
      | inl k ↦ rw k (elim (cases_Bool (q y)) [ inl m ↦ rw m (ap (λ (zs : List X). y ∷ zs) (filter-inserted_out q s x ys h)) | inr m ↦ rw m (filter-inserted_out q s x ys h) ])
      | inr k ↦ rw k (rw h refl)
    ]

-- what a map makes of an insertion
pub map-inserted : {X Y : Type 0} (f : X → Y) (s : X → Bool) (t : Y → Bool) (x : X) (xs : List X) → ((y : X) → s y ≡ t (f y)) → map f (inserted s x xs) ≡ inserted t (f x) (map f xs)
map-inserted f s t x [] h = refl
map-inserted {Y} f s t x (y ∷ ys) h =
    elim (cases_Bool (t (f y))) [ inl k ↦ rw (h y, k) (ap (λ (zs : List Y). f y ∷ zs) (map-inserted f s t x ys h)) | inr k ↦ rw (h y, k) refl ]

pub all-inserted : {X : Type 0} (P : X → Type 0) (s : X → Bool) (x : X) (xs : List X) → P x → AllByRecursion P xs → AllByRecursion P (inserted s x xs)
all-inserted P s x [] h all = (h, tt)
all-inserted P s x (y ∷ ys) h all =
    elim (cases_Bool (s y)) [ inl k ↦ rw k (all.0, all-inserted P s x ys h all.1) | inr k ↦ rw k (h, all) ]

pub all-filter : {X : Type 0} (P : X → Type 0) (q : X → Bool) (xs : List X) → AllByRecursion P xs → AllByRecursion P (filter q xs)
all-filter P q [] all = tt
all-filter P q (y ∷ ys) all =
    elim (cases_Bool (q y)) [ inl k ↦ rw k (all.0, all-filter P q ys all.1) | inr k ↦ rw k (all-filter P q ys all.1) ]

pub all-weaker : {X : Type 0} (P Q : X → Type 0) (xs : List X) → ((x : X) → P x → Q x) → AllByRecursion P xs → AllByRecursion Q xs
all-weaker P Q [] h all = tt
all-weaker P Q (y ∷ ys) h all = (h y all.0, all-weaker P Q ys h all.1)

pub all-both : {X : Type 0} (P Q : X → Type 0) (xs : List X) → AllByRecursion P xs → AllByRecursion Q xs → AllByRecursion (λ x. P x × Q x) xs
all-both P Q [] p q = tt
all-both P Q (y ∷ ys) p q = ((p.0, q.0), all-both P Q ys p.1 q.1)

pub all-append : {X : Type 0} (P : X → Type 0) (xs ys : List X) → AllByRecursion P xs → AllByRecursion P ys → AllByRecursion P (xs ++ ys)
all-append P [] ys p q = q
all-append P (x ∷ xs) ys p q = (p.0, all-append P xs ys p.1 q)

pub all-map : {X Y : Type 0} (f : X → Y) (P : Y → Type 0) (xs : List X) → AllByRecursion (λ x. P (f x)) xs → AllByRecursion P (map f xs)
all-map f P [] all = tt
all-map f P (x ∷ xs) all = (all.0, all-map f P xs all.1)

pub filter-passes : {X : Type 0} (q : X → Bool) (xs : List X) → Answers true q (filter q xs)
filter-passes q [] = tt
filter-passes q (y ∷ ys) =
    elim (cases_Bool (q y)) [ inl k ↦ rw k (k, filter-passes q ys) | inr k ↦ rw k (filter-passes q ys) ]

pub filter-all : {X : Type 0} (q : X → Bool) (xs : List X) → Answers true q xs → filter q xs ≡ xs
filter-all q [] h = refl
filter-all {X} q (y ∷ ys) h = rw h.0 (ap (λ (zs : List X). y ∷ zs) (filter-all q ys h.1))

pub filter-none : {X : Type 0} (q : X → Bool) (xs : List X) → Answers false q xs → filter q xs ≡ []
filter-none q [] h = refl
filter-none q (y ∷ ys) h = rw h.0 (filter-none q ys h.1)

pub filter_comm : {X : Type 0} (p q : X → Bool) (xs : List X) → filter p (filter q xs) ≡ filter q (filter p xs)
filter_comm p q [] = refl
filter_comm {X} p q (y ∷ ys) =
    elim (cases_Bool (p y)) [
      | inl a ↦ elim (cases_Bool (q y)) [
        | inl b ↦ rw (a, b) (rw a (ap (λ (zs : List X). y ∷ zs) (filter_comm p q ys)))
        | inr b ↦ rw (a, b) (filter_comm p q ys)
      ]
      | inr a ↦ elim (cases_Bool (q y)) [
        | inl b ↦ rw (a, b) (rw a (filter_comm p q ys))
        | inr b ↦ rw (a, b) (filter_comm p q ys)
      ]
    ]

-- ---- keyed items

-- a key under which items stand that none of these stays before
pub none_stays : (key low : ℕ) (xs : List KeyedItem) → key < low → AllByRecursion (λ (y : KeyedItem). low ≤ y.key) xs → Answers false (λ (y : KeyedItem). leb y.key key) xs
none_stays key low xs lt all = all-weaker (λ (y : KeyedItem). low ≤ y.key) (λ (y : KeyedItem). leb y.key key ≡ false) xs (λ y le. lt-leb y.key key (omega arith)) all

-- a filter that keeps the new item
pub filter-inserted_in : (q : KeyedItem → Bool) (key : ℕ) (x : KeyedItem) (xs : List KeyedItem) → q x ≡ true → IsRising xs → filter q (inserted (λ (y : KeyedItem). leb y.key key) x xs) ≡ inserted (λ (y : KeyedItem). leb y.key key) x (filter q xs)
filter-inserted_in q key x [] h rising = rw h refl
filter-inserted_in q key x (y ∷ ys) h rising =
    elim (cases_Bool (leb y.key key)) [
      | inl k ↦ elim (cases_Bool (q y)) [
        | inl m ↦ rw (k, m) (rw k (ap (λ (zs : List KeyedItem). y ∷ zs) (filter-inserted_in q key x ys h rising.1)))
        | inr m ↦ rw (k, m) (filter-inserted_in q key x ys h rising.1)
      ]
      | inr k ↦
          let none : Answers false (λ (z : KeyedItem). leb z.key key) (filter q ys) = none_stays key y.key (filter q ys) (leb-false y.key key k) (all-filter (λ (z : KeyedItem). y.key ≤ z.key) q ys rising.0) in
          elim (cases_Bool (q y)) [
            | inl m ↦ rw (k, h, m) (rw k refl)
            | inr m ↦ rw (k, h, m) (sym (inserted-first _ x (filter q ys) none))
          ]
    ]

-- keys still never fall after an insertion
pub rising-inserted : (key : ℕ) (x : KeyedItem) (xs : List KeyedItem) → x.key ≡ key → IsRising xs → IsRising (inserted (λ (y : KeyedItem). leb y.key key) x xs)
rising-inserted key x [] e rising = (tt, tt)
rising-inserted key x (y ∷ ys) e rising =
    elim (cases_Bool (leb y.key key)) [
      | inl k ↦ let le : y.key ≤ key = leb-true y.key key k in
          rw k (all-inserted (λ (z : KeyedItem). y.key ≤ z.key) _ x ys (omega arith) rising.0, rising-inserted key x ys e rising.1)
      | inr k ↦ let lt : key < y.key = leb-false y.key key k in
          rw k ((omega arith, all-weaker (λ (z : KeyedItem). y.key ≤ z.key) (λ (z : KeyedItem). x.key ≤ z.key) ys (λ z le. omega arith) rising.0), rising)
    ]

-- and after a deletion
pub rising-filter : (q : KeyedItem → Bool) (xs : List KeyedItem) → IsRising xs → IsRising (filter q xs)
rising-filter q [] rising = tt
rising-filter q (y ∷ ys) rising =
    elim (cases_Bool (q y)) [
      | inl k ↦ rw k (all-filter (λ (z : KeyedItem). y.key ≤ z.key) q ys rising.0, rising-filter q ys rising.1)
      | inr k ↦ rw k (rising-filter q ys rising.1)
    ]
