-- A sweep leads from the window before it to the window after it, and the next tick back.
use Rattle.std.proofs.Common.{◌≡◌, ◌≢◌, ℕ, ◌+◌, ◌-◌, ◌%◌, ◌^◌, ◌<◌, ◌≤◌, Bool, true, not, ◌&&◌, ◌⊎◌, inl, inr, List, [], ◌∷◌, map, fold, refl, sym, ap, ◌∙◌, arith, subst}
use Rattle.std.specs.List.{AllByRecursion, filter}
use Rattle.std.proofs.lemmas.Bool.{cases_Bool, false≢true, and_parts, not-true}
use Rattle.sched_base.proofs.Inserted.{all-inserted, all-filter, all-weaker, all-both, all-map, filter-passes}
use Rattle.queue_model.specs.Ticks.{is_set, is_expired}
use Rattle.queue_model.specs.WaitList.{WaitItem, WaitList, expiry_of, with_expiry, placed}
use Rattle.queue_model.specs.Sweep.{due, fired, put_back, swept}
use Rattle.queue_model.specs.Clock.{off, IsWithin, Covered, Sorted, Window, behind, ahead}
use Rattle.queue_model.proofs.Clock.{not_zero, unset-other, ends_same, sorted-filter}
use Rattle.queue_model.proofs.Offsets.{off-moved, not_expired}
use Rattle.queue_model.proofs.Settles.{sorted-placed, covered-here, covered-there, covered-from}

-- ---- a sweep

-- a number stands in a list
abbrev Among : ℕ → List ℕ → Type 0
Among i [] = ⊥
Among i (j ∷ js) = (j ≡ i) ⊎ Among i js

-- a task has an item
abbrev HasItem : ℕ → List WaitItem → Type 0
HasItem i [] = ⊥
HasItem i (y ∷ ys) = (y.task ≡ i) ⊎ HasItem i ys

-- what covers a task stays or is due
covered-split : (now i t : ℕ) (q : WaitItem → Bool) (ys : List WaitItem) → Covered now i t ys → Covered now i t (filter (λ y. not (q y)) ys) ⊎ HasItem i (filter q ys)
covered-split now i t q [] h = absurd h
covered-split now i t q (y ∷ ys) h =
    elim (cases_Bool (q y)) [
      | inl k ↦ rw k (elim h [ inl c ↦ inr (inl c.0) | inr c ↦ elim (covered-split now i t q ys c) [ inl a ↦ inl a | inr b ↦ inr (inr b) ] ])
      | inr k ↦ rw k (elim h [ inl c ↦ inl (inl c) | inr c ↦ elim (covered-split now i t q ys c) [ inl a ↦ inl (inr a) | inr b ↦ inr b ] ])
    ]

-- a task whose item passes a test of tasks
item-among : (i : ℕ) (p : ℕ → Bool) (ys : List WaitItem) → p i ≡ true → HasItem i ys → Among i (map (λ y. y.task) (filter (λ y. p y.task) ys))
item-among i p [] h g = absurd g
item-among i p (y ∷ ys) h g =
    elim (cases_Bool (p y.task)) [
      | inl k ↦ rw k (elim g [ inl same ↦ inl same | inr more ↦ inr (item-among i p ys h more) ])
      | inr k ↦ rw k (elim g [ inl same ↦ absurd (false≢true (sym k ∙ ap p same ∙ h)) | inr more ↦ item-among i p ys h more ])
    ]

among-apart : (i : ℕ) (js : List ℕ) → Among i js → AllByRecursion (λ j. i ≢ j) js → ⊥
among-apart i [] h g = h
among-apart i (j ∷ js) h g = elim h [ inl same ↦ g.0 (sym same) | inr more ↦ among-apart i js more g.1 ]

-- an expiry that is set once others are unset was set before, and is none of those
unset-all : (l : WaitList) (js : List ℕ) (i : ℕ) → is_set (expiry_of (fold (λ m j. with_expiry j 0 m) l js) i) ≡ true → (expiry_of (fold (λ m j. with_expiry j 0 m) l js) i ≡ expiry_of l i) × AllByRecursion (λ j. i ≢ j) js
unset-all l [] i h = (refl, tt)
unset-all l (j ∷ js) i h =
    let later = unset-all (with_expiry j 0 l) js i h in
    let u = unset-other l.expiries j i (subst (λ (t : ℕ). is_set t ≡ true) later.0 h) in
    (later.0 ∙ u.0, (u.1, later.1))

-- tasks that go back in at their expiries
keys-fold : (now : ℕ) (l : WaitList) (js : List ℕ) (ys : List WaitItem) → AllByRecursion (λ j. IsWithin ahead now (expiry_of l j)) js → AllByRecursion (λ (y : WaitItem). IsWithin ahead now y.key) ys → AllByRecursion (λ (y : WaitItem). IsWithin ahead now y.key) (fold (λ ys i. placed now i (expiry_of l i) ys) ys js)
keys-fold now l [] ys h g = g
keys-fold now l (j ∷ js) ys h g =
    keys-fold now l js (placed now j (expiry_of l j) ys) h.1 (all-inserted (λ (y : WaitItem). IsWithin ahead now y.key) _ _ ys h.0 g)

sorted-fold : (now : ℕ) (l : WaitList) (js : List ℕ) (ys : List WaitItem) → Sorted now ys → Sorted now (fold (λ ys i. placed now i (expiry_of l i) ys) ys js)
sorted-fold now l [] ys h = h
sorted-fold now l (j ∷ js) ys h =
    sorted-fold now l js (placed now j (expiry_of l j) ys) (sorted-placed now j (expiry_of l j) ys h)

covered-fold : (now : ℕ) (l : WaitList) (js : List ℕ) (ys : List WaitItem) (i t : ℕ) → Covered now i t ys → Covered now i t (fold (λ ys i. placed now i (expiry_of l i) ys) ys js)
covered-fold now l [] ys i t h = h
covered-fold now l (j ∷ js) ys i t h =
    covered-fold now l js (placed now j (expiry_of l j) ys) i t (covered-there now i t _ _ ys h)

covered-back : (now : ℕ) (l : WaitList) (js : List ℕ) (ys : List WaitItem) (i : ℕ) → Among i js → Covered now i (expiry_of l i) (fold (λ ys i. placed now i (expiry_of l i) ys) ys js)
covered-back now l [] ys i h = absurd h
covered-back now l (j ∷ js) ys i h =
    elim h [
      | inl same ↦
          (let le : off (expiry_of l j) now ≤ off (expiry_of l i) now = let e = ap (λ k. off (expiry_of l k) now) same in omega arith in
          covered-fold now l js (placed now j (expiry_of l j) ys) i (expiry_of l i) (covered-here now i (expiry_of l i) _ _ ys same le))
      | inr more ↦ covered-back now l js (placed now j (expiry_of l j) ys) i more
    ]

-- a task that is due and whose expiry is set and not reached
back_within : (now : ℕ) (l : WaitList) (i : ℕ) → Window behind now l → (is_set (expiry_of l i) && not (is_expired (expiry_of l i) now)) ≡ true → IsWithin ahead now (expiry_of l i)
back_within now l i h p =
    let parts = and_parts (is_set (expiry_of l i)) (not (is_expired (expiry_of l i) now)) p in
    let some = not_zero (expiry_of l i) parts.0 in
    let e = h.ends i parts.0 in
    (some, e.0, not_expired (expiry_of l i) now some (not-true (is_expired (expiry_of l i) now) parts.1), e.1)

-- an expiry that is set, and not one of those that fired, is covered after the sweep
swept-covered : (now : ℕ) (l : WaitList) (i : ℕ) → Window behind now l → is_set (expiry_of l i) ≡ true → AllByRecursion (λ j. i ≢ j) (fired now l) → Covered now i (expiry_of l i) (swept now l).items
swept-covered now l i h is apart =
    let t = expiry_of l i in
    let rest = filter (λ y. not (is_expired y.key now)) l.items in
    elim (covered-split now i t (λ y. is_expired y.key now) l.items (h.ends i is).2) [
      | inl stays ↦ covered-fold now l (put_back now l) rest i t stays
      | inr leaves ↦
          elim (cases_Bool (is_expired t now)) [
            | inl reached ↦ absurd (among-apart i (fired now l) (item-among i (λ j. is_expired (expiry_of l j) now) (due now l) reached leaves) apart)
            | inr still ↦
                (let back : (is_set t && not (is_expired t now)) ≡ true = rw (is, still) refl in
                covered-back now l (put_back now l) rest i (item-among i (λ j. is_set (expiry_of l j) && not (is_expired (expiry_of l j) now)) (due now l) back leaves))
          ]
    ]

-- an item that stays in its place lies ahead
stays_ahead : (now key : ℕ) → IsWithin behind now key → not (is_expired key now) ≡ true → IsWithin ahead now key
stays_ahead now key h p = (h.0, h.1, not_expired key now h.0 (not-true (is_expired key now) p), h.3)

pub window-swept : (now : ℕ) (l : WaitList) → Window behind now l → Window ahead now (swept now l)
window-swept now l h =
    let stay = λ (y : WaitItem). not (is_expired y.key now) in
    let rest = filter stay l.items in
    let goes = λ (y : WaitItem). is_set (expiry_of l y.task) && not (is_expired (expiry_of l y.task) now) in
    let kept : AllByRecursion (λ (y : WaitItem). IsWithin ahead now y.key) rest = all-weaker (λ (y : WaitItem). IsWithin behind now y.key × (stay y ≡ true)) (λ (y : WaitItem). IsWithin ahead now y.key) rest (λ y both. stays_ahead now y.key both.0 both.1) (all-both (λ (y : WaitItem). IsWithin behind now y.key) (λ (y : WaitItem). stay y ≡ true) rest (all-filter (λ (y : WaitItem). IsWithin behind now y.key) stay l.items h.keys) (filter-passes stay l.items)) in
    let back : AllByRecursion (λ j. IsWithin ahead now (expiry_of l j)) (put_back now l) = all-map (λ (y : WaitItem). y.task) (λ j. IsWithin ahead now (expiry_of l j)) (filter goes (due now l)) (all-weaker (λ (y : WaitItem). goes y ≡ true) (λ (y : WaitItem). IsWithin ahead now (expiry_of l y.task)) (filter goes (due now l)) (λ y p. back_within now l y.task h p) (filter-passes goes (due now l))) in
    record {
      keys = keys-fold now l (put_back now l) rest back kept;
      sorted = sorted-fold now l (put_back now l) rest (sorted-filter now stay l.items h.sorted);
      ends = λ i is.
          let u = unset-all l (fired now l) i is in
          let set_so : is_set (expiry_of l i) ≡ true = subst (λ (t : ℕ). is_set t ≡ true) u.0 is in
          let e = h.ends i set_so in
          ends_same now (expiry_of (swept now l) i) (expiry_of l i) i (swept now l).items u.0 (e.0, e.1, swept-covered now l i h set_so u.1);
    }

-- ---- the next tick

-- all items lie so far ahead, from half the circle before now on
abbrev pub Far : ℕ → ℕ → List WaitItem → Type 0
Far now n items = AllByRecursion (λ y. n ≤ off y.key now) items

sorted-moved : (T d low U : ℕ) (ys : List WaitItem) → T < 2 ^ 32 → U ≡ (T + d) % 2 ^ 32 → AllByRecursion (λ (y : WaitItem). y.key < 2 ^ 32) ys → Far T (d + low) ys → Sorted T ys → Sorted U ys
sorted-moved T d low U [] h e ticks far s = s
sorted-moved T d low U (y ∷ ys) h e ticks far s =
    let mine = off-moved T y.key d U h ticks.0 (omega (arith, far.0)) e in
    let first : AllByRecursion (λ (z : WaitItem). off y.key U ≤ off z.key U) ys = all-weaker (λ (z : WaitItem). (z.key < 2 ^ 32) × ((d + low ≤ off z.key T) × (off y.key T ≤ off z.key T))) (λ (z : WaitItem). off y.key U ≤ off z.key U) ys (λ z p. let other = off-moved T z.key d U h p.0 (omega (arith, p.1.0)) e in omega (arith, p.1.1)) (all-both (λ (z : WaitItem). z.key < 2 ^ 32) (λ (z : WaitItem). (d + low ≤ off z.key T) × (off y.key T ≤ off z.key T)) ys ticks.1 (all-both (λ (z : WaitItem). d + low ≤ off z.key T) (λ (z : WaitItem). off y.key T ≤ off z.key T) ys far.1 s.0)) in
    (first, sorted-moved T d low U ys h e ticks.1 far.1 s.1)

covered-moved : (T d low U i t : ℕ) (ys : List WaitItem) → T < 2 ^ 32 → U ≡ (T + d) % 2 ^ 32 → t < 2 ^ 32 → d ≤ off t T → AllByRecursion (λ (y : WaitItem). y.key < 2 ^ 32) ys → Far T (d + low) ys → Covered T i t ys → Covered U i t ys
covered-moved T d low U i t [] h e n le ticks far c = c
covered-moved T d low U i t (y ∷ ys) h e n le ticks far c =
    elim c [
      | inl here ↦ inl (here.0, omega (arith, here.1, off-moved T y.key d U h ticks.0 (omega (arith, far.0)) e, off-moved T t d U h n le e))
      | inr more ↦ inr (covered-moved T d low U i t ys h e n le ticks.1 far.1 more)
    ]

within-moved : (T d low U key : ℕ) → T < 2 ^ 32 → U ≡ (T + d) % 2 ^ 32 → IsWithin ahead T key → d + low ≤ off key T → IsWithin low U key
within-moved T d low U key h e is far =
    let moved = off-moved T key d U h is.1 (omega arith) e in
    (is.0, is.1, omega arith, omega (arith, is.3))

-- seen from a later tick that passes no item by
pub window-moved : (T d low : ℕ) (l : WaitList) → T < 2 ^ 32 → Far T (d + low) l.items → Window ahead T l → Window low ((T + d) % 2 ^ 32) l
window-moved T d low l h far w =
    let U = (T + d) % 2 ^ 32 in
    let ticks : AllByRecursion (λ (y : WaitItem). y.key < 2 ^ 32) l.items = all-weaker (λ (y : WaitItem). IsWithin ahead T y.key) (λ (y : WaitItem). y.key < 2 ^ 32) l.items (λ y p. p.1) w.keys in
    record {
      keys = all-weaker (λ (y : WaitItem). IsWithin ahead T y.key × (d + low ≤ off y.key T)) (λ (y : WaitItem). IsWithin low U y.key) l.items (λ y p. within-moved T d low U y.key h refl p.0 p.1) (all-both (λ (y : WaitItem). IsWithin ahead T y.key) (λ (y : WaitItem). d + low ≤ off y.key T) l.items w.keys far);
      sorted = sorted-moved T d low U l.items h refl ticks far w.sorted;
      ends = λ i is.
          let e = w.ends i is in
          let t = expiry_of l i in
          let reach : d + low ≤ off t T = covered-from T i t (d + low) l.items far e.2 in
          let moved = off-moved T t d U h e.0 (omega arith) refl in
          (e.0, omega (arith, e.1), covered-moved T d low U i t l.items h refl e.0 (omega arith) ticks far e.2);
    }

far-ahead : (T n : ℕ) (ys : List WaitItem) → n ≤ ahead → AllByRecursion (λ (y : WaitItem). IsWithin ahead T y.key) ys → Far T n ys
far-ahead T n ys le h =
    all-weaker (λ (y : WaitItem). IsWithin ahead T y.key) (λ (y : WaitItem). n ≤ off y.key T) ys (λ y p. omega (arith, p.2)) h

-- a step of at most 2^20 ticks
pub window-next : (T step : ℕ) (l : WaitList) → T < 2 ^ 32 → step ≤ 2 ^ 20 → Window ahead T l → Window behind ((T + step) % 2 ^ 32) l
window-next T step l h le w = window-moved T step behind l h (far-ahead T (step + behind) l.items (omega arith) w.keys) w

-- a jump to a tick that no item comes before
pub window-jump : (T U : ℕ) (l : WaitList) → T < 2 ^ 32 → U < 2 ^ 32 → 2 ^ 31 ≤ off U T → Far T (off U T) l.items → Window ahead T l → Window behind U l
window-jump T U l h g le far w =
    let d = off U T - 2 ^ 31 in
    let there : (T + d) % 2 ^ 32 ≡ U = jumped T U h g le in
    let reach : Far T (d + behind) l.items = all-weaker (λ (y : WaitItem). off U T ≤ off y.key T) (λ (y : WaitItem). d + behind ≤ off y.key T) l.items (λ y p. omega arith) far in
    subst (λ (V : ℕ). Window behind V l) there (window-moved T d behind l h reach w)
  where
    jumped : (T U : ℕ) → T < 2 ^ 32 → U < 2 ^ 32 → 2 ^ 31 ≤ off U T → (T + (off U T - 2 ^ 31)) % 2 ^ 32 ≡ U
    jumped T U h g le = omega arith

-- what comes no later than the first item
pub far-first : (T low : ℕ) (l : WaitList) → Window low T l → (y : WaitItem) (ys : List WaitItem) → l.items ≡ y ∷ ys → (n : ℕ) → n ≤ off y.key T → Far T n l.items
far-first T low l w y ys e n le =
    let s : Sorted T (y ∷ ys) = subst (Sorted T) e w.sorted in
    subst (Far T n) (sym e) (le, all-weaker (λ (z : WaitItem). off y.key T ≤ off z.key T) (λ (z : WaitItem). n ≤ off z.key T) ys (λ z p. omega arith) s.0)
