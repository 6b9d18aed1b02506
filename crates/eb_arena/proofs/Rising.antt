-- Keys never fall along the items of a tree.
use Rattle.std.proofs.Common.{◌≡◌, ℕ, ◌+◌, ◌*◌, ◌/◌, ◌^◌, ◌<◌, ◌≤◌, List, [], ◌∷◌, ◌++◌, length, sym, subst, arith}
use Rattle.std.specs.Prelude.{ℤ, pos, negsuc, Option, Some, None}
use Rattle.std.proofs.lemmas.Nat.{pow_pos}
use Rattle.std.specs.List.{AllByRecursion}
use Rattle.sched_base.specs.KeyedList.{KeyedItem, IsRising}
use Rattle.eb_arena.specs.Parts.{Parts}
use Rattle.eb_arena.specs.Shape.{Tree, tip, fork, items, items_of, Keys, AllKeys, Split, DividesAt, Equals, IsRoot, HasShape, list_of}
use Rattle.eb_arena.proofs.Trees.{keys_map, lt_by_div}
use Rattle.eb_arena.proofs.Reading.{list_of_is}
use Rattle.eb_arena.proofs.Keyed.{all-append, all_items}

-- each key is at most all later ones
abbrev pub Rising : List KeyedItem → Type 0
Rising [] = Unit {0}
Rising (x ∷ xs) = AllKeys (λ k. x.key ≤ k) xs × Rising xs

-- each key of the first list is at most all keys of the second
abbrev pub AllUnder : List KeyedItem → List KeyedItem → Type 0
AllUnder [] ys = Unit {0}
AllUnder (x ∷ xs) ys = AllKeys (λ k. x.key ≤ k) ys × AllUnder xs ys

rising-append : (xs ys : List KeyedItem) → Rising xs → Rising ys → AllUnder xs ys → Rising (xs ++ ys)
rising-append [] ys h g u = g
rising-append (x ∷ xs) ys h g u = (all-append (λ k. x.key ≤ k) xs ys h.0 u.0, rising-append xs ys h.1 g u.1)

all_under : (xs ys : List KeyedItem) → AllKeys (λ m. AllKeys (λ k. m ≤ k) ys) xs → AllUnder xs ys
all_under [] ys h = tt
all_under (x ∷ xs) ys h = (h.0, all_under xs ys h.1)

sides_rise : (b : ℤ) (l r : Tree) (P : ℕ → Type 0) (Q : ℕ → Type 0) → Keys P l → Keys Q r → ((x y : ℕ) → P x → Q y → x ≤ y) → AllUnder (items l) (items r)
sides_rise b l r P Q h g f =
    all_under (items l) (items r) (all_items (λ m. AllKeys (λ k. m ≤ k) (items r)) l (keys_map P (λ m. AllKeys (λ k. m ≤ k) (items r)) l (λ x p. all_items (λ k. x ≤ k) r (keys_map Q (λ k. x ≤ k) r (λ y q. f x y p q) g)) h))

pub rising : (t : Tree) → Split t → Rising (items t)
rising (tip e k) s = (tt, tt)
rising (fork i (pos b) l r) s =
    let d : DividesAt b l r = s.2 in
    let u : AllUnder (items l) (items r) = sides_rise (pos b) l r (λ k. k / 2 ^ b ≡ 2 * d.q) (λ k. k / 2 ^ b ≡ 2 * d.q + 1) d.left d.right (λ x y p q. let z : x < y = lt_by_div x y (2 ^ b) (pow_pos b) (omega arith) in omega arith) in
    rising-append (items l) (items r) (rising l s.3) (rising r s.4) u
rising (fork i (negsuc n) l r) s =
    let d : Equals n l r = s.2 in
    let u : AllUnder (items l) (items r) = sides_rise (negsuc n) l r (λ k. k ≡ d.k) (λ k. k ≡ d.k) d.left d.right (λ x y p q. omega arith) in
    rising-append (items l) (items r) (rising l s.3) (rising r s.4) u

all_items_by : (k : ℕ) (xs : List KeyedItem) → AllKeys (λ m. k ≤ m) xs → AllByRecursion (λ y. k ≤ y.key) xs
all_items_by k [] h = tt
all_items_by k (x ∷ xs) h = (h.0, all_items_by k xs h.1)

is_rising : (xs : List KeyedItem) → Rising xs → IsRising xs
is_rising [] h = tt
is_rising (x ∷ xs) h = (all_items_by x.key xs h.0, is_rising xs h.1)

root_rises : (o : Option Tree) (a : Parts) (q : ℕ) → IsRoot a q o → Rising (items_of o)
root_rises None a q h = tt
root_rises (Some t) a q h = rising t h.1

pub ordered : (a : Parts) (q : ℕ) → HasShape a → q < length a.links → IsRising (list_of a q)
ordered a q h f =
    let r : Rising (list_of a q) = subst Rising (sym (list_of_is a q (h.0 q) (h.1.roots q f))) (root_rises (h.0 q) a q (h.1.roots q f)) in
    is_rising (list_of a q) r
