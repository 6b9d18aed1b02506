-- The halves of an arena, and the elements and roots that they hold.
use Rattle.std.proofs.Common.{◌≡◌, ◌≢◌, ℕ, zero, suc, ◌+◌, ◌-◌, ◌*◌, ◌/◌, ◌%◌, ◌<◌, ◌≤◌, ℤ, List, ◌∷◌, length, get_or, set, replicate, refl, sym, ap, ◌∙◌, arith, tests}
use Rattle.std.specs.Prelude.{if◌then◌else◌, nat_lt, Bool, true, false}
use Rattle.std.proofs.lemmas.List.{get_or_default, get_or-set_same, get_or-set_other, set-get_or, get_or-replicate, length-replicate, length-set}
use Rattle.eb_arena.specs.declared.links.Side.{Side}
use Rattle.eb_arena.specs.declared.links.Side.TheVariants as sides
use Rattle.eb_arena.specs.declared.links.Target.{Target}
use Rattle.eb_arena.specs.declared.links.Target.TheVariants as targets
use Rattle.eb_arena.specs.declared.links.Place.{Place}
use Rattle.eb_arena.specs.declared.links.Place.TheVariants as places
use Rattle.eb_arena.specs.declared.element.Element.{Element}
use Rattle.eb_arena.specs.declared.arena.Half.{Half}
use Rattle.eb_arena.specs.Links.{is_leaf, index_of, link_number, opposite, place_index, place_side, side_number, up_number}
use Rattle.eb_arena.specs.Parts.{Parts, child, element_at, link_at, unused, with_element, with_link, with_child, up_of, hung, linked}
use Rattle.eb_arena.specs.Halves.{from, half_at, no_half, mark_at, bit_of, count_of, element_of, root_of, parts_of, Fits}

length-from : {X : Type 0} (f : ℕ → X) (k n : ℕ) → length (from f k n) ≡ n
length-from f k zero = refl
length-from f k (suc n) = let e : length (from f (suc k) n) ≡ n = length-from f (suc k) n in ap (λ m. suc m) e

get_or-from : {X : Type 0} (f : ℕ → X) (k n i : ℕ) (d : X) → i < n → get_or (from f k n) i d ≡ f (k + i)
get_or-from f k zero i d h = absurd (omega (arith, h))
get_or-from f k (suc n) zero d h = ap f (omega arith)
get_or-from f k (suc n) (suc i) d h =
    let g : i < n = omega (arith, h) in
    let e : suc k + i ≡ k + suc i = omega arith in
    get_or-from f (suc k) n i d g ∙ ap f e

from-same : {X : Type 0} (f g : ℕ → X) (k n : ℕ) → ((j : ℕ) → k ≤ j → j < k + n → f j ≡ g j) → from f k n ≡ from g k n
from-same f g k zero h = refl
from-same f g k (suc n) h =
    let r : k ≤ k = omega arith in
    let b : k < k + suc n = omega arith in
    let e : f k ≡ g k = h k r b in
    let t : from f (suc k) n ≡ from g (suc k) n = from-same f g (suc k) n (λ j l m. h j (omega (arith, l)) (omega (arith, m))) in
    ap (λ x. x ∷ from f (suc k) n) e ∙ ap (λ xs. g k ∷ xs) t

-- where two functions differ at one number, their values differ at one place
from-set : {X : Type 0} (f g : ℕ → X) (k n i : ℕ) → i < n → ((j : ℕ) → j ≢ k + i → g j ≡ f j) → from g k n ≡ set (from f k n) i (g (k + i))
from-set f g k zero i l h = absurd (omega (arith, l))
from-set f g k (suc n) zero l h =
    let z : k ≡ k + zero = omega arith in
    let t : from g (suc k) n ≡ from f (suc k) n = from-same g f (suc k) n (λ j m o. h j (λ e. omega (arith, m, e))) in
    ap (λ j. g j ∷ from g (suc k) n) z ∙ ap (λ xs. g (k + zero) ∷ xs) t
from-set f g k (suc n) (suc i) l h =
    let b : i < n = omega (arith, l) in
    let e : suc k + i ≡ k + suc i = omega arith in
    let s : g k ≡ f k = h k (λ x. omega (arith, x)) in
    let t : from g (suc k) n ≡ set (from f (suc k) n) i (g (suc k + i)) = from-set f g (suc k) n i b (λ j m. h j (λ x. m (x ∙ sym e))) in
    ap (λ x. x ∷ from g (suc k) n) s ∙ (ap (λ xs. f k ∷ xs) t ∙ ap (λ j. f k ∷ set (from f (suc k) n) i (g j)) e)

from-constant : {X : Type 0} (f : ℕ → X) (x : X) (k n : ℕ) → ((j : ℕ) → j < k + n → f j ≡ x) → from f k n ≡ replicate n x
from-constant f x k zero h = refl
from-constant f x k (suc n) h =
    let b : k < k + suc n = omega arith in
    let e : f k ≡ x = h k b in
    let t : from f (suc k) n ≡ replicate n x = from-constant f x (suc k) n (λ j l. h j (omega (arith, l))) in
    ap (λ y. y ∷ from f (suc k) n) e ∙ ap (λ ys. x ∷ ys) t

-- an element out of its two halves, its key and its bit
abbrev joined : Half → Half → ℕ → ℤ → Element
joined x y k b = record { left = x.down; right = y.down; node_p = y.up; leaf_p = x.up; key = k; bit = b }

-- the same, with the key and the bit out of the marks of an index
abbrev marked : List ℕ → ℕ → Half → Half → Element
marked l i x y = joined x y (mark_at l (2 * i)) (bit_of (mark_at l (2 * i + 1)))

joined-same : (x y : Half) (k m : ℕ) (xx yy : Half) (kk mm : ℕ) → x ≡ xx → y ≡ yy → k ≡ kk → m ≡ mm → joined x y k (bit_of m) ≡ joined xx yy kk (bit_of mm)
joined-same x y k m xx yy kk mm p q s t = ap (λ w. joined w y k (bit_of m)) p ∙ (ap (λ w. joined xx w k (bit_of m)) q ∙ (ap (λ w. joined xx yy w (bit_of m)) s ∙ ap (λ w. joined xx yy kk (bit_of w)) t))

abbrev parts : List Element → List Target → Parts
parts es ks = record { elements = es; links = ks }

parts-same : (es fs : List Element) (ks ms : List Target) → es ≡ fs → ks ≡ ms → parts es ks ≡ parts fs ms
parts-same es fs ks ms p q = ap (λ x. parts x ks) p ∙ ap (λ x. parts fs x) q

-- there are twice as many marks as elements
pub counted : (h : List Half) (l : List ℕ) (r : ℕ) (a : Parts) → parts_of h l r ≡ a → count_of l ≡ length a.elements
counted h l r a v = sym (length-from (element_of h l) 0 (count_of l)) ∙ ap (λ (x : Parts). length x.elements) v

pub counted_roots : (h : List Half) (l : List ℕ) (r : ℕ) (a : Parts) → parts_of h l r ≡ a → r ≡ length a.links
counted_roots h l r a v = sym (length-from (root_of h (count_of l)) 0 r) ∙ ap (λ (x : Parts). length x.links) v

pub has_room : (h : List Half) (l : List ℕ) (r : ℕ) (a : Parts) → parts_of h l r ≡ a → Fits h l r → length a.links + length a.elements < 2147483647
has_room h l r a v f = omega (arith, counted h l r a v, counted_roots h l r a v, f.room)

-- an element's halves are there
pub half_fits : (h : List Half) (l : List ℕ) (r : ℕ) (a : Parts) (i n : ℕ) → parts_of h l r ≡ a → Fits h l r → i < length a.elements → n ≤ 2 * i + 1 → n < length h
half_fits h l r a i n v f b m = omega (arith, counted h l r a v, f.both, b, m)

-- an element's marks are there
pub mark_fits : (h : List Half) (l : List ℕ) (r : ℕ) (a : Parts) (i n : ℕ) → parts_of h l r ≡ a → Fits h l r → i < length a.elements → n ≤ 2 * i + 1 → n < length l
mark_fits h l r a i n v f b m = omega (arith, counted h l r a v, f.pairs, b, m)

-- a root's half is there
pub root_fits : (h : List Half) (l : List ℕ) (r : ℕ) (a : Parts) (q n : ℕ) → parts_of h l r ≡ a → Fits h l r → q < length a.links → n ≡ length l → n + 2 * q < length h
root_fits h l r a q n v f b e = omega (arith, counted_roots h l r a v, f.both, f.pairs, b, e)

-- the halves and the marks of an index are the element
read : (h : List Half) (l : List ℕ) (r : ℕ) (a : Parts) (i : ℕ) → parts_of h l r ≡ a → i < length a.elements → element_of h l i ≡ element_at a i
read h l r a i v b =
    let c : i < count_of l = omega (arith, counted h l r a v, b) in
    let z : 0 + i ≡ i = omega arith in
    sym (get_or-from (element_of h l) 0 (count_of l) i unused c ∙ ap (element_of h l) z) ∙ ap (λ (x : Parts). element_at x i) v

-- what was read at a half's number is the half
found : (h : List Half) (n : ℕ) (x : Half) → n < length h → x ≡ get_or h n x → x ≡ half_at h n
found h n x b e = e ∙ get_or_default h n x no_half b

-- what was read at a mark's number is the mark
mark_found : (l : List ℕ) (n k : ℕ) → n < length l → k ≡ get_or l n k → k ≡ mark_at l n
mark_found l n k b e = e ∙ get_or_default l n k 0 b

-- an element out of what was read of its halves and marks, one link at a time
pub assembled : (h : List Half) (l : List ℕ) (r : ℕ) (a : Parts) (i : ℕ) (x y u v : Half) (k m : ℕ) (b : ℤ) → parts_of h l r ≡ a → Fits h l r → i < length a.elements → x ≡ get_or h (2 * i) x → y ≡ get_or h (2 * i + 1) y → u ≡ get_or h (2 * i + 1) u → v ≡ get_or h (2 * i) v → k ≡ get_or l (2 * i) k → m ≡ get_or l (2 * i + 1) m → b ≡ bit_of m → record { left = x.down; right = y.down; node_p = u.up; leaf_p = v.up; key = k; bit = b } ≡ element_at a i
assembled h l r a i x y u v k m b w f c hx hy hu hv hk hm hb =
    let n0 : 2 * i < length h = half_fits h l r a i (2 * i) w f c (omega arith) in
    let n1 : 2 * i + 1 < length h = half_fits h l r a i (2 * i + 1) w f c (omega arith) in
    let m0 : 2 * i < length l = mark_fits h l r a i (2 * i) w f c (omega arith) in
    let m1 : 2 * i + 1 < length l = mark_fits h l r a i (2 * i + 1) w f c (omega arith) in
    let eu : u ≡ half_at h (2 * i + 1) = found h (2 * i + 1) u n1 hu in
    let ev : v ≡ half_at h (2 * i) = found h (2 * i) v n0 hv in
    ap (λ t. record { left = x.down; right = y.down; node_p = u.up; leaf_p = v.up; key = k; bit = t }) hb
    ∙ (ap (λ (t : Half). record { left = x.down; right = y.down; node_p = t.up; leaf_p = v.up; key = k; bit = bit_of m }) eu
    ∙ (ap (λ (t : Half). record { left = x.down; right = y.down; node_p = (half_at h (2 * i + 1)).up; leaf_p = t.up; key = k; bit = bit_of m }) ev
    ∙ (ap (λ (t : Half). record { left = t.down; right = y.down; node_p = (half_at h (2 * i + 1)).up; leaf_p = (half_at h (2 * i)).up; key = k; bit = bit_of m }) (found h (2 * i) x n0 hx)
    ∙ (ap (λ t. joined (half_at h (2 * i)) (record (half_at h (2 * i + 1)) { down = t }) k (bit_of m)) (ap (λ (t : Half). t.down) (found h (2 * i + 1) y n1 hy))
    ∙ (ap (λ t. joined (half_at h (2 * i)) (half_at h (2 * i + 1)) t (bit_of m)) (mark_found l (2 * i) k m0 hk)
    ∙ (ap (λ t. joined (half_at h (2 * i)) (half_at h (2 * i + 1)) (mark_at l (2 * i)) (bit_of t)) (mark_found l (2 * i + 1) m m1 hm)
    ∙ read h l r a i w c))))))

-- the halves and the marks of an index written anew
rewritten : (h : List Half) (l : List ℕ) (r : ℕ) (a : Parts) (i : ℕ) (x y : Half) (k m : ℕ) → parts_of h l r ≡ a → Fits h l r → i < length a.elements → parts_of (set (set h (2 * i) x) (2 * i + 1) y) (set (set l (2 * i) k) (2 * i + 1) m) r ≡ with_element a i (joined x y k (bit_of m))
rewritten h l r a i x y k m v f b =
    let il : i < count_of l = omega (arith, counted h l r a v, b) in
    let n0 : 2 * i < length h = half_fits h l r a i (2 * i) v f b (omega arith) in
    let m0 : 2 * i < length l = mark_fits h l r a i (2 * i) v f b (omega arith) in
    let g : List Half = set h (2 * i) x in
    let hh : List Half = set g (2 * i + 1) y in
    let gl : List ℕ = set l (2 * i) k in
    let ll : List ℕ = set gl (2 * i + 1) m in
    let n1 : 2 * i + 1 < length g = omega (arith, length-set h (2 * i) x, half_fits h l r a i (2 * i + 1) v f b (omega arith)) in
    let m1 : 2 * i + 1 < length gl = omega (arith, length-set l (2 * i) k, mark_fits h l r a i (2 * i + 1) v f b (omega arith)) in
    let c : count_of ll ≡ count_of l = ap (λ n. n / 2) (length-set gl (2 * i + 1) m ∙ length-set l (2 * i) k) in
    let o : 0 + i ≡ i = omega arith in
    let kept : (n : ℕ) → n ≢ 2 * i → n ≢ 2 * i + 1 → half_at hh n ≡ half_at h n = λ n p q. get_or-set_other g (2 * i + 1) n y no_half q ∙ get_or-set_other h (2 * i) n x no_half p in
    let stays : (n : ℕ) → n ≢ 2 * i → n ≢ 2 * i + 1 → mark_at ll n ≡ mark_at l n = λ n p q. get_or-set_other gl (2 * i + 1) n m 0 q ∙ get_or-set_other l (2 * i) n k 0 p in
    let first : half_at hh (2 * i) ≡ x = get_or-set_other g (2 * i + 1) (2 * i) y no_half (λ e. omega (arith, e)) ∙ get_or-set_same h (2 * i) x no_half n0 in
    let second : half_at hh (2 * i + 1) ≡ y = get_or-set_same g (2 * i + 1) y no_half n1 in
    let key : mark_at ll (2 * i) ≡ k = get_or-set_other gl (2 * i + 1) (2 * i) m 0 (λ e. omega (arith, e)) ∙ get_or-set_same l (2 * i) k 0 m0 in
    let bit : mark_at ll (2 * i + 1) ≡ m = get_or-set_same gl (2 * i + 1) m 0 m1 in
    let at : element_of hh ll i ≡ joined x y k (bit_of m) =
    joined-same (half_at hh (2 * i)) (half_at hh (2 * i + 1)) (mark_at ll (2 * i)) (mark_at ll (2 * i + 1)) x y k m first second key bit in
    let others : from (element_of hh ll) 0 (count_of l) ≡ set (from (element_of h l) 0 (count_of l)) i (element_of hh ll (0 + i)) =
    from-set (element_of h l) (element_of hh ll) 0 (count_of l) i il (λ j n.
    let s : j ≢ i = λ e. n (e ∙ sym o) in
    let p : 2 * j ≢ 2 * i = λ e. s (omega (arith, e)) in
    let q : 2 * j ≢ 2 * i + 1 = λ e. omega (arith, e) in
    let u : 2 * j + 1 ≢ 2 * i = λ e. omega (arith, e) in
    let w : 2 * j + 1 ≢ 2 * i + 1 = λ e. s (omega (arith, e)) in
    joined-same (half_at hh (2 * j)) (half_at hh (2 * j + 1)) (mark_at ll (2 * j)) (mark_at ll (2 * j + 1)) (half_at h (2 * j)) (half_at h (2 * j + 1)) (mark_at l (2 * j)) (mark_at l (2 * j + 1)) (kept (2 * j) p q) (kept (2 * j + 1) u w) (stays (2 * j) p q) (stays (2 * j + 1) u w)) in
    let es : from (element_of hh ll) 0 (count_of ll) ≡ set (from (element_of h l) 0 (count_of l)) i (joined x y k (bit_of m)) =
    ap (λ n. from (element_of hh ll) 0 n) c ∙ (others ∙ ap (λ e. set (from (element_of h l) 0 (count_of l)) i e) (ap (element_of hh ll) o ∙ at)) in
    let ks : from (root_of hh (count_of ll)) 0 r ≡ from (root_of h (count_of l)) 0 r =
    ap (λ n. from (root_of hh n) 0 r) c
    ∙ from-same (root_of hh (count_of l)) (root_of h (count_of l)) 0 r (λ q n t. ap (λ (w : Half). w.down) (kept (2 * (count_of l + q)) (λ e. omega (arith, e, il)) (λ e. omega (arith, e, il)))) in
    parts-same (from (element_of hh ll) 0 (count_of ll)) (set (from (element_of h l) 0 (count_of l)) i (joined x y k (bit_of m))) (from (root_of hh (count_of ll)) 0 r) (from (root_of h (count_of l)) 0 r) es ks
    ∙ ap (λ w. with_element w i (joined x y k (bit_of m))) v

-- all of an element written but its key, which stays
pub written : (h : List Half) (l : List ℕ) (r : ℕ) (a : Parts) (i : ℕ) (e : Element) (m : ℕ) → parts_of h l r ≡ a → Fits h l r → i < length a.elements → e.key ≡ (element_at a i).key → bit_of m ≡ e.bit → parts_of (set (set h (2 * i) (record { down = e.left; up = e.leaf_p })) (2 * i + 1) (record { down = e.right; up = e.node_p })) (set l (2 * i + 1) m) r ≡ with_element a i e
written h l r a i e m v f c k g =
    let x : Half = record { down = e.left; up = e.leaf_p } in
    let y : Half = record { down = e.right; up = e.node_p } in
    let key : mark_at l (2 * i) ≡ e.key = ap (λ (w : Element). w.key) (read h l r a i v c) ∙ sym k in
    ap (λ w. parts_of (set (set h (2 * i) x) (2 * i + 1) y) (set w (2 * i + 1) m) r) (sym (set-get_or l (2 * i) 0))
    ∙ (rewritten h l r a i x y (mark_at l (2 * i)) m v f c
    ∙ (ap (λ w. with_element a i (joined x y (mark_at l (2 * i)) w)) g
    ∙ ap (λ w. with_element a i (joined x y w e.bit)) key))

-- an element out of its links, its key and its bit
abbrev linked_up : Target → Target → Place → Place → ℕ → ℤ → Element
linked_up l r n p k b = record { left = l; right = r; node_p = n; leaf_p = p; key = k; bit = b }

-- an element is the same by any numbers of the same links
pub same_links : (l r m s : Target) (n p o q : Place) (k : ℕ) (b : ℤ) → l ≡ m → r ≡ s → n ≡ o → p ≡ q → linked_up l r n p k b ≡ linked_up m s o q k b
same_links l r m s n p o q k b el er en ep =
    ap (λ x. linked_up x r n p k b) el ∙ (ap (λ x. linked_up m x n p k b) er ∙ (ap (λ x. linked_up m s x p k b) en ∙ ap (λ x. linked_up m s o x k b) ep))

-- both halves of an index written with these links
abbrev with_halves : List Half → ℕ → Target → Place → Target → Place → List Half
with_halves h i l p r n = set (set h (2 * i) (record { down = l; up = p })) (2 * i + 1) (record { down = r; up = n })

-- what is written is the same by any numbers of the same links
pub same_halves : (h : List Half) (z : List ℕ) (roots i : ℕ) (l r m s : Target) (n p o q : Place) → l ≡ m → r ≡ s → n ≡ o → p ≡ q → parts_of (with_halves h i l p r n) z roots ≡ parts_of (with_halves h i m q s o) z roots
same_halves h z roots i l r m s n p o q el er en ep =
    ap (λ x. parts_of (with_halves h i x p r n) z roots) el
    ∙ (ap (λ x. parts_of (with_halves h i m p x n) z roots) er
    ∙ (ap (λ x. parts_of (with_halves h i m p s x) z roots) en
    ∙ ap (λ x. parts_of (with_halves h i m x s o) z roots) ep))

-- the marks of an index written as they are
same_marks : (l : List ℕ) (i : ℕ) → set (set l (2 * i) (mark_at l (2 * i))) (2 * i + 1) (mark_at l (2 * i + 1)) ≡ l
same_marks l i = ap (λ w. set w (2 * i + 1) (mark_at l (2 * i + 1))) (set-get_or l (2 * i) 0) ∙ set-get_or l (2 * i + 1) 0

-- the first half of an index written
first_put : (h : List Half) (l : List ℕ) (r : ℕ) (a : Parts) (i : ℕ) (x : Half) → parts_of h l r ≡ a → Fits h l r → i < length a.elements → parts_of (set h (2 * i) x) l r ≡ with_element a i (marked l i x (half_at h (2 * i + 1)))
first_put h l r a i x v f b =
    let y : Half = half_at h (2 * i + 1) in
    let g : List Half = set h (2 * i) x in
    let o : half_at g (2 * i + 1) ≡ y = get_or-set_other h (2 * i) (2 * i + 1) x no_half (λ e. omega (arith, e)) in
    let s : set g (2 * i + 1) y ≡ g = ap (λ w. set g (2 * i + 1) w) (sym o) ∙ set-get_or g (2 * i + 1) no_half in
    ap (λ w. parts_of w l r) (sym s)
    ∙ (ap (λ w. parts_of (set g (2 * i + 1) y) w r) (sym (same_marks l i))
    ∙ rewritten h l r a i x y (mark_at l (2 * i)) (mark_at l (2 * i + 1)) v f b)

-- the second half of an index written
second_put : (h : List Half) (l : List ℕ) (r : ℕ) (a : Parts) (i : ℕ) (y : Half) → parts_of h l r ≡ a → Fits h l r → i < length a.elements → parts_of (set h (2 * i + 1) y) l r ≡ with_element a i (marked l i (half_at h (2 * i)) y)
second_put h l r a i y v f b =
    let x : Half = half_at h (2 * i) in
    ap (λ w. parts_of (set w (2 * i + 1) y) l r) (sym (set-get_or h (2 * i) no_half))
    ∙ (ap (λ w. parts_of (set (set h (2 * i) x) (2 * i + 1) y) w r) (sym (same_marks l i))
    ∙ rewritten h l r a i x y (mark_at l (2 * i)) (mark_at l (2 * i + 1)) v f b)

-- the half of a root written
root_written : (h : List Half) (l : List ℕ) (r : ℕ) (a : Parts) (q : ℕ) (x : Half) → parts_of h l r ≡ a → Fits h l r → q < length a.links → parts_of (set h (2 * (count_of l + q)) x) l r ≡ with_link a q x.down
root_written h l r a q x v f b =
    let n : ℕ = count_of l in
    let hh : List Half = set h (2 * (n + q)) x in
    let rl : q < r = omega (arith, counted_roots h l r a v, b) in
    let d : 2 * (n + q) < length h = omega (arith, rl, f.both) in
    let o : 0 + q ≡ q = omega arith in
    let es : from (element_of hh l) 0 n ≡ from (element_of h l) 0 n =
    from-same (element_of hh l) (element_of h l) 0 n (λ j m k.
    joined-same (half_at hh (2 * j)) (half_at hh (2 * j + 1)) (mark_at l (2 * j)) (mark_at l (2 * j + 1)) (half_at h (2 * j)) (half_at h (2 * j + 1)) (mark_at l (2 * j)) (mark_at l (2 * j + 1)) (get_or-set_other h (2 * (n + q)) (2 * j) x no_half (λ e. omega (arith, e, k))) (get_or-set_other h (2 * (n + q)) (2 * j + 1) x no_half (λ e. omega (arith, e, k))) refl refl) in
    let at : root_of hh n (0 + q) ≡ x.down = ap (root_of hh n) o ∙ ap (λ (w : Half). w.down) (get_or-set_same h (2 * (n + q)) x no_half d) in
    let others : from (root_of hh n) 0 r ≡ set (from (root_of h n) 0 r) q (root_of hh n (0 + q)) =
    from-set (root_of h n) (root_of hh n) 0 r q rl (λ j m. ap (λ (w : Half). w.down) (get_or-set_other h (2 * (n + q)) (2 * (n + j)) x no_half (λ e. m (omega (arith, e))))) in
    let ks : from (root_of hh n) 0 r ≡ set (from (root_of h n) 0 r) q x.down = others ∙ ap (λ t. set (from (root_of h n) 0 r) q t) at in
    parts-same (from (element_of hh l) 0 n) (from (element_of h l) 0 n) (from (root_of hh n) 0 r) (set (from (root_of h n) 0 r) q x.down) es ks ∙ ap (λ w. with_link w q x.down) v

-- what hangs on a root, as read
pub root_read : (h : List Half) (l : List ℕ) (r : ℕ) (a : Parts) (q n : ℕ) (x : Half) → parts_of h l r ≡ a → Fits h l r → q < length a.links → n ≡ length l → x ≡ get_or h (n + 2 * q) x → x.down ≡ link_at a q
root_read h l r a q n x v f b e g =
    let d : n + 2 * q < length h = root_fits h l r a q n v f b e in
    let c : q < r = omega (arith, counted_roots h l r a v, b) in
    let o : 0 + q ≡ q = omega arith in
    let z : n + 2 * q ≡ 2 * (count_of l + q) = omega (arith, e, f.pairs) in
    ap (λ (w : Half). w.down) (found h (n + 2 * q) x d g ∙ ap (half_at h) z)
    ∙ (sym (get_or-from (root_of h (count_of l)) 0 r q targets.Nothing c ∙ ap (root_of h (count_of l)) o) ∙ ap (λ (w : Parts). link_at w q) v)

-- another part on a root
pub root_put : (h : List Half) (l : List ℕ) (r : ℕ) (a : Parts) (q n : ℕ) (x : Half) → parts_of h l r ≡ a → Fits h l r → q < length a.links → n ≡ length l → parts_of (set h (n + 2 * q) x) l r ≡ with_link a q x.down
root_put h l r a q n x v f b e =
    let z : n + 2 * q ≡ 2 * (count_of l + q) = omega (arith, e, f.pairs) in
    ap (λ m. parts_of (set h m x) l r) z ∙ root_written h l r a q x v f b

-- another key
pub key_put : (h : List Half) (l : List ℕ) (r : ℕ) (a : Parts) (i k : ℕ) → parts_of h l r ≡ a → Fits h l r → i < length a.elements → parts_of h (set l (2 * i) k) r ≡ with_element a i (record (element_at a i) { key = k })
key_put h l r a i k v f b =
    let x : Half = half_at h (2 * i) in
    let y : Half = half_at h (2 * i + 1) in
    let m : ℕ = mark_at l (2 * i + 1) in
    let g : List ℕ = set l (2 * i) k in
    let s : set (set h (2 * i) x) (2 * i + 1) y ≡ h = ap (λ w. set w (2 * i + 1) y) (set-get_or h (2 * i) no_half) ∙ set-get_or h (2 * i + 1) no_half in
    let o : mark_at g (2 * i + 1) ≡ m = get_or-set_other l (2 * i) (2 * i + 1) k 0 (λ e. omega (arith, e)) in
    let t : set g (2 * i + 1) m ≡ g = ap (λ w. set g (2 * i + 1) w) (sym o) ∙ set-get_or g (2 * i + 1) 0 in
    ap (λ w. parts_of w g r) (sym s)
    ∙ (ap (λ w. parts_of (set (set h (2 * i) x) (2 * i + 1) y) w r) (sym t)
    ∙ (rewritten h l r a i x y k m v f b
    ∙ ap (λ w. with_element a i w) (ap (λ (w : Element). record w { key = k }) (read h l r a i v b))))

-- a part's number is the number of a half
pub part_fits : (h : List Half) (l : List ℕ) (r : ℕ) (a : Parts) (t : Target) (n : ℕ) → parts_of h l r ≡ a → Fits h l r → t ≢ targets.Nothing → index_of t < length a.elements → n ≡ link_number t → n < length h
part_fits h l r a targets.Nothing n v f s b e = absurd (s refl)
part_fits h l r a (targets.Leaf i) n v f s b e = half_fits h l r a i n v f b (omega (arith, e))
part_fits h l r a (targets.Node i) n v f s b e = half_fits h l r a i n v f b (omega (arith, e))

-- a half says where the part with its number hangs
pub hangs_at : (h : List Half) (l : List ℕ) (r : ℕ) (a : Parts) (t : Target) (n : ℕ) (x : Half) → parts_of h l r ≡ a → Fits h l r → t ≢ targets.Nothing → index_of t < length a.elements → n ≡ link_number t → x ≡ get_or h n x → x.up ≡ up_of a t
hangs_at h l r a targets.Nothing n x v f s b e g = absurd (s refl)
hangs_at h l r a (targets.Leaf i) n x v f s b e g =
    ap (λ (w : Half). w.up) (found h n x (part_fits h l r a (targets.Leaf i) n v f s b e) g ∙ ap (half_at h) e) ∙ ap (λ (w : Element). w.leaf_p) (read h l r a i v b)
hangs_at h l r a (targets.Node i) n x v f s b e g =
    ap (λ (w : Half). w.up) (found h n x (part_fits h l r a (targets.Node i) n v f s b e) g ∙ ap (half_at h) e) ∙ ap (λ (w : Element). w.node_p) (read h l r a i v b)

-- one part hung elsewhere
pub part_hung : (h : List Half) (l : List ℕ) (r : ℕ) (a : Parts) (t : Target) (n : ℕ) (x : Half) (p : Place) → parts_of h l r ≡ a → Fits h l r → t ≢ targets.Nothing → index_of t < length a.elements → n ≡ link_number t → x ≡ get_or h n x → parts_of (set h n (record { down = x.down; up = p })) l r ≡ hung a t p
part_hung h l r a targets.Nothing n x p v f s b e g = absurd (s refl)
part_hung h l r a (targets.Leaf i) n x p v f s b e g =
    let w : x ≡ half_at h (2 * i) = found h n x (part_fits h l r a (targets.Leaf i) n v f s b e) g ∙ ap (half_at h) e in
    ap (λ m. parts_of (set h m (record x { up = p })) l r) e
    ∙ (first_put h l r a i (record x { up = p }) v f b
    ∙ ap (λ y. with_element a i y) (ap (λ (y : Half). marked l i (record y { up = p }) (half_at h (2 * i + 1))) w ∙ ap (λ (y : Element). record y { leaf_p = p }) (read h l r a i v b)))
part_hung h l r a (targets.Node i) n x p v f s b e g =
    let w : x ≡ half_at h (2 * i + 1) = found h n x (part_fits h l r a (targets.Node i) n v f s b e) g ∙ ap (half_at h) e in
    ap (λ m. parts_of (set h m (record x { up = p })) l r) e
    ∙ (second_put h l r a i (record x { up = p }) v f b
    ∙ ap (λ y. with_element a i y) (ap (λ (y : Half). marked l i (half_at h (2 * i)) (record y { up = p })) w ∙ ap (λ (y : Element). record y { node_p = p }) (read h l r a i v b)))

-- the number of a node's side is the number of a half
pub side_fits : (h : List Half) (l : List ℕ) (r : ℕ) (a : Parts) (i : ℕ) (s : Side) (n : ℕ) → parts_of h l r ≡ a → Fits h l r → i < length a.elements → n ≡ 2 * i + side_number s → n < length h
side_fits h l r a i sides.Left n v f b e = half_fits h l r a i n v f b (omega (arith, e))
side_fits h l r a i sides.Right n v f b e = half_fits h l r a i n v f b (omega (arith, e))

-- a half says what hangs at the side with its number
pub side_read : (h : List Half) (l : List ℕ) (r : ℕ) (a : Parts) (i : ℕ) (s : Side) (n : ℕ) (x : Half) → parts_of h l r ≡ a → Fits h l r → i < length a.elements → n ≡ 2 * i + side_number s → x ≡ get_or h n x → x.down ≡ child s (element_at a i)
side_read h l r a i sides.Left n x v f b e g =
    let z : n ≡ 2 * i = omega (arith, e) in
    ap (λ (w : Half). w.down) (found h n x (side_fits h l r a i sides.Left n v f b e) g ∙ ap (half_at h) z) ∙ ap (λ (w : Element). w.left) (read h l r a i v b)
side_read h l r a i sides.Right n x v f b e g =
    ap (λ (w : Half). w.down) (found h n x (side_fits h l r a i sides.Right n v f b e) g ∙ ap (half_at h) e) ∙ ap (λ (w : Element). w.right) (read h l r a i v b)

-- another part at a side
side_put : (h : List Half) (l : List ℕ) (r : ℕ) (a : Parts) (i : ℕ) (s : Side) (n : ℕ) (x : Half) (t : Target) → parts_of h l r ≡ a → Fits h l r → i < length a.elements → n ≡ 2 * i + side_number s → x ≡ get_or h n x → parts_of (set h n (record { down = t; up = x.up })) l r ≡ with_element a i (with_child s t (element_at a i))
side_put h l r a i sides.Left n x t v f b e g =
    let z : n ≡ 2 * i = omega (arith, e) in
    let w : x ≡ half_at h (2 * i) = found h n x (side_fits h l r a i sides.Left n v f b e) g ∙ ap (half_at h) z in
    ap (λ m. parts_of (set h m (record x { down = t })) l r) z
    ∙ (first_put h l r a i (record x { down = t }) v f b
    ∙ ap (λ y. with_element a i y) (ap (λ (y : Half). marked l i (record y { down = t }) (half_at h (2 * i + 1))) w ∙ ap (λ (y : Element). record y { left = t }) (read h l r a i v b)))
side_put h l r a i sides.Right n x t v f b e g =
    let w : x ≡ half_at h (2 * i + 1) = found h n x (side_fits h l r a i sides.Right n v f b e) g ∙ ap (half_at h) e in
    ap (λ m. parts_of (set h m (record x { down = t })) l r) e
    ∙ (second_put h l r a i (record x { down = t }) v f b
    ∙ ap (λ y. with_element a i y) (ap (λ (y : Half). marked l i (half_at h (2 * i)) (record y { down = t })) w ∙ ap (λ (y : Element). record y { right = t }) (read h l r a i v b)))

-- the number of a place at a node or on a root is the number of a half
pub place_fits : (h : List Half) (l : List ℕ) (r : ℕ) (a : Parts) (p : Place) (n : ℕ) → parts_of h l r ≡ a → Fits h l r → p ≢ places.Nowhere → place_index p < length a.elements + length a.links → n ≡ up_number p → n < length h
place_fits h l r a places.Nowhere n v f s b e = absurd (s refl)
place_fits h l r a (places.Under i sides.Left) n v f s b e = omega (arith, counted h l r a v, counted_roots h l r a v, f.both, b, e)
place_fits h l r a (places.Under i sides.Right) n v f s b e = omega (arith, counted h l r a v, counted_roots h l r a v, f.both, b, e)

-- another part at a place, by whether it is at a node
put_by_test : (h : List Half) (l : List ℕ) (r : ℕ) (a : Parts) (i : ℕ) (s : Side) (n : ℕ) (x : Half) (t : Target) (c : Bool) → nat_lt i (length a.elements) ≡ c → parts_of h l r ≡ a → Fits h l r → i < length a.elements + length a.links → (length a.elements ≤ i → s ≡ sides.Left) → n ≡ 2 * i + side_number s → x ≡ get_or h n x → parts_of (set h n (record { down = t; up = x.up })) l r ≡ if c then with_element a i (with_child s t (element_at a i)) else with_link a (i - length a.elements) t
put_by_test h l r a i s n x t true k v f b o e g =
    let c : i < length a.elements = grind (arith, tests, k) in
    side_put h l r a i s n x t v f c e g
put_by_test h l r a i sides.Right n x t false k v f b o e g =
    let c : length a.elements ≤ i = grind (arith, tests, k) in
    let z : sides.Right ≡ sides.Left = o c in
    cc
put_by_test h l r a i sides.Left n x t false k v f b o e g =
    let c : length a.elements ≤ i = grind (arith, tests, k) in
    let q : i - length a.elements < length a.links = omega (arith, b, c) in
    let z : n ≡ 2 * (count_of l + (i - length a.elements)) = omega (arith, e, c, counted h l r a v) in
    ap (λ m. parts_of (set h m (record x { down = t })) l r) z ∙ root_written h l r a (i - length a.elements) (record x { down = t }) v f q

-- another part at a place of a node or a root
pub place_put : (h : List Half) (l : List ℕ) (r : ℕ) (a : Parts) (p : Place) (n : ℕ) (x : Half) (t : Target) → parts_of h l r ≡ a → Fits h l r → p ≢ places.Nowhere → place_index p < length a.elements + length a.links → (length a.elements ≤ place_index p → place_side p ≡ sides.Left) → n ≡ up_number p → x ≡ get_or h n x → parts_of (set h n (record { down = t; up = x.up })) l r ≡ linked a p t
place_put h l r a places.Nowhere n x t v f s b o e g = absurd (s refl)
place_put h l r a (places.Under i s) n x t v f q b o e g = put_by_test h l r a i s n x t (nat_lt i (length a.elements)) refl v f b o e g

-- whether a place is at a node, by its number
pub at_node : (p : Place) (n k m : ℕ) → p ≢ places.Nowhere → n ≡ up_number p → k ≡ 2 * m → nat_lt n k ≡ nat_lt (place_index p) m
at_node places.Nowhere n k m s e f = absurd (s refl)
at_node (places.Under i sides.Left) n k m s e f = grind (arith, tests)
at_node (places.Under i sides.Right) n k m s e f = grind (arith, tests)

-- the number of the left side of a link's node
pub left_number : (t : Target) (n : ℕ) → t ≢ targets.Nothing → is_leaf t ≡ false → n ≡ link_number t → n - 1 ≡ 2 * index_of t + side_number sides.Left
left_number targets.Nothing n k g e = absurd (k refl)
left_number (targets.Leaf i) n k g e = cc
left_number (targets.Node i) n k g e = omega (arith, e)

-- the number of the right side of a link's node
pub right_number : (t : Target) (n : ℕ) → t ≢ targets.Nothing → is_leaf t ≡ false → n ≡ link_number t → n ≡ 2 * index_of t + side_number sides.Right
right_number targets.Nothing n k g e = absurd (k refl)
right_number (targets.Leaf i) n k g e = cc
right_number (targets.Node i) n k g e = omega (arith, e)

-- the number of a link to a node
pub node_number : (t : Target) (n : ℕ) → t ≢ targets.Nothing → is_leaf t ≡ false → n ≡ link_number t → n ≡ 2 * index_of t + 1
node_number targets.Nothing n k g e = absurd (k refl)
node_number (targets.Leaf i) n k g e = cc
node_number (targets.Node i) n k g e = omega (arith, e)

-- a node's element out of what was read by the number of its link, one link at a time
pub node_read : (h : List Half) (l : List ℕ) (r : ℕ) (a : Parts) (i n : ℕ) (x y u v : Half) (k m : ℕ) (b : ℤ) → parts_of h l r ≡ a → Fits h l r → i < length a.elements → n ≡ 2 * i + 1 → x ≡ get_or h (n - 1) x → y ≡ get_or h n y → u ≡ get_or h n u → v ≡ get_or h (n - 1) v → k ≡ get_or l (n - 1) k → m ≡ get_or l n m → b ≡ bit_of m → record { left = x.down; right = y.down; node_p = u.up; leaf_p = v.up; key = k; bit = b } ≡ element_at a i
node_read h l r a i n x y u v k m b w f c e hx hy hu hv hk hm hb =
    let z : n - 1 ≡ 2 * i = omega (arith, e) in
    assembled h l r a i x y u v k m b w f c (hx ∙ ap (λ j. get_or h j x) z) (hy ∙ ap (λ j. get_or h j y) e) (hu ∙ ap (λ j. get_or h j u) e) (hv ∙ ap (λ j. get_or h j v) z) (hk ∙ ap (λ j. get_or l j k) z) (hm ∙ ap (λ j. get_or l j m) e) hb

-- the number of the side beside a place
pub beside_number : (p : Place) (n : ℕ) → p ≢ places.Nowhere → n ≡ up_number p → n / 2 * 2 + (1 - n % 2) ≡ 2 * place_index p + side_number (opposite (place_side p))
beside_number places.Nowhere n s e = absurd (s refl)
beside_number (places.Under i sides.Left) n s e = omega (arith, e)
beside_number (places.Under i sides.Right) n s e = omega (arith, e)

-- the number of the node that a place is at
pub above_number : (p : Place) (n : ℕ) → p ≢ places.Nowhere → n ≡ up_number p → n / 2 * 2 + 1 ≡ link_number (targets.Node (place_index p))
above_number places.Nowhere n s e = absurd (s refl)
above_number (places.Under i sides.Left) n s e = omega (arith, e)
above_number (places.Under i sides.Right) n s e = omega (arith, e)

-- the halves and marks of an arena whose entries are in no tree
made : (n r : ℕ) → parts_of (replicate (2 * (r + n)) no_half) (replicate (2 * n) 0) r ≡ record { elements = replicate n unused; links = replicate r targets.Nothing }
made n r =
    let h : List Half = replicate (2 * (r + n)) no_half in
    let l : List ℕ = replicate (2 * n) 0 in
    let none : ℕ = 0 in
    let d : length l ≡ 2 * n = length-replicate (2 * n) none in
    let c : count_of l ≡ n = omega (arith, d) in
    let at : (m : ℕ) → m < 2 * (r + n) → half_at h m ≡ no_half = λ m b. get_or-replicate (2 * (r + n)) m no_half no_half b in
    let zero_at : (m : ℕ) → m < 2 * n → mark_at l m ≡ 0 = λ m b. get_or-replicate (2 * n) m 0 0 b in
    let es : from (element_of h l) 0 n ≡ replicate n unused =
    from-constant (element_of h l) unused 0 n (λ j b.
    joined-same (half_at h (2 * j)) (half_at h (2 * j + 1)) (mark_at l (2 * j)) (mark_at l (2 * j + 1)) no_half no_half 0 0 (at (2 * j) (omega (arith, b))) (at (2 * j + 1) (omega (arith, b))) (zero_at (2 * j) (omega (arith, b))) (zero_at (2 * j + 1) (omega (arith, b)))) in
    let ks : from (root_of h n) 0 r ≡ replicate r targets.Nothing = from-constant (root_of h n) targets.Nothing 0 r (λ q b. ap (λ (w : Half). w.down) (at (2 * (n + q)) (omega (arith, b)))) in
    parts-same (from (element_of h l) 0 (count_of l)) (replicate n unused) (from (root_of h (count_of l)) 0 r) (replicate r targets.Nothing) (ap (λ m. from (element_of h l) 0 m) c ∙ es) (ap (λ m. from (root_of h m) 0 r) c ∙ ks)

pub made_of : (h : List Half) (l : List ℕ) (n r : ℕ) → h ≡ replicate (2 * (r + n)) no_half → l ≡ replicate (2 * n) 0 → parts_of h l r ≡ record { elements = replicate n unused; links = replicate r targets.Nothing }
made_of h l n r hh hl = ap (λ x. parts_of x l r) hh ∙ (ap (λ x. parts_of (replicate (2 * (r + n)) no_half) x r) hl ∙ made n r)
