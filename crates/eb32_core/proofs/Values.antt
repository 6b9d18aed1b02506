-- Spine values, key by key, of trees that change in one part.
use Rattle.std.proofs.Common.{◌≡◌, ◌≢◌, ℕ, suc, ◌+◌, ◌^◌, ◌<◌, ◌≤◌, Bool, true, false, cond, eqb, List, [], ◌∷◌, ◌++◌, length, refl, sym, ap, ◌∙◌, subst, arith, eq-eqb, ne_eqb, inl, inr}
use Rattle.std.specs.Prelude.{ℤ, pos, negsuc, ◌||◌, Option, Some, None}
use Rattle.std.specs.List.{list_any}
use Rattle.std.proofs.lemmas.Bool.{cases_Bool, cases_eq, false≢true}
use Rattle.std.proofs.lemmas.List.Folds.{list_any-append}
use Rattle.std.proofs.lemmas.Nat.{pow_pos}
use Rattle.sched_base.specs.KeyedList.{KeyedItem}
use Rattle.eb_arena.specs.declared.links.Side.{Side}
use Rattle.eb_arena.specs.declared.links.Side.TheVariants as sides
use Rattle.eb_arena.specs.Shape.{Tree, tip, fork, items, items_of, Keys, AllKeys, IsBit, IsBelow, Split}
use Rattle.eb_arena.specs.Way.{Step, from_left, from_right, plug}
use Rattle.eb_arena.proofs.Trees.{tree_rank, bit_rank, falls_left, falls_right}
use Rattle.eb_arena.proofs.Ways.{part_split}
use Rattle.eb32_walk.specs.Search.{Fits}
use Rattle.eb_dups.specs.Grown.{grown}
use Rattle.eb_dups.specs.Spine.{IsTwins, IsWhole, spine_value, spine_length, first_key, spine_of}
use Rattle.eb_dups.proofs.Added.{pow_le}
use Rattle.eb32_core.specs.Planted.{spine_in, SpinesIn, has_key, Rises}
use Rattle.eb32_core.specs.Removal.{paired}

-- ---- one tree

pub first_key_keys : (P : ℕ → Type 0) (t : Tree) → Keys P t → P (first_key t)
first_key_keys P (tip e k) h = h
first_key_keys P (fork i b l r) h = first_key_keys P l h.0

pub below_twins : (n : ℕ) (t : Tree) → IsBelow n t → IsTwins t
below_twins n (tip e k) h = tt
below_twins n (fork i (pos b) l r) h = h
below_twins n (fork i (negsuc m) l r) h = tt

cond_same : (b : Bool) (x : ℕ) → x ≡ cond b x x
cond_same true x = refl
cond_same false x = refl

cond_le : (b : Bool) (x y : ℕ) → x ≤ y → cond b x 0 ≤ cond b y 0
cond_le true x y h = h
cond_le false x y h = omega arith

-- a tree of equal keys has its own spine value under its key, and none under others
pub twin_value : (key : ℕ) (t : Tree) → IsTwins t → spine_of key t ≡ cond (eqb (first_key t) key) (spine_value t) 0
twin_value key (tip e k) h = cond_same (eqb k key) 0
twin_value key (fork i (pos b) l r) h = absurd h
twin_value key (fork i (negsuc n) l r) h = refl

pub value_of_key : (key : ℕ) (t : Tree) → IsTwins t → Keys (λ x. x ≡ key) t → spine_of key t ≡ spine_value t
value_of_key key t h k = twin_value key t h ∙ ap (λ b. cond b (spine_value t) 0) (eq-eqb (first_key t) key (first_key_keys (λ x. x ≡ key) t k))

pub value_of_other : (key other : ℕ) (t : Tree) → IsTwins t → Keys (λ x. x ≡ key) t → (other ≡ key → ⊥) → spine_of other t ≡ 0
value_of_other key other t h k n =
    let e : first_key t ≡ key = first_key_keys (λ x. x ≡ key) t k in
    twin_value other t h ∙ ap (λ b. cond b (spine_value t) 0) (ne_eqb (first_key t) other (λ x. n (sym x ∙ e)))

-- the value of a tree's own spine is at most that of its key
pub own_value : (t : Tree) → spine_value t ≤ spine_of (first_key t) t
own_value (tip e k) = omega arith
own_value (fork i (pos b) l r) = omega arith
own_value (fork i (negsuc n) l r) = rw (eq-eqb (first_key l) (first_key l) refl) (let x : 2 ^ n + spine_value r ≤ 2 ^ n + spine_value r = omega arith in x)

-- ---- above bits of the keys

whole_up : (i b : ℕ) (w : List Step) (l r : Tree) → Split (plug w (fork i (pos b) l r)) → IsWhole w
whole_up i b [] l r s = tt
whole_up i b (from_left j (pos c) v ∷ w) l r s = tt
whole_up i b (from_right j (pos c) v ∷ w) l r s = tt
whole_up i b (from_left j (negsuc n) v ∷ w) l r s = (part_split w (fork j (negsuc n) (fork i (pos b) l r) v) s).2.left_below
whole_up i b (from_right j (negsuc n) v ∷ w) l r s = (part_split w (fork j (negsuc n) v (fork i (pos b) l r)) s).2.right_below

-- what is under a key in a part is so in the whole
pub value_in_whole : (key : ℕ) (w : List Step) (t : Tree) → IsWhole w → Split (plug w t) → spine_of key t ≤ spine_of key (plug w t)
value_in_whole key [] t h s = omega arith
value_in_whole key (from_left i (negsuc n) r ∷ w) t h s = absurd h
value_in_whole key (from_right i (negsuc n) l ∷ w) t h s = absurd h
value_in_whole key (from_left i (pos b) r ∷ w) t h s =
    let x : spine_of key (fork i (pos b) t r) ≤ spine_of key (plug w (fork i (pos b) t r)) = value_in_whole key w (fork i (pos b) t r) (whole_up i b w t r s) s in
    let y : spine_of key t + spine_of key r ≤ spine_of key (plug w (fork i (pos b) t r)) = x in
    omega (arith, y)
value_in_whole key (from_right i (pos b) l ∷ w) t h s =
    let x : spine_of key (fork i (pos b) l t) ≤ spine_of key (plug w (fork i (pos b) l t)) = value_in_whole key w (fork i (pos b) l t) (whole_up i b w l t s) s in
    let y : spine_of key l + spine_of key t ≤ spine_of key (plug w (fork i (pos b) l t)) = x in
    omega (arith, y)

-- where a part's value rises, the whole's does by as much
pub value_up : (key k d : ℕ) (w : List Step) (s g : Tree) → Fits key w → spine_of k g ≡ spine_of k s + d → spine_of k (plug w g) ≡ spine_of k (plug w s) + d
value_up key k d [] s g f e = e
value_up key k d (from_left i (negsuc n) r ∷ w) s g f e = absurd f
value_up key k d (from_right i (negsuc n) l ∷ w) s g f e = absurd f
value_up key k d (from_left i (pos b) r ∷ w) s g f e =
    let x : spine_of k g + spine_of k r ≡ spine_of k s + spine_of k r + d = omega (arith, e) in
    value_up key k d w (fork i (pos b) s r) (fork i (pos b) g r) f.1 x
value_up key k d (from_right i (pos b) l ∷ w) s g f e =
    let x : spine_of k l + spine_of k g ≡ spine_of k l + spine_of k s + d = omega (arith, e) in
    value_up key k d w (fork i (pos b) l s) (fork i (pos b) l g) f.1 x

-- a new leaf beside a tree brings no value
pub grown_value : (k : ℕ) (side : Side) (e b key : ℕ) (t : Tree) → spine_of k (grown side e (pos b) key t) ≡ spine_of k t + 0
grown_value k sides.Left e b key t = let x : 0 + spine_of k t ≡ spine_of k t + 0 = omega arith in x
grown_value k sides.Right e b key t = refl

-- ---- where a part shrinks

value_down : (key : ℕ) (w : List Step) (s g : Tree) → Split (plug w s) → ((P : ℕ → Type 0) → Keys P s → Keys P g) → (IsTwins s → spine_value g ≤ spine_value s) → spine_of key g ≤ spine_of key s → spine_of key (plug w g) ≤ spine_of key (plug w s)
value_down key [] s g o ks f c = c
value_down key (from_left i (pos b) r ∷ w) s g o ks f c =
    let x : spine_of key g + spine_of key r ≤ spine_of key s + spine_of key r = omega (arith, c) in
    value_down key w (fork i (pos b) s r) (fork i (pos b) g r) o (λ P y. (ks P y.0, y.1)) (λ y. absurd y) x
value_down key (from_right i (pos b) l ∷ w) s g o ks f c =
    let x : spine_of key l + spine_of key g ≤ spine_of key l + spine_of key s = omega (arith, c) in
    value_down key w (fork i (pos b) l s) (fork i (pos b) l g) o (λ P y. (y.0, ks P y.1)) (λ y. absurd y) x
value_down key (from_left i (negsuc n) r ∷ w) s g o ks f c =
    let p : Split (fork i (negsuc n) s r) = part_split w (fork i (negsuc n) s r) o in
    let same : first_key g ≡ first_key s = first_key_keys (λ x. x ≡ p.2.k) g (ks (λ x. x ≡ p.2.k) p.2.left) ∙ sym (first_key_keys (λ x. x ≡ p.2.k) s p.2.left) in
    let v : ℕ = 2 ^ n + spine_value r in
    let x : cond (eqb (first_key g) key) v 0 ≤ cond (eqb (first_key s) key) v 0 = subst (λ m. cond (eqb m key) v 0 ≤ cond (eqb (first_key s) key) v 0) (sym same) (cond_le (eqb (first_key s) key) v v (omega arith)) in
    value_down key w (fork i (negsuc n) s r) (fork i (negsuc n) g r) o (λ P y. (ks P y.0, y.1)) (λ y. let z : 2 ^ n + spine_value r ≤ 2 ^ n + spine_value r = omega arith in z) x
value_down key (from_right i (negsuc n) l ∷ w) s g o ks f c =
    let p : Split (fork i (negsuc n) l s) = part_split w (fork i (negsuc n) l s) o in
    let le : spine_value g ≤ spine_value s = f (below_twins n s p.2.right_below) in
    let z : 2 ^ n + spine_value g ≤ 2 ^ n + spine_value s = omega (arith, le) in
    value_down key w (fork i (negsuc n) l s) (fork i (negsuc n) l g) o (λ P y. (y.0, ks P y.1)) (λ y. z) (cond_le (eqb (first_key l) key) (2 ^ n + spine_value g) (2 ^ n + spine_value s) z)

-- the spine value of a tree below a depth
spine_small : (n : ℕ) (t : Tree) → Split t → IsBelow n t → spine_value t < 2 ^ n
spine_small n (tip e k) s h = pow_pos n
spine_small n (fork i (pos b) l r) s h = absurd h
spine_small n (fork i (negsuc m) l r) s h =
    let x : spine_value r < 2 ^ m = spine_small m r s.4 s.2.right_below in
    let lt : m < n = h in
    let y : 2 ^ suc m ≤ 2 ^ n = pow_le (suc m) n (omega arith) in
    let z : 2 ^ suc m ≡ 2 ^ m + 2 ^ m = omega arith in
    let v : 2 ^ m + spine_value r < 2 ^ n = omega arith in
    v

pair_keys : (side : Side) (e p k : ℕ) (b : ℤ) (u : Tree) (P : ℕ → Type 0) → Keys P (paired side p b (tip e k) u) → Keys P u
pair_keys sides.Left e p k b u P h = h.1
pair_keys sides.Right e p k b u P h = h.0

pair_value : (side : Side) (e p k : ℕ) (b : ℤ) (u : Tree) → Split (paired side p b (tip e k) u) → IsTwins (paired side p b (tip e k) u) → spine_value u ≤ spine_value (paired side p b (tip e k) u)
pair_value sides.Left e p k (pos b) u o h = absurd h
pair_value sides.Right e p k (pos b) u o h = absurd h
pair_value sides.Left e p k (negsuc n) u o h = let z : spine_value u ≤ 2 ^ n + spine_value u = omega arith in z
pair_value sides.Right e p k (negsuc n) u o h =
    let x : spine_value u < 2 ^ n = spine_small n u o.3 o.2.left_below in
    let z : spine_value u ≤ 2 ^ n + 0 = omega arith in
    z

pair_of_key : (side : Side) (e p k key : ℕ) (b : ℤ) (u : Tree) → Split (paired side p b (tip e k) u) → spine_of key u ≤ spine_of key (paired side p b (tip e k) u)
pair_of_key sides.Left e p k key (pos b) u o = let z : spine_of key u ≤ 0 + spine_of key u = omega arith in z
pair_of_key sides.Right e p k key (pos b) u o = let z : spine_of key u ≤ spine_of key u + 0 = omega arith in z
pair_of_key sides.Left e p k key (negsuc n) u o =
    let same : first_key u ≡ k = first_key_keys (λ x. x ≡ o.2.k) u o.2.right ∙ sym o.2.left in
    let own : spine_of key u ≡ cond (eqb k key) (spine_value u) 0 = twin_value key u (below_twins n u o.2.right_below) ∙ ap (λ m. cond (eqb m key) (spine_value u) 0) same in
    let le : spine_value u ≤ 2 ^ n + spine_value u = omega arith in
    subst (λ m. m ≤ cond (eqb k key) (2 ^ n + spine_value u) 0) (sym own) (cond_le (eqb k key) (spine_value u) (2 ^ n + spine_value u) le)
pair_of_key sides.Right e p k key (negsuc n) u o =
    let own : spine_of key u ≡ cond (eqb (first_key u) key) (spine_value u) 0 = twin_value key u (below_twins n u o.2.left_below) in
    let x : spine_value u < 2 ^ n = spine_small n u o.3 o.2.left_below in
    let le : spine_value u ≤ 2 ^ n + 0 = omega arith in
    subst (λ m. m ≤ cond (eqb (first_key u) key) (2 ^ n + 0) 0) (sym own) (cond_le (eqb (first_key u) key) (spine_value u) (2 ^ n + 0) le)

-- no spine value rises where the leaf and the node above it go
pub value_shrinks : (w : List Step) (side : Side) (e p k key : ℕ) (b : ℤ) (u : Tree) → Split (plug w (paired side p b (tip e k) u)) → spine_of key (plug w u) ≤ spine_of key (plug w (paired side p b (tip e k) u))
value_shrinks w side e p k key b u o =
    let s : Split (paired side p b (tip e k) u) = part_split w (paired side p b (tip e k) u) o in
    value_down key w (paired side p b (tip e k) u) u o (pair_keys side e p k b u) (pair_value side e p k b u s) (pair_of_key side e p k key b u s)

-- ---- how long spines and ways are

-- a spine below a depth has at most as many nodes
length_below : (n : ℕ) (t : Tree) → Split t → IsBelow n t → spine_length t ≤ n
length_below n (tip e k) s h = omega arith
length_below n (fork i (pos b) l r) s h = absurd h
length_below n (fork i (negsuc m) l r) s h =
    let x : spine_length r ≤ m = length_below m r s.4 s.2.right_below in
    let lt : m < n = h in
    let z : spine_length r + 1 ≤ n = omega (arith, x, lt) in
    z

-- a spine of k nodes has at least the value of k ones
pub spine_short : (t : Tree) → Split t → 2 ^ spine_length t ≤ spine_value t + 1
spine_short (tip e k) s = omega arith
spine_short (fork i (pos b) l r) s = omega arith
spine_short (fork i (negsuc n) l r) s =
    let x : 2 ^ spine_length r ≤ spine_value r + 1 = spine_short r s.4 in
    let y : 2 ^ spine_length r ≤ 2 ^ n = pow_le (spine_length r) n (length_below n r s.4 s.2.right_below) in
    let one : suc (spine_length r) ≡ spine_length r + 1 = omega arith in
    let two : 2 ^ suc (spine_length r) ≡ 2 ^ spine_length r + 2 ^ spine_length r = omega arith in
    let z : 2 ^ suc (spine_length r) ≤ 2 ^ n + spine_value r + 1 = omega (arith, x, y, two) in
    subst (λ m. 2 ^ m ≤ 2 ^ n + spine_value r + 1) one z

-- how many bits of the keys can be at nodes from here down
abbrev pub bits_left : Tree → ℕ
bits_left (tip e k) = 0
bits_left (fork i (pos b) l r) = b + 1
bits_left (fork i (negsuc n) l r) = 0

bits_fit : (t : Tree) → Split t → bits_left t ≤ 32
bits_fit (tip e k) s = omega arith
bits_fit (fork i (pos b) l r) s = let x : b < 32 = s.1 in let y : b + 1 ≤ 32 = omega arith in y
bits_fit (fork i (negsuc n) l r) s = omega arith

bits_fall : (b : ℕ) (t : Tree) → tree_rank t < bit_rank (pos b) → bits_left t ≤ b
bits_fall b (tip e k) h = omega arith
bits_fall b (fork i (pos c) l r) h = let x : bit_rank (pos c) < bit_rank (pos b) = h in let y : c + 1 ≤ b = omega arith in y
bits_fall b (fork i (negsuc n) l r) h = omega arith

way_bits : (key : ℕ) (w : List Step) (t : Tree) → Fits key w → Split (plug w t) → length w + bits_left t ≤ 32
way_bits key [] t f s = let x : bits_left t ≤ 32 = bits_fit t s in omega arith
way_bits key (from_left i (negsuc n) r ∷ w) t f s = absurd f
way_bits key (from_right i (negsuc n) l ∷ w) t f s = absurd f
way_bits key (from_left i (pos b) r ∷ w) t f s =
    let x : length w + (b + 1) ≤ 32 = way_bits key w (fork i (pos b) t r) f.1 s in
    let y : bits_left t ≤ b = bits_fall b t (falls_left i (pos b) t r (part_split w (fork i (pos b) t r) s)) in
    omega (arith, x, y)
way_bits key (from_right i (pos b) l ∷ w) t f s =
    let x : length w + (b + 1) ≤ 32 = way_bits key w (fork i (pos b) l t) f.1 s in
    let y : bits_left t ≤ b = bits_fall b t (falls_right i (pos b) l t (part_split w (fork i (pos b) l t) s)) in
    omega (arith, x, y)

-- a way that a key fits has at most 32 steps
pub way_short : (key : ℕ) (w : List Step) (t : Tree) → Fits key w → Split (plug w t) → length w ≤ 32
way_short key w t f s = omega (arith, way_bits key w t f s)

-- ---- keys among items

or_right : (b c : Bool) → c ≡ true → (b || c) ≡ true
or_right true c h = refl
or_right false c h = h

pub keys_have : (key : ℕ) (t : Tree) → Keys (λ x. x ≡ key) t → has_key key (items t) ≡ true
keys_have key (tip e k) h = rw (eq-eqb k key h) refl
keys_have key (fork i b l r) h = list_any-append (λ (y : KeyedItem). eqb y.key key) (items l) (items r) ∙ or_right _ _ (keys_have key r h.1)

pub middle_has : (key : ℕ) (xs ys zs : List KeyedItem) → has_key key ys ≡ true → has_key key (xs ++ (ys ++ zs)) ≡ true
middle_has key xs ys zs h =
    list_any-append (λ (y : KeyedItem). eqb y.key key) xs (ys ++ zs)
    ∙ or_right _ _ (list_any-append (λ (y : KeyedItem). eqb y.key key) ys zs ∙ rw h refl)

pub none_has : (key : ℕ) (xs : List KeyedItem) → AllKeys (λ x. x ≡ key → ⊥) xs → has_key key xs ≡ false
none_has key [] h = refl
none_has key (x ∷ xs) h = rw (ne_eqb x.key key h.0) (none_has key xs h.1)

-- ---- a root's bound

pub rises_bound : (m : ℕ) (before after : Option Tree) (key : ℕ) → Rises before after key → SpinesIn m before → SpinesIn (m + 1) after
rises_bound m before after key r s k =
    let old : spine_in k before ≤ m = s k in
    elim (cases_eq k key) [
      | inl e ↦
          let own : spine_in key before ≤ m = s key in
          let up : spine_in key after ≤ m + 1 = elim (cases_Bool (has_key key (items_of before))) [
            | inl h ↦ omega (arith, r.same_key h, own)
            | inr h ↦ omega (arith, r.new_key h, own)
          ] in
          subst (λ x. spine_in x after ≤ m + 1) (sym e) up
      | inr n ↦ omega (arith, r.other_keys k n, old)
    ]
